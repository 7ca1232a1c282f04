use Rattle.std.proofs.Common.{rules, subst, ◌∙◌}
use Rattle.std.proofs.lemmas.Option.{get_or_from_slice_get, slice_get_within}
use Rattle.mac_serve.specs.Caller.{IsAttendedThere, devices}
use Rattle.mac_serve.proofs.whole.attend_each.Goals as goal

pub returns : goal.returns
returns g c = record {
  none_lost = search rules;
  each = λ number b a there after.
      let before = c.args.callers.now in
      let left = c.for_each_mut.new.s in
      let changed = (c.for_each_mut.ensures number b (slice_get_within before number b there)).1 in
      let was = changed.argument_is ∙ get_or_from_slice_get before number b b there in
      let is = changed.left ∙ get_or_from_slice_get left number a b after in
      let d = devices g.In.Source.tells g.In.Source.taken g.Out.Sink.tells g.Out.Sink.written g.K.Outlook.tells g.K.Outlook.known in
      subst (λ x. IsAttendedThere d x a) was (subst (λ y. IsAttendedThere d changed.argument.now y) is changed.call);
}
