use Rattle.std.proofs.Common.{refl, sym, subst, ◌∙◌, arith}
use Rattle.std.proofs.lemmas.Bool.{false≢true}
use Rattle.std.proofs.lemmas.List.Elements.{All-contains_itself, All-nil}
use Rattle.std.proofs.lemmas.Option.{slice_get_within}
use Rattle.mac_decide.specs.Folding.{texts_of}
use Rattle.mac_decide.specs.Verdict.{AreAmong, Satisfied}
use Rattle.mac_decide.proofs.WalkLemmas.{end-of-drop, first-here, first-of-drop, satisfied-all, satisfied-next}
use Rattle.mac_decide.proofs.verdict.unsatisfied_in.Goals as goal

pub loop-caveat-init : goal.loop-caveat-init
loop-caveat-init c =
    record {
      before = All-nil (λ caveat. Satisfied caveat c.args.context.now);
      left = refl;
      ahead = subst (λ some. AreAmong some c.args.context.now.facts) (sym c.walk-ahead.ensures) (All-contains_itself c.args.context.now.facts);
    }

pub returns-then-not-satisfied_in_order : goal.returns-then-not-satisfied_in_order
returns-then-not-satisfied_in_order c =
    let all = texts_of c.args.caveats in
    let first = first-of-drop all c.loop-caveat.index c.in-Some.caveat.now (texts_of c.next.new.self) (c.loop-caveat.invariant.left ∙ sym c.in-Some.ensures) in
    first-here c.args.context.now all c.loop-caveat.index c.in-Some.caveat.now first.0 c.loop-caveat.invariant.before
    (λ is. false≢true (sym c.if-not-satisfied_in_order.true ∙ c.satisfied_in_order.ensures.satisfied.1 is))

pub overflow_add-index : goal.overflow_add-index
overflow_add-index c =
    let all = texts_of c.args.caveats in
    let first = first-of-drop all c.loop-caveat.index c.in-Some.caveat.now (texts_of c.next.new.self) (c.loop-caveat.invariant.left ∙ sym c.in-Some.ensures) in
    omega (arith, slice_get_within all c.loop-caveat.index c.in-Some.caveat.now first.0, c.requires)

pub loop-caveat-preserved : goal.loop-caveat-preserved
loop-caveat-preserved c =
    let all = texts_of c.args.caveats in
    let first = first-of-drop all c.loop-caveat.index c.in-Some.caveat.now (texts_of c.next.new.self) (c.loop-caveat.invariant.left ∙ sym c.in-Some.ensures) in
    record {
      before = satisfied-next c.args.context.now all c.loop-caveat.index c.in-Some.caveat.now first.0 c.loop-caveat.invariant.before (c.satisfied_in_order.ensures.satisfied.0 c.if-not-satisfied_in_order.false);
      left = first.1;
      ahead = c.satisfied_in_order.ensures.ahead;
    }

pub returns : goal.returns
returns c =
    let all = texts_of c.args.caveats in
    satisfied-all c.args.context.now all c.loop-caveat.index (end-of-drop all c.loop-caveat.index (c.loop-caveat.invariant.left ∙ sym c.in_default.ensures)) c.loop-caveat.invariant.before
