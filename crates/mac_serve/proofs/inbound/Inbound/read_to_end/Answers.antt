use Rattle.std.proofs.Common.{rules, [], ◌++◌, ◌≡◌, refl, sym, subst, ap, ◌∙◌}
use Rattle.std.specs.Prelude.{Result, Option, Ok, Some, None}
use Rattle.std.specs.declared.alloc.Global.{Global}
use Rattle.std.specs.declared.vec.Vec.{Vec}
use Rattle.mac_wire.specs.declared.arrival.Arrival.{Arrival}
use Rattle.mac_wire.specs.Stream.{version_or_one}
use Rattle.mac_serve.specs.declared.incoming.InboundFault.{InboundFault}
use Rattle.mac_serve.specs.Receiving.{Reads, TakesUnder, read_of}
use Rattle.mac_serve.proofs.ReceivingLemmas.{begins, began-badly, not-begun, ended-at-once, has-finished, run-residual, same-nothing, told-ended}
use Rattle.mac_serve.proofs.inbound.Inbound.read_to_end.Goals as goal

abbrev First : Type 0
First = Result (Option (Vec Arrival Global)) InboundFault

pub returns-in_err-first : goal.returns-in_err-first
returns-in_err-first g c = record {
  same = same-nothing c.args.self.now;
  run = λ past from is_past reads.
      let reader = c.args.incoming.now.reader in
      let why = c.in_err-first.field-0.0 in
      let failed = subst (λ (r : First). Reads g.In.Source.tells from (g.In.Source.taken c.args.source.now) past.read past.arrived r reader) (sym c.replace.ensures.value ∙ c.in_err-first.was) reads in
      run-residual g.In.Source.tells (TakesUnder c.args.rights.now g.K.Outlook.tells (g.K.Outlook.known c.args.outlook.now) (g.K.Outlook.known c.args.outlook.now)) (version_or_one reader.version) past from (g.In.Source.taken c.args.source.now) reader c.from_residual.result why c.args.self.now c.args.self.now
      c.from_residual.ensures.1 (began-badly c.args.rights.now g.In.Source.tells g.K.Outlook.tells (g.K.Outlook.known c.args.outlook.now) past from (g.In.Source.taken c.args.source.now) reader c.args.self.now why is_past failed);
  at_end = search rules;
  counts = search rules;
}

pub returns-then-not-await_outbound : goal.returns-then-not-await_outbound
returns-then-not-await_outbound g c = record {
  same = same-nothing c.args.self.now;
  run = λ past from is_past reads.
      let reader = c.args.incoming.now.reader in
      let read = subst (λ (r : First). Reads g.In.Source.tells from (g.In.Source.taken c.args.source.now) past.read past.arrived r reader) (sym c.replace.ensures.value ∙ c.in_ok-first.was) reads in
      not-begun c.args.rights.now g.In.Source.tells g.K.Outlook.tells (g.K.Outlook.known c.args.outlook.now) past from (g.In.Source.taken c.args.source.now) reader c.args.self.now c.in_ok-first.first is_past read;
  at_end = search rules;
  counts = search rules;
}

pub returns-in_default : goal.returns-in_default
returns-in_default g c = record {
  same = same-nothing c.args.self.now;
  run = λ past from is_past reads.
      let reader = c.args.incoming.now.reader in
      let none : c.args.incoming.now.first ≡ Ok None = sym c.replace.ensures.value ∙ c.in_ok-first.was ∙ ap Ok c.in_default.is in
      let read = subst (λ (r : First). Reads g.In.Source.tells from (g.In.Source.taken c.args.source.now) past.read past.arrived r reader) none reads in
      ended-at-once c.args.rights.now g.In.Source.tells g.K.Outlook.tells (g.K.Outlook.known c.args.outlook.now) past from (g.In.Source.taken c.args.source.now) reader c.finish.new.self.reader c.args.self.now c.finish.result read c.finish.ensures.ending c.finish.ensures.whole;
  at_end = λ ended past from reads other.
      let reader = c.args.incoming.now.reader in
      let none : c.args.incoming.now.first ≡ Ok None = sym c.replace.ensures.value ∙ c.in_ok-first.was ∙ ap Ok c.in_default.is in
      let read = subst (λ (r : First). Reads g.In.Source.tells from (g.In.Source.taken c.args.source.now) past.read past.arrived r reader) none reads in
      told-ended c.finish.result _ _ ((rw none at ended) refl) c.finish.ensures.oversize (c.finish.ensures.whole past.read past.arrived read.1) other;
  counts = search rules;
}

pub returns-in_err-take_all : goal.returns-in_err-take_all
returns-in_err-take_all g c = record {
  same = c.take_all.ensures.same;
  run = λ past from is_past reads.
      let reader = c.args.incoming.now.reader in
      let some : c.args.incoming.now.first ≡ Ok (Some c.in-Some.arrivals) = sym c.replace.ensures.value ∙ c.in_ok-first.was ∙ ap Ok c.in-Some.is in
      let read = subst (λ (r : First). Reads g.In.Source.tells from (g.In.Source.taken c.args.source.now) past.read past.arrived r reader) some reads in
      let on = begins c.args.rights.now g.In.Source.tells g.K.Outlook.tells (g.K.Outlook.known c.args.outlook.now) past from (g.In.Source.taken c.args.source.now) reader c.args.self.now c.in-Some.arrivals read in
      let run = rw c.in_err-take_all.was at (c.take_all.ensures.goes_on (g.K.Outlook.known c.args.outlook.now) (version_or_one reader.version) past from c.args.self.now on) in
      run-residual g.In.Source.tells (TakesUnder c.args.rights.now g.K.Outlook.tells (g.K.Outlook.known c.args.outlook.now) (g.K.Outlook.known c.take_all.new.outlook)) (version_or_one reader.version) past from (g.In.Source.taken c.take_all.new.source) c.take_all.new.incoming.reader c.from_residual-in_err-take_all.result c.in_err-take_all.field-0.0
      c.args.self.now c.take_all.new.self c.from_residual-in_err-take_all.ensures.1 run;
  at_end = search rules;
  counts = search rules;
}

pub returns : goal.returns
returns g c = record {
  same = c.take_all.ensures.same;
  run = λ past from is_past reads.
      let reader = c.args.incoming.now.reader in
      let some : c.args.incoming.now.first ≡ Ok (Some c.in-Some.arrivals) = sym c.replace.ensures.value ∙ c.in_ok-first.was ∙ ap Ok c.in-Some.is in
      let read = subst (λ (r : First). Reads g.In.Source.tells from (g.In.Source.taken c.args.source.now) past.read past.arrived r reader) some reads in
      let on = begins c.args.rights.now g.In.Source.tells g.K.Outlook.tells (g.K.Outlook.known c.args.outlook.now) past from (g.In.Source.taken c.args.source.now) reader c.args.self.now c.in-Some.arrivals read in
      let all = rw c.in_ok-take_all.was at (c.take_all.ensures.goes_on (g.K.Outlook.known c.args.outlook.now) (version_or_one reader.version) past from c.args.self.now on) in
      has-finished g.In.Source.tells (TakesUnder c.args.rights.now g.K.Outlook.tells (g.K.Outlook.known c.args.outlook.now) (g.K.Outlook.known c.take_all.new.outlook)) (version_or_one c.args.incoming.now.reader.version) past from (g.In.Source.taken c.take_all.new.source) c.take_all.new.incoming.reader c.finish-2.new.self.reader c.args.self.now c.take_all.new.self
      c.finish-2.result all c.finish-2.ensures.ending c.finish-2.ensures.whole;
  at_end = λ at_end past from reads other.
      let reader = c.args.incoming.now.reader in
      let some : c.args.incoming.now.first ≡ Ok (Some c.in-Some.arrivals) = sym c.replace.ensures.value ∙ c.in_ok-first.was ∙ ap Ok c.in-Some.is in
      let read = subst (λ (r : First). Reads g.In.Source.tells from (g.In.Source.taken c.args.source.now) past.read past.arrived r reader) some reads in
      let on = begins c.args.rights.now g.In.Source.tells g.K.Outlook.tells (g.K.Outlook.known c.args.outlook.now) past from (g.In.Source.taken c.args.source.now) reader c.args.self.now c.in-Some.arrivals read in
      let all = rw c.in_ok-take_all.was at (c.take_all.ensures.goes_on (g.K.Outlook.known c.args.outlook.now) (version_or_one reader.version) past from c.args.self.now on) in
      told-ended c.finish-2.result _ _ (rw c.in_ok-take_all.was at c.take_all.ensures.end) c.finish-2.ensures.oversize (c.finish-2.ensures.whole (past.read ++ all.stream) (past.arrived ++ (read_of all.readings ++ [])) all.read) other;
  counts = search rules;
}
