use Rattle.std.proofs.Common.{rules, ◌∙◌, ◌+◌, ◌++◌, List, ℕ, ap, sym, length, take, refl, append_assoc, arith}
use Rattle.std.proofs.lemmas.List.{take_all}
use Rattle.mac_decide.specs.declared.job.Job.{Job}
use Rattle.mac_serve.specs.declared.outbound.OutboundFault.TheVariants as fault
use Rattle.mac_serve.specs.Sending.{out_text}
use Rattle.mac_serve.proofs.SendingLemmas.{fell-held, holds-flushed, out-grown, fell-cut}
use Rattle.mac_serve.proofs.outbound.Outbound.flush.Goals as goal

pub returns-in_default : goal.returns-in_default
returns-in_default g c = record {
  ring = refl;
  taker = refl;
  version = refl;
  base = refl;
  holds = λ earlier h. (λ is. absurd cc, fell-held earlier c.args.self.now fault.Exhausted h (λ is. absurd cc));
  written = λ tells earlier head h was. was;
  sent = tt;
  counts = refl;
}

pub returns-in-Ok : goal.returns-in-Ok
returns-in-Ok g c = record {
  ring = refl;
  taker = refl;
  version = refl;
  base = refl;
  holds = λ earlier h.
      holds-flushed earlier c.args.self.now c.clear.new.self c.next_place-due.result c.in-Some.written h c.clear.ensures.items c.next_place-due.ensures.next
      (omega (arith, c.in-Some.ensures, c.len.ensures, c.args.self.now.gathered.ok));
  written = λ tells earlier head h was.
      let o = c.args.self.now in
      let items : List ℕ = o.gathered.items in
      let grown = out-grown earlier o c.in-Some.written (length items) h (omega arith) (omega (arith, c.in-Some.ensures, c.len.ensures, o.gathered.ok)) in
      c.in-Ok.ensures.ok tells ∙ ap (λ (l : List ℕ). g.W.Sink.written c.args.sink.now ++ l) c.as_slice.ensures.value ∙ ap (λ (l : List ℕ). l ++ items) was
      ∙ append_assoc head (out_text o) items
      ∙ ap (λ (l : List ℕ). head ++ l) (sym (grown ∙ ap (λ (l : List ℕ). out_text o ++ l) (take_all (length items) items (omega arith))));
  sent = search rules;
  counts = search rules;
}

pub returns-in-Err : goal.returns-in-Err
returns-in-Err g c = record {
  ring = refl;
  taker = refl;
  version = refl;
  base = refl;
  holds = λ earlier h. (
    λ is. absurd cc,
    fell-cut earlier c.args.self.now _ c.in-Err.count c.whole_frames.result c.saturating_add-self.result (c.args.self.now.written + c.in-Err.count) h
        (λ (job : Job). c.replies_can_be_sent.ensures job.arrival job.basis) (omega (arith, c.next_place-due.ensures.next, c.next_place-due.type_inv))
        (rw c.as_slice.ensures.value at c.in-Err.ensures.bound) (ap (take c.in-Err.count) c.deref.ensures.value) c.whole_frames.ensures c.saturating_add-self.ensures refl,
  );
  written = λ tells earlier head h was.
      let o = c.args.self.now in
      let items : List ℕ = o.gathered.items in
      let bound = rw c.as_slice.ensures.value at c.in-Err.ensures.bound in
      let grown = out-grown earlier o (o.written + c.in-Err.count) c.in-Err.count h (omega (arith, bound)) refl in
      c.in-Err.ensures.sent tells ∙ ap (λ (l : List ℕ). g.W.Sink.written c.args.sink.now ++ take c.in-Err.count l) c.as_slice.ensures.value
      ∙ ap (λ (l : List ℕ). l ++ take c.in-Err.count items) was ∙ append_assoc head (out_text o) (take c.in-Err.count items)
      ∙ ap (λ (l : List ℕ). head ++ l) (sym grown);
  sent = search rules;
  counts = search rules;
}
