use Rattle.std.proofs.Common.{rules, ◌++◌, ◌∙◌, ap, sym, refl, append-nil, take, List, ℕ, arith}
use Rattle.std.proofs.lemmas.List.{take-append-drop, drop_all}
use Rattle.mac_serve.proofs.outbound.Outbound.send_unsent.Goals as goal

pub returns-in-Ok : goal.returns-in-Ok
returns-in-Ok g c = record {
  ahead = c.args.unsent.now;
  parts = sym (ap (λ (l : List ℕ). c.args.unsent.now ++ l) (c.remove.ensures ∙ drop_all c.len.result c.args.unsent.now (omega (arith, c.len.ensures))) ∙ append-nil c.args.unsent.now);
  all = c.remove.ensures ∙ drop_all c.len.result c.args.unsent.now (omega (arith, c.len.ensures));
  written = λ tells. c.in-Ok.ensures.ok tells ∙ ap (λ (l : List ℕ). g.W.Sink.written c.args.sink.now ++ l) c.as_slice.ensures;
  counts = search rules;
}

pub returns-in-Err : goal.returns-in-Err
returns-in-Err g c = record {
  ahead = take c.in-Err.count c.args.unsent.now;
  parts = sym (ap (λ (l : List ℕ). take c.in-Err.count c.args.unsent.now ++ l) c.remove-in-Err.ensures ∙ take-append-drop c.in-Err.count c.args.unsent.now);
  all = refl;
  written = λ tells. c.in-Err.ensures.sent tells ∙ ap (λ (l : List ℕ). g.W.Sink.written c.args.sink.now ++ take c.in-Err.count l) c.as_slice.ensures;
  counts = search rules;
}
