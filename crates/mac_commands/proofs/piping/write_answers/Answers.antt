use Rattle.std.proofs.Common.{◌∙◌, ◌∷◌, List, ℕ, ap, sym, map}
use Rattle.mac_wire.specs.declared.arrival.Arrival.{Arrival}
use Rattle.mac_decide.specs.Answer.{full_answer}
use Rattle.mac_commands.specs.Arrived.{arrival_of}
use Rattle.mac_commands.specs.Lines.{lines}
use Rattle.mac_commands.specs.PipeText.{answers}
use Rattle.mac_commands.proofs.OutputLemmas.{ends-device, ends-memory, remains-begins, remains-more, remains-cut, writes-memory, writes-device}
use Rattle.mac_commands.proofs.piping.write_answers.Goals as goal

pub returns-in_err-arrival-clause-written : goal.returns-in_err-arrival-clause-written
returns-in_err-arrival-clause-written g c tells =
    writes-memory _ _ _ _ c.from_residual.ensures.1 (remains-begins _ _ _ _ (c.loop-line.invariant.0 tells))

pub returns-in_err-append_answer-clause-written : goal.returns-in_err-append_answer-clause-written
returns-in_err-append_answer-clause-written g c tells =
    writes-memory _ _ _ _ c.from_residual-in_err-append_answer.ensures.1 (remains-begins _ _ _ _ (c.loop-line.invariant.0 tells))

pub returns-in_err-send_all-clause-written : goal.returns-in_err-send_all-clause-written
returns-in_err-send_all-clause-written g c tells =
    let reply = full_answer c.args.moment c.args.table.now in
    let rest = ap (λ (ls : List (List ℕ)). answers reply (map arrival_of ls)) c.in-Some.ensures.line
    ∙ ap (λ (a : Arrival). answers reply (a ∷ map arrival_of (lines c.in-Some.behind.now))) (sym c.in_ok-arrival.ensures)
    ∙ c.rest_behind-rest.ensures.rest reply in
    let more = remains-more _ _ _ _ c.append_answer.new.out.items _ _ _ (c.loop-line.invariant.0 tells) c.in_ok-append_answer.ensures rest in
    let cut = c.in_err-send_all.ensures.sent tells in
    let gathered = c.as_slice.ensures.value in
    writes-device _ _ _ _ c.from_residual-in_err-send_all.ensures.1 (remains-cut _ _ _ _ _ _ _ more (rw gathered at cut))

pub returns-in_err-send_all-2-clause-written : goal.returns-in_err-send_all-2-clause-written
returns-in_err-send_all-2-clause-written g c tells =
    let cut = c.in_err-send_all-2.ensures.sent tells in
    let gathered = c.as_slice-2.ensures.value in
    writes-device _ _ _ _ c.from_residual-in_err-send_all-2.ensures.1
    (remains-cut _ _ _ _ _ _ _ (c.loop-line.invariant.0 tells) (rw gathered at cut))

pub returns-in_err-arrival-clause-ends : goal.returns-in_err-arrival-clause-ends
returns-in_err-arrival-clause-ends g c = ends-memory _ c.from_residual.ensures.1

pub returns-in_err-append_answer-clause-ends : goal.returns-in_err-append_answer-clause-ends
returns-in_err-append_answer-clause-ends g c = ends-memory _ c.from_residual-in_err-append_answer.ensures.1

pub returns-in_err-send_all-clause-ends : goal.returns-in_err-send_all-clause-ends
returns-in_err-send_all-clause-ends g c = ends-device _ c.from_residual-in_err-send_all.ensures.1

pub returns-in_err-send_all-2-clause-ends : goal.returns-in_err-send_all-2-clause-ends
returns-in_err-send_all-2-clause-ends g c = ends-device _ c.from_residual-in_err-send_all-2.ensures.1
