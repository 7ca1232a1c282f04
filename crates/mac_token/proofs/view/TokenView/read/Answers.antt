use Rattle.std.proofs.Common.{◌≡◌, Ok, subst}
use Rattle.std.proofs.lemmas.Result.{err_from_is_err_and}
use Rattle.mac_token.specs.Read.{Carried, carried_of, raw_read_of, read_of}
use Rattle.mac_token.proofs.ReadLaws.{carried_means, fault_carried, fault_through}
use Rattle.mac_token.proofs.view.TokenView.read.Goals as goal

pub returns-in_err-carries_itself-clause-answer : goal.returns-in_err-carries_itself-clause-answer
unfolding read_of raw_read_of
returns-in_err-carries_itself-clause-answer c =
    let p = err_from_is_err_and c.from_residual.result c.from_residual.ensures.1 in
    let fault = c.in_err-carries_itself.field-0.0 in
    let carried = fault_carried fault (carried_of c.args.input.now) c.in_err-carries_itself.ensures.answer in
    rw (p.1, p.2) (fault_through fault (raw_read_of c.args.input.now) carried)

pub returns-in_err-carries_itself-clause-memory : goal.returns-in_err-carries_itself-clause-memory
returns-in_err-carries_itself-clause-memory c =
    let p = err_from_is_err_and c.from_residual.result c.from_residual.ensures.1 in
    rw (p.1, p.2) (λ e. c.in_err-carries_itself.ensures.memory cc)

pub returns-then-branch-clause-answer : goal.returns-then-branch-clause-answer
unfolding read_of raw_read_of
returns-then-branch-clause-answer c =
    let carried : carried_of c.args.input.now ≡ Ok c.args.input.now = rw c.if-branch.true at c.in_ok-carries_itself.ensures.answer in
    rw carried c.view_bare.ensures

pub returns-then-branch-clause-memory : goal.returns-then-branch-clause-memory
returns-then-branch-clause-memory c = λ refused.
    let input = c.args.input.now in
    (subst (Carried input) c.in_ok-carries_itself.ensures.answer (carried_means input)).0

pub returns-else-branch-clause-answer : goal.returns-else-branch-clause-answer
unfolding read_of raw_read_of
returns-else-branch-clause-answer c =
    let held = c.carries_itself.new.room.items in
    let carried : carried_of c.args.input.now ≡ Ok held = rw c.if-branch.false at c.in_ok-carries_itself.ensures.answer in
    rw carried c.view_held.ensures

pub returns-else-branch-clause-memory : goal.returns-else-branch-clause-memory
returns-else-branch-clause-memory c = λ refused.
    let input = c.args.input.now in
    (subst (Carried input) c.in_ok-carries_itself.ensures.answer (carried_means input)).0
