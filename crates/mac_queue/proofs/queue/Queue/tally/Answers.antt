use Rattle.std.proofs.Common.{◌≡◌, ℕ, ◌+◌, [], ◌∷◌, ◌++◌, List, length, length-append, All, arith, rules, ◌*◌, ap, sym, ◌∙◌, subst, append-nil, map}
use Rattle.std.proofs.lemmas.List.{length-map}
use Rattle.std.specs.List.{sum_by}
use Rattle.std.specs.Vec.Iter.{into_iter_items}
use Rattle.crossbeam_queue.specs.Passes.{view}
use Rattle.mac_queue.specs.Balance.{entry_of}
use Rattle.mac_queue.specs.Mail.{Mail}
use Rattle.mac_queue.specs.Pass.{Pass, all_put, all_claimed}
use Rattle.mac_queue.specs.declared.queue.account.Account.{Account}
use Rattle.mac_queue.specs.declared.queue.TheConstants.{PUTS_MAX}
use Rattle.mac_queue.specs.declared.ticket.Ticket.{Ticket}
use Rattle.mac_queue.proofs.Balance.{merges, learns, empty_list}
use Rattle.mac_queue.proofs.Passes.{all_first, all_others, move}
use Rattle.mac_queue.proofs.Totals.{ones, total_map}
use Rattle.mac_queue.proofs.queue.Queue.tally.Goals as goal

pub overflow_add-put : goal.overflow_add-put
overflow_add-put g c = omega arith

pub absorb-requires-clause-queue : goal.absorb-requires-clause-queue
absorb-requires-clause-queue g c =
    let pass = c.in-Some-pass.pass in
    let of_queue = λ (p : Pass g.row.S-Job.Denot). p.queue ≡ c.self.inside.cells.table.shared.table_id in
    let all = rw c.in-Some-pass.ensures.steps.0 at c.loop-pass.invariant.queue in
    let mine : pass.queue ≡ c.self.inside.cells.table.shared.table_id = all_first of_queue pass _ all in
    (c.loop-pass.invariant.seat, (ap (λ (p : Pass g.row.S-Job.Denot). p.queue) c.pass.view_is ∙ mine, c.pass.invariant.0))

pub absorb-requires-clause-rule : goal.absorb-requires-clause-rule
absorb-requires-clause-rule g c = merges _ _ _ _

pub len_as-left-requires-clause-rule : goal.len_as-left-requires-clause-rule
len_as-left-requires-clause-rule g c =
    learns _ _
    (let p = c.loop-pass.invariant.parts in
    let n = c.in-None.ensures.steps.0 in
    let e = c.loop-pass.pass-iterator.rest.ok.0 in
    omega arith)

pub overflow_sub-result : goal.overflow_sub-result
overflow_sub-result g c =
    let held = c.len_as-left.ensures.rule.1 in
    let all = held.2 (λ _. 1) in
    let n = held.1 in
    let count = c.loop-pass.invariant.count in
    omega (arith, ones (view c.loop-pass.whole).put, ones held.0)

pub returns : goal.returns
returns g c =
    let held = c.len_as-left.ensures.rule.1 in
    let invariant = c.loop-pass.invariant in
    let n = c.in-None.ensures.steps.0 in
    let e = c.loop-pass.pass-iterator.rest.ok.0 in
    let none : into_iter_items c.loop-pass.pass-iterator ≡ [] = empty_list _ (omega arith) in
    let put : (view c.loop-pass.whole).put ≡ all_put c.args.passes.items =
    sym (append-nil _) ∙ ap (λ (l : List (Pass g.row.S-Job.Denot)). (view c.loop-pass.whole).put ++ all_put l) (sym none) ∙ invariant.put in
    let claimed : (view c.loop-pass.whole).claimed ≡ all_claimed c.args.passes.items =
    sym (append-nil _) ∙ ap (λ (l : List (Pass g.row.S-Job.Denot)). (view c.loop-pass.whole).claimed ++ all_claimed l) (sym none) ∙ invariant.claimed in
    let entry : Ticket g.row.S.Denot g.row.S-Job.Denot g.row.S-Reply.Denot → Mail × (ℕ × g.row.S-Job.Denot) = entry_of in
    let one = held.2 (λ _. 1) in
    let count = invariant.count in
    let number = held.1 in
    record {
      left = map entry held.0;
      each = λ weight. let f = held.2 weight in omega (arith, ap (sum_by weight) put, ap (sum_by weight) claimed, total_map weight entry held.0);
      put_is = count ∙ ap length put;
      claimed_is = omega (arith, ap length claimed, ones (view c.loop-pass.whole).put, ones (view c.loop-pass.whole).claimed, ones held.0);
      left_is = omega (arith, length-map held.0 entry);
    }

pub loop-pass-init : goal.loop-pass-init
loop-pass-init g c =
    let first = c.in-Some.first in
    let others = into_iter_items c.into_iter-pass-iterator.result in
    let split : c.args.passes.items ≡ first ∷ others =
    sym c.into_iter-passes.ensures.rest ∙ c.in-Some.ensures.items ∙ ap (λ s. first ∷ into_iter_items s) (sym c.into_iter-pass-iterator.ensures.into_iter_gives) in
    let of_queue = λ (p : Pass g.row.S-Job.Denot). p.queue ≡ c.self.inside.cells.table.shared.table_id in
    let queue : All of_queue (first ∷ others) = subst (λ (l : List (Pass g.row.S-Job.Denot)). All of_queue l) split (rw (sym c.self.view_is) at c.requires.queue) in
    let put : first.put ≡ (view c.first.inside.seat).put = ap (λ (p : Pass g.row.S-Job.Denot). p.put) (sym c.first.view_is) in
    let claimed : first.claimed ≡ (view c.first.inside.seat).claimed = ap (λ (p : Pass g.row.S-Job.Denot). p.claimed) (sym c.first.view_is) in
    let count = c.requires.count in
    let p = c.first.invariant.1 in
    record {
      runs = search rules;
      ends = search rules;
      seat = (ap (λ (p : Pass g.row.S-Job.Denot). p.queue) c.first.view_is ∙ all_first of_queue first others queue, c.first.invariant.0);
      queue = all_others of_queue first others queue;
      parts = omega (arith, ap length split);
      put = ap (λ l. l ++ all_put others) (sym put) ∙ sym (ap (λ (l : List (Pass g.row.S-Job.Denot)). all_put l) split);
      claimed = ap (λ l. l ++ all_claimed others) (sym claimed) ∙ sym (ap (λ (l : List (Pass g.row.S-Job.Denot)). all_claimed l) split);
      count = c.first.invariant.2;
      bound = omega (arith, ap (λ n. n * PUTS_MAX) p);
    }

pub loop-pass-preserved : goal.loop-pass-preserved
loop-pass-preserved g c =
    let pass = c.in-Some-pass.pass in
    let invariant = c.loop-pass.invariant in
    let joined = c.absorb.ensures.rule in
    let others = into_iter_items c.next-in-loop-pass.new.self in
    let split : into_iter_items c.loop-pass.pass-iterator ≡ pass ∷ others = c.in-Some-pass.ensures.steps.0 in
    let of_queue = λ (p : Pass g.row.S-Job.Denot). p.queue ≡ c.self.inside.cells.table.shared.table_id in
    let queue : All of_queue (pass ∷ others) = subst (λ (l : List (Pass g.row.S-Job.Denot)). All of_queue l) split invariant.queue in
    let put : (view c.pass.inside.seat).put ≡ pass.put = ap (λ (p : Pass g.row.S-Job.Denot). p.put) c.pass.view_is in
    let claimed : (view c.pass.inside.seat).claimed ≡ pass.claimed = ap (λ (p : Pass g.row.S-Job.Denot). p.claimed) c.pass.view_is in
    let new_put = ap (λ (a : Account g.row.S-Job.Denot Mail). a.put) joined in
    let new_claimed = ap (λ (a : Account g.row.S-Job.Denot Mail). a.claimed) joined in
    let new_parts : (view c.absorb.new.pass).parts ≡ (view c.loop-pass.whole).parts + (view c.pass.inside.seat).parts = ap (λ (a : Account g.row.S-Job.Denot Mail). a.parts) joined in
    let part = c.pass.invariant.1 in
    let parts = invariant.parts in
    record {
      runs = search rules;
      ends = search rules;
      seat = search rules;
      queue = all_others of_queue pass others queue;
      parts = omega (arith, ap length split);
      put = move _ _ _ _ _ _ _ new_put put (ap (λ (l : List (Pass g.row.S-Job.Denot)). all_put l) split) invariant.put;
      claimed = move _ _ _ _ _ _ _ new_claimed claimed (ap (λ (l : List (Pass g.row.S-Job.Denot)). all_claimed l) split) invariant.claimed;
      count = omega (arith, invariant.count, c.pass.invariant.2, ap length new_put, length-append (view c.loop-pass.whole).put (view c.pass.inside.seat).put);
      bound = omega (arith, invariant.bound, c.pass.invariant.3, ap (λ n. n * PUTS_MAX) new_parts, ap (λ n. n * PUTS_MAX) part);
    }
