use Rattle.std.proofs.Common.{◌≡◌, ◌++◌, List, arith, ap, ◌∙◌, subst}
use Rattle.atomic_table.specs.Seated.{TableId}
use Rattle.mac_queue.specs.Line.{Line}
use Rattle.mac_queue.specs.Pass.{Pass}
use Rattle.mac_pool.specs.Pool.{Slots, at_home, HaveAnswered, IsFinished, passes_of}
use Rattle.mac_queue.specs.Tally.{IsTally}
use Rattle.mac_pool.proofs.Slots.{at_home_short}
use Rattle.mac_pool.proofs.Moves.{all_of_queues, idle_at, workers_idle}
use Rattle.mac_pool.proofs.pool.Pool.finish.Goals as goal

pub overflow_add-home_count : goal.overflow_add-home_count
overflow_add-home_count g c =
    let fit = c.self.invariant.slots_fit in
    let short = at_home_short c.self.inside.passes.items in
    let count = c.home_count.ensures in
    let type_inv = c.len.type_inv in
    let threads = c.self.inside.workers.small in
    let room = c.self.inside.workers.ok in
    let len = c.len.ensures in
    omega arith

pub bring_back-requires-clause-given : goal.bring_back-requires-clause-given
bring_back-requires-clause-given g c = λ _ _. idle_at c.deref-2.result.now.tickets _ _ (ap (λ (l : Line). l.tickets) c.deref-2.ensures) c.self.invariant.given_are

pub tally-tally-requires-clause-queue : goal.tally-tally-requires-clause-queue
tally-tally-requires-clause-queue g c =
    let brought = c.bring_back.ensures.brought in
    let workers = c.bring_back.new.came in
    let none = c.self.invariant.all_empty in
    let all : c.bring_home.new.all.items ≡ passes_of workers ++ at_home c.self.inside.passes.items =
    c.bring_home.ensures ∙ ap (λ (l : List (Pass g.row.S-Job.Denot)). l ++ at_home c.self.inside.passes.items) (brought.after_is ∙ ap (λ (l : List (Pass g.row.S-Job.Denot)). l ++ passes_of workers) none) in
    λ _ _. all_of_queues _ c.deref-2.result.now.tickets c.deref-3.result.now.tickets (passes_of workers) _ c.self.inside.passes.items (ap (λ (l : Line). l.tickets) c.deref-2.ensures) (ap (λ (l : Line). l.tickets) c.deref-3.ensures) all (workers_idle c.deref-2.result.now.tickets workers brought.answered) c.self.invariant.homes

pub returns-clause-finished : goal.returns-clause-finished
returns-clause-finished g c =
    let brought = c.bring_back.ensures.brought in
    let workers = c.bring_back.new.came in
    let none = c.self.invariant.all_empty in
    let all : c.bring_home.new.all.items ≡ passes_of workers ++ at_home c.self.inside.passes.items =
    c.bring_home.ensures ∙ ap (λ (l : List (Pass g.row.S-Job.Denot)). l ++ at_home c.self.inside.passes.items) (brought.after_is ∙ ap (λ (l : List (Pass g.row.S-Job.Denot)). l ++ passes_of workers) none) in
    let tally : IsTally (passes_of workers ++ at_home c.self.inside.passes.items) c.tally-tally.result = subst (λ (l : List (Pass g.row.S-Job.Denot)). IsTally l c.tally-tally.result) all c.tally-tally.ensures in
    subst (λ (p : Slots g.row.S-Job.Denot). IsFinished p workers c.tally-tally.result) c.self.view_is
    record {
      count = brought.count_is;
      answered = subst (λ (z : TableId). HaveAnswered z workers) (ap (λ (l : Line). l.tickets) c.deref-2.ensures) brought.answered;
      tally_is = tally;
    }
