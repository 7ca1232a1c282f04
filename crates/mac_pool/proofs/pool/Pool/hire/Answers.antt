use Rattle.std.proofs.Common.{◌≡◌, ℕ, ◌+◌, ◌++◌, ◌∷◌, [], None, set, length, length-append, map, arith, rules, ap, sym, ◌∙◌, subst}
use Rattle.std.proofs.lemmas.List.{length-map}
use Rattle.std.specs.Arc.{arc_value}
use Rattle.std.specs.declared.thread.PromisedHandle.{PromisedHandle}
use Rattle.mac_queue.specs.Line.{Line}
use Rattle.mac_queue.specs.Pass.{Pass}
use Rattle.mac_pool.specs.declared.work.Worked.{Worked}
use Rattle.mac_pool.specs.declared.pool.FromPass.{FromPass}
use Rattle.mac_pool.specs.Pool.{Slots, IsStarted, IsWorkers}
use Rattle.mac_pool.proofs.Slots.{unset_homes, each_push}
use Rattle.mac_pool.proofs.Moves.{started_more, next_idle, map_grown}
use Rattle.mac_pool.proofs.pool.Pool.hire.Goals as goal

pub take_out-pass-requires-clause-home : goal.take_out-pass-requires-clause-home
take_out-pass-requires-clause-home g c =
    let started = subst (λ (p : Slots g.row.S-Job.Denot). IsStarted c.args.self.now.workers p) (sym c.self.view_is) c.requires.started in
    let count = started.count in
    let len = c.len.ensures in
    let room = c.requires.room in
    let home = started.homes c.len.result (omega arith) (omega arith) in
    λ _ _. (home.0, home.1)

pub started-requires-clause-queue : goal.started-requires-clause-queue
started-requires-clause-queue g c =
    let mine = c.self.invariant.homes c.len.result c.take_out-pass.result c.take_out-pass.ensures.was in
    λ _ _. mine.0 ∙ sym (ap (λ (l : Line). l.tickets) c.in-Ok.ensures)

pub invariant_of-self : goal.invariant_of-self
invariant_of-self g c =
    let was = c.self.invariant in
    let given = λ (w : PromisedHandle (Worked g.row.S.Denot g.row.S-Job.Denot g.row.S-Reply.Denot) (FromPass g.row.S.Denot g.row.S-Job.Denot g.row.S-Reply.Denot)). w.promise.0.value in
    let old = c.self.inside.workers.items in
    let pass = c.take_out-pass.result in
    let at = c.take_out-pass.ensures.was in
    let mine = was.homes c.len.result pass at in
    let grown : map given c.push_reserved.new.self.items ≡ map given old ++ pass ∷ [] = map_grown given old c.push_reserved.new.self.items c.in-Some.thread pass c.push_reserved.ensures.items c.in-Some.ensures in
    let started = subst (λ (p : Slots g.row.S-Job.Denot). IsStarted c.args.self.now.workers p) (sym c.self.view_is) c.requires.started in
    let count = started.count in
    let len = c.len.ensures in
    let room = c.requires.room in
    let capacity = c.push_reserved.ensures.capacity in
    let threads = was.given_room in
    let idle : (pass.put ≡ []) × (pass.claimed ≡ []) = next_idle _ c.args.self.now.workers c.len.result pass started (omega arith) (omega arith) at in
    record {
      slots_fit = search rules;
      homes = rw c.take_out-pass.ensures.out (unset_homes _ c.self.inside.passes.items c.len.result was.homes);
      given_fit = omega (arith, ap length grown, length-append (map given old) (pass ∷ []), length-map old given);
      given_room = omega arith;
      given_are = rw grown (each_push (λ (p : Pass g.row.S-Job.Denot). IsWorkers (arc_value c.self.inside.queue).tickets p × (p.claimed ≡ [])) (map given old) pass was.given_are ((mine.0, idle.0), idle.1));
      all_empty = was.all_empty;
      all_fits = was.all_fits;
    }

pub invariant_of-self-in-None : goal.invariant_of-self-in-None
invariant_of-self-in-None g c =
    let was = c.self.invariant in
    record {
      slots_fit = search rules;
      homes = rw c.take_out-pass.ensures.out (unset_homes _ c.self.inside.passes.items c.len.result was.homes);
      given_fit = was.given_fit;
      given_room = was.given_room;
      given_are = was.given_are;
      all_empty = was.all_empty;
      all_fits = was.all_fits;
    }

pub returns-in-Some-clause-hired : goal.returns-in-Some-clause-hired
returns-in-Some-clause-hired g c =
    let slots = c.self.inside.passes.items in
    let old = c.self.inside.workers.items in
    let new = c.push_reserved.new.self.items in
    let started = subst (λ (p : Slots g.row.S-Job.Denot). IsStarted c.args.self.now.workers p) (sym c.self.view_is) c.requires.started in
    let count = started.count in
    let room = c.requires.room in
    let len = c.len.ensures in
    let same : c.len.result ≡ length old = omega arith in
    let grown : length new ≡ length old + 1 = ap length c.push_reserved.ensures.items ∙ length-append old (c.in-Some.thread ∷ []) in (
      started_more (arc_value c.self.inside.queue).tickets c.args.self.now.workers (length old) (length new) slots c.take_out-pass.new.slots.items (omega arith) started grown (c.take_out-pass.ensures.out ∙ ap (λ (m : ℕ). set slots m None) same),
      omega arith,
    )
