use Rattle.std.proofs.Common.{◌≡◌, ◌+◌, [], ◌∷◌, ◌++◌, length, arith, ap, refl, sym, ◌∙◌, append-nil, length-append, List, map, subst}
use Rattle.std.specs.declared.thread.PromisedHandle.{PromisedHandle}
use Rattle.mac_pool.specs.declared.work.Worked.{Worked}
use Rattle.mac_pool.specs.declared.pool.FromPass.{FromPass}
use Rattle.mac_queue.specs.Pass.{Pass}
use Rattle.mac_pool.specs.Pool.{AreIdle, IsWorkers, HasAnswered, passes_of}
use Rattle.mac_pool.proofs.Slots.{each_last, each_front, each_push, map_push}
use Rattle.mac_pool.proofs.Moves.{worked_is, came_more}
use Rattle.mac_pool.proofs.pool.bring_back.Goals as goal

pub loop-thread-init : goal.loop-thread-init
loop-thread-init g c = record {
  capacity = refl;
  all = sym (append-nil _) ∙ ap (λ l. c.args.all.now.items ++ passes_of l) (sym c.requires.none);
  count = omega (arith, ap length c.requires.none);
  answered = rw c.requires.none (λ number one at. absurd (cc));
  left = c.requires.given;
}

pub loop-thread-preserved : goal.loop-thread-preserved
loop-thread-preserved g c =
    let invariant = c.loop-thread.invariant in
    let split = c.in-Some.ensures.items in
    let given = λ (w : PromisedHandle (Worked g.row.S.Denot g.row.S-Job.Denot g.row.S-Reply.Denot) (FromPass g.row.S.Denot g.row.S-Job.Denot g.row.S-Reply.Denot)). w.promise.0.value in
    let rest = c.pop.new.self.items in
    let parts : map given c.loop-thread.workers.items ≡ map given rest ++ given c.in-Some.thread ∷ [] = ap (map given) split ∙ map_push given rest c.in-Some.thread in
    let left = subst (λ (l : List (Pass g.row.S-Job.Denot)). AreIdle c.args.queue.now.tickets l) parts invariant.left in
    let idle = λ (p : Pass g.row.S-Job.Denot). IsWorkers c.args.queue.now.tickets p × (p.claimed ≡ []) in
    let first = each_last idle (map given rest) (given c.in-Some.thread) left in
    let back = c.join-worked.result in
    let came = c.loop-thread.came in
    record {
      capacity = c.push_reserved.ensures.capacity ∙ invariant.capacity;
      all = came_more c.args.all.now.items c.loop-thread.all.items _ came _ back c.push_reserved.ensures.items invariant.all c.add.ensures;
      count = omega (arith, invariant.count, ap length split, length-append rest (c.in-Some.thread ∷ []), ap length c.add.ensures, length-append came (back ∷ []));
      answered = rw c.add.ensures (each_push (HasAnswered c.args.queue.now.tickets) came back invariant.answered (worked_is c.args.queue.now.tickets (given c.in-Some.thread) back first.0 first.1 c.join-worked.ensures));
      left = each_front idle (map given rest) (given c.in-Some.thread) left;
    }

pub returns : goal.returns
returns g c = record {
  capacity = c.loop-thread.invariant.capacity;
  brought = record {
    after_is = c.loop-thread.invariant.all;
    count_is = (let none = c.in_default.ensures.cases.0 in let len = c.loop-thread.workers.ok.0 in let count = c.loop-thread.invariant.count in omega arith);
    answered = c.loop-thread.invariant.answered;
  };
}
