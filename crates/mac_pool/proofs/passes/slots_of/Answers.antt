use Rattle.std.proofs.Common.{◌≡◌, [], ◌∷◌, ◌++◌, List, Some, map, arith, ap, sym, ◌∙◌, append-nil, append_assoc}
use Rattle.std.specs.Vec.Iter.{into_iter_items}
use Rattle.mac_queue.specs.Pass.{Pass}
use Rattle.mac_queue.proofs.Balance.{empty_list}
use Rattle.mac_pool.proofs.passes.slots_of.Goals as goal

pub loop-pass-init : goal.loop-pass-init
loop-pass-init g c =
    let fresh = c.in_ok-slots.ensures.items in
    record {
      runs = tt;
      ends = tt;
      done = rw fresh (ap (λ (l : List (Pass g.row.S-Job.Denot)). map Some l) c.into_iter-pass-iterator.ensures.into_iter_gives.0);
    }

pub loop-pass-preserved : goal.loop-pass-preserved
loop-pass-preserved g c =
    let pass = c.in-Some.pass in
    let rest = into_iter_items c.next.new.self in
    let split : into_iter_items c.loop-pass.pass-iterator ≡ pass ∷ rest = c.in-Some.ensures.steps.0 in
    record {
      runs = tt;
      ends = tt;
      done = rw c.in_ok-push.ensures.items
          (append_assoc c.loop-pass.slots.items (Some pass ∷ []) (map Some rest)
          ∙ sym (ap (λ (l : List (Pass g.row.S-Job.Denot)). c.loop-pass.slots.items ++ map Some l) split) ∙ c.loop-pass.invariant.done);
    }

pub returns : goal.returns
returns g c =
    let n = c.in-None.ensures.steps.0 in
    let e = c.loop-pass.pass-iterator.rest.ok.0 in
    let none : into_iter_items c.loop-pass.pass-iterator ≡ [] = empty_list _ (omega arith) in
    sym (append-nil _) ∙ ap (λ (l : List (Pass g.row.S-Job.Denot)). c.loop-pass.slots.items ++ map Some l) (sym none) ∙ c.loop-pass.invariant.done
