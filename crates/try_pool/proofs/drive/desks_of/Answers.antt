use Rattle.std.proofs.Common.{ℕ, ◌∙◌, ap, subst}
use Rattle.atomic_table.specs.Seated.{TableId}
use Rattle.mac_pool.specs.Pool.{Slots}
use Rattle.try_pool.specs.Desks.{AreAt}
use Rattle.try_pool.proofs.drive.desks_of.Goals as goal

pub loop-preserved : goal.loop-preserved
loop-preserved c =
    let given = c.in-Ok.ensures.desk.0 in
    let kept = c.loop.invariant in
    let at = given.queue_is ∙ kept.0 in (
      ap (λ (pool : Slots ℕ). pool.queue) given.after_is ∙ kept.0,
      subst (λ (queue : TableId). AreAt queue c.loop.desks.items → AreAt queue c.keep.new.desks.items) at c.keep.ensures kept.1,
    )
