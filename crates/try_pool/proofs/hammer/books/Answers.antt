use Rattle.std.proofs.Common.{◌∙◌, sym, subst}
use Rattle.atomic_table.specs.Seated.{TableId}
use Rattle.try_pool.specs.Desks.{AreAt}
use Rattle.try_pool.proofs.hammer.books.Goals as goal

pub all_home-requires : goal.all_home-requires
all_home-requires g c =
    let queue = c.desks_of-other.ensures.queue ∙ c.desks_of-one.ensures.queue in
    c.join-one.ensures.first _ (subst (λ (l : TableId). AreAt l c.desks_of-one.result.items) (sym queue) c.desks_of-one.ensures.at)

pub all_home-requires-2 : goal.all_home-requires-2
all_home-requires-2 g c =
    let queue = c.all_home.ensures ∙ c.desks_of-other.ensures.queue in
    c.join-one.ensures.second _ (subst (λ (l : TableId). AreAt l c.desks_of-other.result.items) (sym queue) c.desks_of-other.ensures.at)
