use Rattle.std.proofs.Common.{◌≡◌, [], ◌∷◌, ◌*◌, ◌≤◌, ◌<◌, length, Ok, IfOk, get_or, map, arith, sym, ap, subst, ◌∙◌}
use Rattle.std.specs.Vec.Iter.{into_iter_items}
use Rattle.mac_decide.specs.Viewed.{viewed}
use Rattle.mac_plain.specs.Shares.{AreRepliesTo}
use Rattle.mac_plain.proofs.Shares.{AreShares, Joins, no_more, are_shares, counted, joins_begin, joins_next, joins_end}
use Rattle.mac_plain.proofs.sharing.answer_shared.Goals as goal

pub loop-share-init : goal.loop-share-init
loop-share-init g c =
    let size = c.max-size.result in
    let jobs = c.args.jobs.now in
    let shares = c.in_ok-shares.shares.items in
    let many : length shares ≡ c.in_ok-shares.shares.len = sym c.in_ok-shares.shares.ok.0 in
    let some : 0 < size = omega (arith, c.max-size.ensures) in
    record {
      runs = tt;
      ends = tt;
      joins = joins_begin size (map viewed jobs) c.in_ok-replies.replies.items (into_iter_items c.into_iter-share-iterator.result) c.in_ok-replies.ensures.items
          (subst (λ l. AreShares size (map viewed jobs) l) (sym c.into_iter-share-iterator.ensures.into_iter_gives.0)
          (are_shares size viewed jobs shares
          (λ n d less. let gives = (c.in_ok-shares.ensures.each n d less).1 in
          subst (λ l. IfOk (get_or shares n d) (λ replies. AreRepliesTo (map viewed l) replies.items)) gives.argument_is.value gives.call)
          (subst (λ count. length jobs ≤ count * size) (sym (many ∙ c.in_ok-shares.ensures.len)) (counted size (length jobs) some))));
    }

pub loop-share-preserved : goal.loop-share-preserved
loop-share-preserved g c =
    let size = c.max-size.result in
    let jobs = map viewed c.args.jobs.now in
    let rest = into_iter_items c.next.new.self in
    let share = c.in_ok-share.field-0 in
    let first : into_iter_items c.loop-share.share-iterator ≡ Ok share ∷ rest = c.in-Some.ensures.steps.0 ∙ ap (λ s. s ∷ rest) c.in_ok-share.was in
    record {
      runs = tt;
      ends = tt;
      joins = subst (λ l. Joins size jobs l rest) (sym c.in_ok-append.ensures.items)
          (joins_next size jobs c.loop-share.replies.items share rest
          (subst (λ l. Joins size jobs c.loop-share.replies.items l) first c.loop-share.invariant.joins));
    }

pub returns : goal.returns
returns g c =
    let n = c.in-None.ensures.steps.0 in
    let e = c.loop-share.share-iterator.rest.ok.0 in
    let none : into_iter_items c.loop-share.share-iterator ≡ [] = no_more _ (omega arith) in
    joins_end c.max-size.result (map viewed c.args.jobs.now) c.loop-share.replies.items (into_iter_items c.loop-share.share-iterator) none c.loop-share.invariant.joins
