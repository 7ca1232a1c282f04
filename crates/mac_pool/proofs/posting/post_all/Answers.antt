use Rattle.std.proofs.Common.{[], ◌∷◌, ◌++◌, arith, rules, refl, ◌∙◌}
use Rattle.mac_pool.proofs.Posts.{posted_none, posted_one, parcel_done}
use Rattle.mac_pool.proofs.posting.post_all.Goals as goal

pub loop-parcel-init : goal.loop-parcel-init
loop-parcel-init g c = record {
  sent = [];
  left = refl;
  posted = posted_none _;
  count = omega arith;
  parcels = refl;
  owed = refl;
}

pub loop-parcel-preserved : goal.loop-parcel-preserved
loop-parcel-preserved g c =
    let was = c.loop-parcel.invariant in
    let parcel = c.in-Some.parcel in
    record {
      sent = was.sent ++ parcel ∷ [];
      left = parcel_done was.sent c.loop-parcel.parcels.items c.pop_front.new.self.items c.args.parcels.now.items parcel c.in-Some.ensures.items was.left;
      posted = posted_one was.sent parcel c.post_one.result c.args.book.now c.loop-parcel.book c.add.new.self was.posted c.post_one.ensures.sent c.add.ensures;
      count = search rules;
      parcels = c.in-Some.ensures.capacity ∙ was.parcels;
      owed = c.post_one.ensures.capacity ∙ was.owed;
    }

pub loop-parcel-preserved-in-Some : goal.loop-parcel-preserved-in-Some
loop-parcel-preserved-in-Some g c =
    let was = c.loop-parcel.invariant in
    let parcel = c.in-Some.parcel in
    record {
      sent = was.sent ++ parcel ∷ [];
      left = parcel_done was.sent c.loop-parcel.parcels.items c.pop_front.new.self.items c.args.parcels.now.items parcel c.in-Some.ensures.items was.left;
      posted = posted_one was.sent parcel c.post_one.result c.args.book.now c.loop-parcel.book c.add.new.self was.posted c.post_one.ensures.sent c.add.ensures;
      count = search rules;
      parcels = c.in-Some.ensures.capacity ∙ was.parcels;
      owed = c.post_one.ensures.capacity ∙ was.owed;
    }
