use Rattle.std.proofs.Common.{map}
use Rattle.std.specs.Vec.Iter.{into_iter_items}
use Rattle.mac_decide.specs.Viewed.{viewed}
use Rattle.mac_plain.proofs.Shares.{Joins}
use Rattle.mac_plain.proofs.sharing.answer_shared.Given as goal

abbrev pub invariant-loop-share : goal.invariant-loop-share
invariant-loop-share g l = record {
  runs : (goal.iterator-loop-share g).can_next l.share-iterator;
  ends : (goal.iterator-loop-share g).is_finite l.share-iterator;
  joins : Joins l.size (map viewed l.jobs) l.replies.items (into_iter_items l.share-iterator);
}
