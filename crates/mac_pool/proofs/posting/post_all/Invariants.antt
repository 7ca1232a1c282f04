use Rattle.std.proofs.Common.{◌≡◌, ◌+◌, ◌≤◌, ◌++◌, List}
use Rattle.std.specs.VecDeque.{deque_len, deque_capacity}
use Rattle.mac_pool.specs.declared.work.Parcel.{Parcel}
use Rattle.mac_pool.specs.Parcel.{HasPosted}
use Rattle.mac_pool.proofs.posting.post_all.Given as goal

abbrev pub invariant-loop-parcel : goal.invariant-loop-parcel
invariant-loop-parcel g l = record {
  sent : List (Parcel g.row.S.Denot g.row.S-Job.Denot g.row.S-Reply.Denot);
  left : sent ++ l.parcels.items ≡ l.fn.parcels.items;
  posted : HasPosted sent l.fn.book l.book;
  count : deque_len l.owed + deque_len l.parcels ≤ deque_len l.fn.owed + deque_len l.fn.parcels;
  parcels : deque_capacity l.parcels ≡ deque_capacity l.fn.parcels;
  owed : deque_capacity l.owed ≡ deque_capacity l.fn.owed;
}

abbrev pub decreases-loop-parcel : goal.decreases-loop-parcel
decreases-loop-parcel g l = deque_len l.parcels
