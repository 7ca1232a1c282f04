-- Where a desk is at home.
use Rattle.std.specs.Prelude.{ℕ}
use Rattle.atomic_table.specs.Seated.{TableId}
use Rattle.mac_queue.specs.declared.desk.Desk.{Desk}

-- the queue of a desk, and its pass there
pub record Home : Type 0 where
  pub queue : TableId
  pub seat : ℕ
  pub number : ℕ

abbrev pub home_of : {S Job Reply : Type 0} → Desk S Job Reply → Home
home_of desk = record {
  queue = desk.putter.queue;
  seat = desk.putter.seat;
  number = desk.putter.number;
}
