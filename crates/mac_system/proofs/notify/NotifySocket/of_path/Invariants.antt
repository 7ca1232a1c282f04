use Rattle.std.proofs.Common.{◌≡◌, ℕ, ◌+◌, ◌<◌, length, get_or}
use Rattle.mac_system.proofs.notify.NotifySocket.of_path.Given as goal

abbrev pub invariant-loop-index : goal.invariant-loop-index
invariant-loop-index l = record {
  size : length l.address ≡ 128;
  family : get_or l.address 0 0 ≡ 1;
  family_high : get_or l.address 1 0 ≡ 0;
  first : get_or l.address 2 0 ≡ l.first;
  others : (k : ℕ) → 0 < k → k < l.index → get_or l.address (k + 2) 0 ≡ get_or l.path k 0;
}
