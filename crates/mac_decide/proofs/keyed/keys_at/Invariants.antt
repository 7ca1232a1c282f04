use Rattle.std.proofs.Common.{◌≡◌, ◌<◌, ℕ, [], length, Some, slice_get, slice_index, slice_index_or}
use Rattle.mac_decide.specs.Prepared.{signature_of}
use Rattle.mac_decide.specs.declared.prepared.Prepared.{Prepared}
use Rattle.mac_decide.proofs.keyed.keys_at.Given as goal

-- each lane so far has the key at its place
abbrev pub invariant-loop-lane : goal.invariant-loop-lane
invariant-loop-lane l = record {
  count : length l.keys ≡ 8;
  under : (lane : ℕ) (prepared : Prepared) → lane < l.lane
      → slice_get l.run (slice_index l.places lane) ≡ Some prepared
      → slice_index_or l.keys lane [] ≡ signature_of prepared;
}
