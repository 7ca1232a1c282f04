-- What a call does to a device over memory.
use Rattle.std.proofs.Common.{◌≡◌, ℕ, ◌+◌, ◌-◌, min, ◌⊎◌, inl, inr, Bool, true, false, ◌&&◌, ◌||◌, eqb, ltb, List, length, take, drop, refl, sym}
use Rattle.std.proofs.Math.Seq.{take-add}
use Rattle.std.proofs.lemmas.Bool.{eqb-true, ne_eqb}
use Rattle.std.proofs.lemmas.List.{length-drop, drop-drop}
use Rattle.mac_wire.specs.Memory.{SourceState, read_count, after_read}

-- a source that stands at a place of its bytes
abbrev pub source_at : List ℕ → (place piece fails : ℕ) → Bool → ℕ → SourceState
source_at bytes place piece fails has_ended faults =
    record { given = take place bytes; left = drop place bytes; piece = piece; fails = fails; has_ended = has_ended; fault_count = faults }

-- a read that gave something, or had no room, isn't the end
stays : (has_ended : Bool) (n room : ℕ) → (n ≡ 0 → ⊥) ⊎ (eqb room 0 ≡ true) → (has_ended || (eqb n 0 && ltb 0 room)) ≡ has_ended
stays true n room h = refl
stays false n room (inl some) = rw (ne_eqb n 0 some) refl
stays false n room (inr none) = rw (eqb-true room 0 none) (elim (eqb n 0) as (λ b. (b && false) ≡ false) [ true ↦ refl | false ↦ refl ])

-- a read that isn't the end and doesn't fail moves the place
pub after_read-moved : (bytes : List ℕ) (place piece fails later faults room n : ℕ) (has_ended : Bool) → (fails ≡ 1 → ⊥)
    → n ≡ min (min piece room) (length bytes - place) → later ≡ fails - 1 → (n ≡ 0 → ⊥) ⊎ (eqb room 0 ≡ true)
    → source_at bytes (place + n) piece later has_ended faults ≡ after_read (source_at bytes place piece fails has_ended faults) room
after_read-moved bytes place piece fails later faults room n has_ended passes count less not_end =
    let same : read_count (source_at bytes place piece fails has_ended faults) room ≡ n = rw length-drop (sym count) in
    rw (ne_eqb fails 1 passes, same, stays has_ended n room not_end, less, take-add place n bytes, ← drop-drop n place bytes) refl
