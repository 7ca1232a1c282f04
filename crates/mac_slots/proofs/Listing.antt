-- What is ready once a slot is listed.
use Rattle.std.proofs.Common.{◌≡◌, ◌≢◌, ℕ, ◌<◌, ◌≤◌, Bool, true, false, ◌||◌, cond, nat_lt, ◌∷◌, ◌++◌, [], refl, arith}
use Rattle.std.proofs.lemmas.Bool.{eq-eqb, ltb-true}
use Rattle.mac_slots.specs.Slots.{Slots, Slot, Free, Lent, Held, at, is_free, times, with_listed}
use Rattle.mac_slots.proofs.Counts.{times_push}

module _ {C : Type 0} where
  free_is : (slot : Slot C) → is_free slot ≡ true → slot ≡ Free
  free_is Free is = refl
  free_is Lent is = absurd cc
  free_is (Held connection) is = absurd cc

  listed-more : (s : Slots C) (slot : ℕ) (free ready : Bool) → is_free (at s slot) ≡ free → nat_lt 0 (times slot s.ready) ≡ ready → at s slot ≢ Free → 0 < times slot (cond (free || ready) s (record s { ready = s.ready ++ slot ∷ [] })).ready
  listed-more s slot true ready free listed owned = absurd (owned (free_is (at s slot) free))
  listed-more s slot false true free listed owned = ltb-true 0 (times slot s.ready) listed
  listed-more s slot false false free listed owned = rw (times_push s.ready slot slot, eq-eqb slot slot refl) (omega arith)

  -- a slot of somebody's is ready once it is listed
  pub listed-ready : (s : Slots C) (slot : ℕ) → at s slot ≢ Free → 0 < times slot (with_listed s slot).ready
  listed-ready s slot owned = listed-more s slot (is_free (at s slot)) (nat_lt 0 (times slot s.ready)) refl refl owned

  -- and whoever was ready is so still
  pub listed-others : (s : Slots C) (slot other : ℕ) → times other s.ready ≤ times other (with_listed s slot).ready
  listed-others s slot other = elim (is_free (at s slot) || nat_lt 0 (times slot s.ready)) as (λ is. times other s.ready ≤ times other (cond is s (record s { ready = s.ready ++ slot ∷ [] })).ready) [
    | true ↦ omega arith
    | false ↦ rw (times_push s.ready slot other) (omega arith)
  ]
