-- What the connections in slots weigh, behind what is done to a slot.
use Rattle.std.proofs.Common.{◌≡◌, ◌+◌, ℕ, zero, suc, List, [], ◌∷◌, ◌++◌, true, false, ◌||◌, nat_lt, cond, Some, sum_by, slice_index_or, slice_set, refl, arith}
use Rattle.std.proofs.lemmas.List.Sums.{sum_by-cons}
use Rattle.mac_slots.specs.Slots.{Slot, Slots, Free, Lent, Held, at, held, is_free, times, with_held, with_listed}
use Rattle.mac_sockets.specs.Connections.{weight_of, weighed}

module _ {C : Type 0} (weight : C → ℕ) where
  abbrev of : Slot C → ℕ
  of slot = weight_of weight slot

  abbrev sum : List (Slot C) → ℕ
  sum slots = sum_by of slots

  set-held : (slots : List (Slot C)) (slot : ℕ) (before after : C) → held (slice_index_or slots slot Free) ≡ Some before
      → sum (slice_set slots slot (Held after)) + weight before ≡ sum slots + weight after
  set-held [] slot before after is = absurd cc
  set-held (Free ∷ slots) zero before after is = absurd cc
  set-held (Lent ∷ slots) zero before after is = absurd cc
  set-held (Held other ∷ slots) zero before after is =
      let same : weight other ≡ weight before = cc in
      omega (arith, same, sum_by-cons of (Held after) slots, sum_by-cons of (Held other) slots)
  set-held (one ∷ slots) (suc slot) before after is =
      omega (arith, sum_by-cons of one (slice_set slots slot (Held after)), sum_by-cons of one slots, set-held slots slot before after is)

  -- a connection that is changed in its place weighs there what it does now
  pub weighed-with_held : (slots : Slots C) (slot : ℕ) (before after : C) → held (at slots slot) ≡ Some before
      → weighed weight (with_held slots slot after) + weight before ≡ weighed weight slots + weight after
  weighed-with_held slots slot before after is = set-held slots.slots slot before after is

  -- so all weigh what they did where it does
  pub weighed-same : (slots : Slots C) (slot : ℕ) (before after : C) → held (at slots slot) ≡ Some before → weight after ≡ weight before
      → weighed weight (with_held slots slot after) ≡ weighed weight slots
  weighed-same slots slot before after is same = omega (arith, same, weighed-with_held slots slot before after is)

  -- and where a slot is listed
  pub weighed-with_listed : (slots : Slots C) (slot : ℕ) → weighed weight (with_listed slots slot) ≡ weighed weight slots
  weighed-with_listed slots slot =
      elim (is_free (at slots slot) || nat_lt 0 (times slot slots.ready)) as (λ is. weighed weight (cond is slots (record slots { ready = slots.ready ++ slot ∷ [] })) ≡ weighed weight slots) [
        | true ↦ refl
        | false ↦ refl
      ]
