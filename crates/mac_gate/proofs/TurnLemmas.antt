-- How many turns a slot has.
use Rattle.std.proofs.Common.{◌≡◌, ℕ, ◌+◌, ◌≤◌, ◌<◌, ◌==◌, Bool, true, false, cond, inl, inr, List, [], ◌∷◌, ◌++◌, drop, refl, arith}
use Rattle.std.specs.List.{list_any}
use Rattle.std.proofs.lemmas.List.Sums.{sum_by-cons, sum_by_push}
use Rattle.std.proofs.lemmas.Bool.Decides.{eqb_tells}
use Rattle.mac_gate.specs.Turns.{times, without_turn, IsOnce}

-- one more at the end, or at the front
times_push : (turns : List ℕ) (n slot : ℕ) → times slot (turns ++ n ∷ []) ≡ times slot turns + cond (n == slot) 1 0
times_push turns n slot = sum_by_push (λ other. cond (other == slot) 1 0) turns n

times-cons : (turns : List ℕ) (n slot : ℕ) → times slot (n ∷ turns) ≡ cond (n == slot) 1 0 + times slot turns
times-cons turns n slot = sum_by-cons (λ other. cond (other == slot) 1 0) n turns

-- a slot is found where it has a turn, and nowhere else
found-times : (turns : List ℕ) (slot : ℕ) → list_any (λ other. other == slot) turns ≡ true → 0 < times slot turns
found-times [] slot is = absurd cc
found-times (x ∷ xs) slot is = elim (eqb_tells x slot) [
  | inl same ↦ rw (times-cons xs x slot, same.0) (omega arith)
  | inr other ↦ rw (times-cons xs x slot, other.0) (omega (arith, found-times xs slot (rw other.0 at is)))
]

lost-times : (turns : List ℕ) (slot : ℕ) → list_any (λ other. other == slot) turns ≡ false → times slot turns ≡ 0
lost-times [] slot is = refl
lost-times (x ∷ xs) slot is = elim (eqb_tells x slot) [
  | inl same ↦ absurd (let no = rw same.0 at is in cc)
  | inr other ↦ rw (times-cons xs x slot, other.0) (omega (arith, lost-times xs slot (rw other.0 at is)))
]

-- so a slot has one turn where it is found
pub times-found : (turns : List ℕ) (slot : ℕ) → IsOnce turns → times slot turns ≡ cond (list_any (λ other. other == slot) turns) 1 0
times-found turns slot once = by (list_any (λ other. other == slot) turns) refl
  where
    by : (is : Bool) → list_any (λ other. other == slot) turns ≡ is → times slot turns ≡ cond is 1 0
    by true is = omega (arith, found-times turns slot is, once slot)
    by false is = lost-times turns slot is

-- a slot that has no turn may have one
pub once-put : (turns : List ℕ) (n : ℕ) → times n turns ≡ 0 → IsOnce turns → IsOnce (turns ++ n ∷ [])
once-put turns n none once slot = elim (eqb_tells n slot) [
  | inl same ↦ rw (times_push turns n slot, same.0) (omega (arith, rw same.1 at none))
  | inr other ↦ rw (times_push turns n slot, other.0) (omega (arith, once slot))
]

-- the first one's turn is over
pub once-rest : (turns : List ℕ) → IsOnce turns → IsOnce (drop 1 turns)
once-rest [] once slot = once slot
once-rest (x ∷ xs) once slot = omega (arith, times-cons xs x slot, once slot)

fewer : (turns : List ℕ) (n slot : ℕ) → times slot (without_turn turns n) ≤ times slot turns
fewer [] n slot = omega arith
fewer (x ∷ xs) n slot = elim (eqb_tells x n) [
  | inl is ↦ rw (is.0, times-cons xs x slot) (omega (arith, fewer xs n slot))
  | inr is ↦ rw (is.0, times-cons (without_turn xs n) x slot, times-cons xs x slot) (omega (arith, fewer xs n slot))
]

-- one that has left has none
pub once-left : (turns : List ℕ) (n : ℕ) → IsOnce turns → IsOnce (without_turn turns n)
once-left turns n once slot = omega (arith, fewer turns n slot, once slot)
