-- One lane of several rows.
use Rattle.std.proofs.Common.{◌≡◌, ℕ, zero, suc, slice_set, inl, inr, ◌<◌, ◌+◌, ◌-◌, List, length, slice_index, slice_index_or, [], arith, refl, subst}
use Rattle.std.proofs.lemmas.List.{get_or-set_same, get_or-set_other}
use Rattle.std.proofs.lemmas.Bool.{cases_eq, cases_lt}
use Rattle.std.proofs.Math.ListN as math
use Rattle.sha256x8.specs.Lanes.{lane_at, lane_words, text_at}
use Rattle.std.specs.Borrow.{Bor}

-- the bytes of text j
abbrev pub text_of : List (Bor (List ℕ)) → ℕ → List ℕ
text_of texts j = (slice_index_or texts j (record { ref_ptr = (0, 0); now = [] })).now

pub text_at_is : (texts : List (Bor (List ℕ))) (j : ℕ)
    → text_at texts j ≡ text_of texts j
text_at_is texts j =
    math.get_or-map (λ (text : Bor (List ℕ)). text.now) texts j (record { ref_ptr = (0, 0); now = [] })

-- what holds of each of the eight lanes
pub below_eight : (P : ℕ → Type 0) → P 0 → P 1 → P 2 → P 3 → P 4 → P 5 → P 6 → P 7 → (j : ℕ) → j < 8
    → P j
below_eight P p0 p1 p2 p3 p4 p5 p6 p7 zero h = p0
below_eight P p0 p1 p2 p3 p4 p5 p6 p7 (suc zero) h = p1
below_eight P p0 p1 p2 p3 p4 p5 p6 p7 (suc (suc zero)) h = p2
below_eight P p0 p1 p2 p3 p4 p5 p6 p7 (suc (suc (suc zero))) h = p3
below_eight P p0 p1 p2 p3 p4 p5 p6 p7 (suc (suc (suc (suc zero)))) h = p4
below_eight P p0 p1 p2 p3 p4 p5 p6 p7 (suc (suc (suc (suc (suc zero))))) h = p5
below_eight P p0 p1 p2 p3 p4 p5 p6 p7 (suc (suc (suc (suc (suc (suc zero)))))) h = p6
below_eight P p0 p1 p2 p3 p4 p5 p6 p7 (suc (suc (suc (suc (suc (suc (suc zero))))))) h = p7
below_eight P p0 p1 p2 p3 p4 p5 p6 p7 (suc (suc (suc (suc (suc (suc (suc (suc n)))))))) h =
    absurd (omega arith)

-- what holds of each of four pairs of blocks
pub below_four : (P : ℕ → Type 0) → P 0 → P 1 → P 2 → P 3 → (k : ℕ) → k < 4 → P k
below_four P p0 p1 p2 p3 zero h = p0
below_four P p0 p1 p2 p3 (suc zero) h = p1
below_four P p0 p1 p2 p3 (suc (suc zero)) h = p2
below_four P p0 p1 p2 p3 (suc (suc (suc zero))) h = p3
below_four P p0 p1 p2 p3 (suc (suc (suc (suc n)))) h = absurd (omega arith)

-- what holds of each of a block's sixteen words
pub below_sixteen : (P : ℕ → Type 0) → ((k : ℕ) → k < 8 → P k) → ((k : ℕ) → k < 8 → P (8 + k))
    → (k : ℕ) → k < 16 → P k
below_sixteen P low high k lt = elim (cases_lt k 8) [
  | inl first ↦ low k first
  | inr rest ↦
      let e : 8 + (k - 8) ≡ k = omega arith in
      subst P e (high (k - 8) (omega arith))
]

-- word k of message j
pub lane_words_at : (x : List (List ℕ)) (j k : ℕ) → k < 16
    → slice_index (lane_words j x) k ≡ lane_at x k j
lane_words_at x j =
    let P = λ (k : ℕ). slice_index (lane_words j x) k ≡ lane_at x k j in
    below_sixteen P (below_eight P refl refl refl refl refl refl refl refl)
    (below_eight (λ (k : ℕ). P (8 + k)) refl refl refl refl refl refl refl refl)

-- a loop stores row i
pub stored_row : (w : List (List ℕ)) (x : List ℕ) (j i k : ℕ) (word : ℕ → ℕ) → i < length w
    → k < i + 1
    → (k < i → lane_at w k j ≡ word k) → slice_index x j ≡ word i
    → lane_at (slice_set w i x) k j ≡ word k
stored_row w x j i k word room lt before is = elim (cases_lt k i) [
  | inl a ↦ rw (get_or-set_other w i k x [] (omega arith)) (before a)
  | inr b ↦
      let e : i ≡ k = omega arith in
      rw (← e) (rw (get_or-set_same w i x [] room) is)
]

-- a row in whose lane j nothing changes
pub row_kept : (w : List (List ℕ)) (x : List ℕ) (j i k : ℕ) → i < length w
    → slice_index x j ≡ lane_at w i j
    → lane_at (slice_set w i x) k j ≡ lane_at w k j
row_kept w x j i k room same = elim (cases_eq k i) [
  | inl e ↦ rw e (rw (get_or-set_same w i x [] room) same)
  | inr ne ↦ rw (get_or-set_other w i k x [] ne) refl
]
