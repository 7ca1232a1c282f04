-- Several messages side by side: of each word there is a row, with one lane for each message.
use Rattle.std.specs.Prelude.{ℕ, ◌<◌, ◌^◌, List, [], ◌∷◌, map, slice_index, slice_index_or}
use Rattle.std.specs.Borrow.{Bor}

-- word k of message j
abbrev pub lane_at : List (List ℕ) → ℕ → ℕ → ℕ
lane_at x k j = slice_index (slice_index_or x k []) j

-- the sixteen words of message j
abbrev pub lane_words : ℕ → List (List ℕ) → List ℕ
lane_words j x =
    lane_at x 0 j ∷ lane_at x 1 j ∷ lane_at x 2 j ∷ lane_at x 3 j
    ∷ lane_at x 4 j ∷ lane_at x 5 j ∷ lane_at x 6 j ∷ lane_at x 7 j
    ∷ lane_at x 8 j ∷ lane_at x 9 j ∷ lane_at x 10 j ∷ lane_at x 11 j
    ∷ lane_at x 12 j ∷ lane_at x 13 j ∷ lane_at x 14 j ∷ lane_at x 15 j ∷ []

-- the eight working variables of message j
abbrev pub lane_state : ℕ → List (List ℕ) → List ℕ
lane_state j x =
    lane_at x 0 j ∷ lane_at x 1 j ∷ lane_at x 2 j ∷ lane_at x 3 j
    ∷ lane_at x 4 j ∷ lane_at x 5 j ∷ lane_at x 6 j ∷ lane_at x 7 j ∷ []

-- the first eight numbers are words
abbrev pub AreWords : List ℕ → Type 0
AreWords h = (k : ℕ) → k < 8 → slice_index h k < 2 ^ 32

-- the bytes of text j
abbrev pub text_at : List (Bor (List ℕ)) → ℕ → List ℕ
text_at texts j = slice_index_or (map (λ text. text.now) texts) j []
