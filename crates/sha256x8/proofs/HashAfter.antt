-- The hash value of a message after its first block and some of those that follow.
use Rattle.std.proofs.Common.{◌≡◌, ℕ, ◌+◌, ◌*◌, ◌/◌, ◌-◌, ◌%◌, ◌^◌, ◌≤◌, ◌<◌, zero, suc, min, mod-lt, pow_pos, inl, inr, List, ◌∷◌, ◌++◌, length, take, drop, replicate, slice_index, refl, sym, ap, ◌∙◌, arith, length-append}
use Rattle.std.proofs.Math.Seq.{drop-append-add}
use Rattle.std.proofs.lemmas.Bool.{cases_lt, lt-ltb, le-ltb}
use Rattle.std.proofs.lemmas.List.{append_assoc, length-replicate, take_all, take_at}
use Rattle.std.specs.Int.{w64, to_be_bytes}
use Rattle.sha2.specs.Sha256.{compress, final_hash, hash_after, initial_hash_256, padded_message, padding, rounds, schedule}
use Rattle.sha2.proofs.Absorbing256.{hash_after_next}
use Rattle.sha256x8.specs.Begun.{listed}
use Rattle.sha256x8.specs.Lanes.{AreWords}
use Rattle.sha256x8.proofs.LaneWise.{below_eight}
use Rattle.sha256x8.specs.Padded.{after_block, padded_text}
use Rattle.sha256x8.proofs.PaddedBlocks.{length-padded_text}

-- the hash value after a first block and at most n of those that follow
abbrev pub hashed : List ℕ → List ℕ → ℕ → List ℕ
hashed block text n =
    hash_after initial_hash_256 (block ++ padded_text text)
    (min n (length (padded_text text) / 64) + 1)

padded_message_is : (block text : List ℕ) → length block ≡ 64 → padded_message (block ++ text)
    ≡ block ++ padded_text text
unfolding padded_text
padded_message_is block text whole =
    let long : length (block ++ text) ≡ 64 + length text =
    omega (arith, length-append block text) in
    ap (λ (n : ℕ). (block ++ text) ++ padding n) long
    ∙ append_assoc block text (padding (64 + length text))

pub hashed_first : (block text : List ℕ) → length block ≡ 64 → hashed block text 0
    ≡ compress initial_hash_256 block
unfolding hash_after
hashed_first block text whole =
    let none : min 0 (length (padded_text text) / 64) + 1 ≡ 1 = omega arith in
    rw none (ap (compress initial_hash_256) (take_at block (padded_text text) 64 whole))

pub hashed_more : (block text : List ℕ) (n : ℕ) → length block ≡ 64
    → after_block (hashed block text n) text n ≡ hashed block text (n + 1)
unfolding after_block
hashed_more block text n whole =
    let p = padded_text text in
    let q = length p / 64 in
    let long = length-padded_text text in
    elim (cases_lt (64 * n) (length p)) [
      | inl within ↦
          let here : min n q ≡ n = omega (arith, long) in
          let next : min (n + 1) q ≡ n + 1 = omega (arith, long) in
          let place : (n + 1) * 64 ≡ length block + 64 * n = omega arith in
          let rest : drop ((n + 1) * 64) (block ++ p) ≡ drop (64 * n) p =
          rw place (drop-append-add block p (64 * n)) in
          rw (lt-ltb (64 * n) (length p) within, here, next)
          (sym (hash_after_next initial_hash_256 (block ++ p) (n + 1)
          ∙ ap (λ (l : List ℕ).
          compress (hash_after initial_hash_256 (block ++ p) (n + 1)) (take 64 l)) rest))
      | inr past ↦
          let here : min n q ≡ q = omega (arith, long) in
          let next : min (n + 1) q ≡ q = omega (arith, long) in
          rw (le-ltb (64 * n) (length p) past, here, next) refl
    ]

pub hashed_all : (block text : List ℕ) (n : ℕ) → length block ≡ 64
    → length (padded_text text) ≤ 64 * n
    → hashed block text n ≡ final_hash initial_hash_256 (block ++ text)
hashed_all block text n whole enough =
    let p = padded_text text in
    let count : min n (length p / 64) + 1 ≡ length (block ++ p) / 64 =
    omega (arith, length-append block p, length-padded_text text) in
    rw (padded_message_is block text whole, count) refl

-- a text whose padding ends the block that it begins
pub hashed_one_more : (block text h : List ℕ) → length block ≡ 64 → length (padded_text text) ≡ 64
    → h ≡ hashed block text 0 → compress h (padded_text text)
    ≡ final_hash initial_hash_256 (block ++ text)
unfolding after_block
hashed_one_more block text h whole one before =
    let p = padded_text text in
    let alone : take 64 (drop 0 p) ≡ p = take_all 64 p (omega arith) in
    let taken : compress h p ≡ after_block h text 0 = rw (one, alone) refl in
    taken ∙ ap (λ (g : List ℕ). after_block g text 0) before ∙ hashed_more block text 0 whole
    ∙ hashed_all block text 1 whole (omega arith)

-- the sums that end a block are words
AreWords_compress : (h b : List ℕ) → AreWords (compress h b)
unfolding compress
AreWords_compress h b =
    let sum = λ (k : ℕ). mod-lt (slice_index h k + slice_index (rounds h (schedule b 48) 64) k)
    (pow_pos 32) in
    below_eight (λ (k : ℕ). slice_index (compress h b) k < 2 ^ 32) (sum 0) (sum 1) (sum 2) (sum 3)
    (sum 4) (sum 5) (sum 6) (sum 7)

AreWords_hash_after : (h p : List ℕ) (n : ℕ) → 0 < n → AreWords (hash_after h p n)
unfolding hash_after
AreWords_hash_after h p zero some = absurd (omega arith)
AreWords_hash_after h p (suc n) some =
    AreWords_compress (hash_after h p n) (take 64 (drop (n * 64) p))

-- a hash value is words
pub AreWords_final : (m : List ℕ) → AreWords (final_hash initial_hash_256 m)
AreWords_final m =
    let z = (119 - length m % 64) % 64 in
    let field = to_be_bytes w64 (length m * 8 % 2 ^ 64) in
    let tail : length (replicate z 0 ++ field) ≡ z + 8 =
    length-append (replicate z 0) field ∙ ap (λ (n : ℕ). n + 8) (length-replicate z 0) in
    let whole = length-append m (0x80 ∷ (replicate z 0 ++ field)) in
    AreWords_hash_after initial_hash_256 (padded_message m) (length (padded_message m) / 64)
    (omega (arith, tail, whole))

-- the words of a hash value after a block, one by one
pub listed_compress : (h b : List ℕ) → listed (compress h b) ≡ compress h b
unfolding compress
listed_compress h b = refl
