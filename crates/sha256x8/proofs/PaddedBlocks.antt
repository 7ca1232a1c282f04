-- The blocks of a padded text.
use Rattle.std.proofs.Common.{◌≡◌, ℕ, ◌+◌, ◌-◌, ◌*◌, ◌/◌, ◌%◌, ◌^◌, ◌<◌, ◌≤◌, inl, inr, if◌then◌else◌, nat_lt, List, ◌∷◌, ◌++◌, length, take, drop, replicate, refl, sym, ap, ◌∙◌, arith, length-append, length-drop}
use Rattle.std.proofs.lemmas.List.{append_assoc, take_all, take_at, drop_at, take-append-le, drop-append-le, length-replicate, replicate-append-replicate}
use Rattle.std.specs.Int.{w64, to_be_bytes}
use Rattle.std.proofs.lemmas.Bool.{cases_lt, lt-ltb, le-ltb}
use Rattle.sha2.specs.Sha256.{compress}
use Rattle.sha256x8.specs.Padded.{IsBlock, after_block, padded_text}

-- how many zeros the padding of a message has, whose text after its first block has n bytes
abbrev pub zeros_after : ℕ → ℕ
zeros_after n = (119 - (64 + n) % 64) % 64

-- the length field of such a message
abbrev pub bit_count_after : ℕ → List ℕ
bit_count_after n = to_be_bytes w64 ((64 + n) * 8 % 2 ^ 64)

pub padded_text_is : (text : List ℕ) → padded_text text
    ≡ text ++ 0x80 ∷ (replicate (zeros_after (length text)) 0 ++ bit_count_after (length text))
unfolding padded_text
padded_text_is text = refl

length-tail : (z : ℕ) (field : List ℕ) → length (replicate z 0 ++ field) ≡ z + length field
length-tail z field =
    length-append (replicate z 0) field
    ∙ ap (λ (n : ℕ). n + length field) (length-replicate {A = ℕ} z 0)

pub length-padded_text : (text : List ℕ) → length (padded_text text)
    ≡ 64 * ((length text + 8) / 64 + 1)
length-padded_text text =
    let n = length text in
    let z = zeros_after n in
    let whole = ap length (padded_text_is text) in
    let joined = length-append text (0x80 ∷ (replicate z 0 ++ bit_count_after n)) in
    let tail : length (replicate z 0 ++ bit_count_after n) ≡ z + 8 =
    length-tail z (bit_count_after n) in
    omega (arith, whole, joined, tail)

length-marked : (r : List ℕ) (z : ℕ) → length (r ++ 0x80 ∷ replicate z 0) ≡ length r + 1 + z
length-marked r z = omega
    (arith, length-append r (0x80 ∷ replicate z 0), length-replicate {A = ℕ} z 0)

-- zeros in two runs, between a bit 1 and what follows
zeros_split : (r x : List ℕ) (a b : ℕ) → r ++ 0x80 ∷ (replicate (a + b) 0 ++ x)
    ≡ (r ++ 0x80 ∷ replicate a 0) ++ (replicate b 0 ++ x)
zeros_split r x a b =
    let split : replicate (a + b) 0 ++ x ≡ replicate a 0 ++ (replicate b 0 ++ x) =
    ap (λ (l : List ℕ). l ++ x) (sym (replicate-append-replicate a b 0))
    ∙ append_assoc (replicate a 0) (replicate b 0) x in
    ap (λ (l : List ℕ). r ++ 0x80 ∷ l) split
    ∙ sym (append_assoc r (0x80 ∷ replicate a 0) (replicate b 0 ++ x))

-- the last block, which the rest of the text begins
pub last_block : (r field : List ℕ) (z : ℕ) → length r + z ≡ 55 → length field ≡ 8
    → take 56 (r ++ 0x80 ∷ replicate (63 - length r) 0) ++ field
    ≡ take 64 (r ++ 0x80 ∷ (replicate z 0 ++ field))
last_block r field z fits eight =
    let front = r ++ 0x80 ∷ replicate z 0 in
    let more : 63 - length r ≡ z + 8 = omega arith in
    let two : r ++ 0x80 ∷ replicate (z + 8) 0 ≡ front ++ replicate 8 0 =
    ap (λ (l : List ℕ). r ++ 0x80 ∷ l) (sym (replicate-append-replicate z 8 0))
    ∙ sym (append_assoc r (0x80 ∷ replicate z 0) (replicate 8 0)) in
    let head : take 56 (front ++ replicate 8 0) ≡ front =
    take_at front (replicate 8 0) 56 (omega (arith, length-marked r z)) in
    let whole : r ++ 0x80 ∷ (replicate z 0 ++ field) ≡ front ++ field =
    sym (append_assoc r (0x80 ∷ replicate z 0) field) in
    let long : length (front ++ field) ≡ 64 =
    omega (arith, length-append front field, length-marked r z) in
    rw (more, two, head, whole) (sym (take_all 64 (front ++ field) (omega arith)))

-- the block before it, where the length field has no room behind the rest of the text
pub ended_block : (r field : List ℕ) (z : ℕ) → length r < 64 → length r + z ≡ 119
    → r ++ 0x80 ∷ replicate (63 - length r) 0 ≡ take 64 (r ++ 0x80 ∷ (replicate z 0 ++ field))
ended_block r field z short fits =
    let a = 63 - length r in
    let sum : z ≡ a + 56 = omega arith in
    rw (sum, zeros_split r field a 56)
    (sym (take_at (r ++ 0x80 ∷ replicate a 0) (replicate 56 0 ++ field) 64
    (omega (arith, length-marked r a))))

-- the last block, where the text ends in one before it
pub field_block : (text field : List ℕ) (z start : ℕ) → length text < start → start + 55
    ≡ length text + z → length field ≡ 8
    → replicate 56 0 ++ field ≡ take 64 (drop start (text ++ 0x80 ∷ (replicate z 0 ++ field)))
field_block text field z start past fits eight =
    let a = start - (length text + 1) in
    let sum : z ≡ a + 56 = omega arith in
    let front = text ++ 0x80 ∷ replicate a 0 in
    let tail : length (replicate 56 0 ++ field) ≡ 64 = omega (arith, length-tail 56 field) in
    rw (
      sum,
      zeros_split text field a 56,
      drop_at front (replicate 56 0 ++ field) start
          (omega (arith, length-marked text a)),
    )
    (sym (take_all 64 (replicate 56 0 ++ field) (omega arith)))

-- a block of the text alone
pub text_block : (text x : List ℕ) (start : ℕ) → start + 64 ≤ length text
    → take 64 (drop start text) ≡ take 64 (drop start (text ++ x))
text_block text x start fits =
    rw (drop-append-le start text x (omega arith))
    (sym (take-append-le 64 (drop start text) x (omega (arith, length-drop start text))))

-- what is left of a padded text inside its text
pub rest_is : (text : List ℕ) (start : ℕ) → start ≤ length text → drop start (padded_text text)
    ≡ drop start text ++ 0x80 ∷
    (replicate (zeros_after (length text)) 0 ++ bit_count_after (length text))
rest_is text start within =
    ap (drop start) (padded_text_is text)
    ∙ drop-append-le start text
    (0x80 ∷ (replicate (zeros_after (length text)) 0 ++ bit_count_after (length text))) within

-- the words of a message that has a block more, and of one that has not, chosen by a number
pub after_block_is : (h next block text : List ℕ) (index have : ℕ)
    → have ≡ (if nat_lt (64 * index) (length (padded_text text)) then 1 else 0)
    → next ≡ compress h block → IsBlock text index block
    → (if nat_lt 0 have then next else h) ≡ after_block h text index
unfolding after_block
after_block_is h next block text index have known step is =
    let n = length (padded_text text) in
    elim (cases_lt (64 * index) n) [
      | inl within ↦
          let test = lt-ltb (64 * index) n within in
          let one : have ≡ 1 = known ∙ rw test refl in
          rw (one, test) (step ∙ ap (compress h) (is within))
      | inr past ↦
          let test = le-ltb (64 * index) n past in
          let none : have ≡ 0 = known ∙ rw test refl in
          rw (none, test) refl
    ]
