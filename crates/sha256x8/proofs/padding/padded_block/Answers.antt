use Rattle.std.proofs.Common.{◌≡◌, ℕ, ◌+◌, ◌-◌, ◌*◌, ◌%◌, ◌^◌, ◌++◌, ◌∷◌, List, length, take, drop, replicate, sym, ap, ◌∙◌, arith, length-drop, refl}
use Rattle.std.proofs.lemmas.List.{append-nil, length-take-le, take_all}
use Rattle.std.specs.Int.{w64, to_be_bytes}
use Rattle.sha256x8.proofs.PaddedBlocks.{bit_count_after, zeros_after, padded_text_is, rest_is, length-padded_text, text_block, last_block, ended_block, field_block}
use Rattle.sha256x8.proofs.padding.padded_block.Goals as goal

-- the bytes from a place in the last blocks on
rest_whole : (text : List ℕ) (start : ℕ) → take (length text - start) (drop start text)
    ≡ drop start text
rest_whole text start =
    take_all (length text - start) (drop start text) (omega (arith, length-drop start text))

same_count : (n : ℕ) → (n + 64) * 8 % 2 ^ 64 ≡ (64 + n) * 8 % 2 ^ 64
same_count n = omega arith

pub overflow_mul-start : goal.overflow_mul-start
overflow_mul-start c =
    record { fits = omega (arith, c.block_count.ensures, length-padded_text c.args.text.now) }

pub overflow_add-start : goal.overflow_add-start
overflow_add-start c =
    record { fits = omega (arith, c.block_count.ensures, length-padded_text c.args.text.now) }

pub returns-then-start-text : goal.returns-then-start-text
returns-then-start-text c = λ _.
    let text = c.args.text.now in
    let start = 64 * c.args.index in
    let width : start + 64 - start ≡ 64 = omega arith in
    let none : 64 - length (take 64 (drop start text)) ≡ 0 =
    omega (arith, length-take-le 64 (drop start text) (omega (arith, length-drop start text)))
    in
    c.filled.ensures ∙ rw (width, none, append-nil) (text_block text _ start (omega arith))
    ∙ ap (λ (l : List ℕ). take 64 (drop start l)) (sym (padded_text_is text))

pub returns-then-start-text-2 : goal.returns-then-start-text-2
returns-then-start-text-2 c = λ within.
    let text = c.args.text.now in
    let start = 64 * c.args.index in
    let z = zeros_after (length text) in
    c.with_bit_count.ensures
    ∙ ap (λ (k : ℕ). replicate 56 0 ++ to_be_bytes w64 k) (same_count (length text))
    ∙ field_block text (bit_count_after (length text)) z start (omega arith)
    (omega (arith, within, length-padded_text text)) refl
    ∙ ap (λ (l : List ℕ). take 64 (drop start l)) (sym (padded_text_is text))

pub returns-then-text-start-lt-BIT_COUNT : goal.returns-then-text-start-lt-BIT_COUNT
returns-then-text-start-lt-BIT_COUNT c = λ _.
    let text = c.args.text.now in
    let start = 64 * c.args.index in
    let rest = drop start text in
    let z = zeros_after (length text) in
    let ended : c.ended-block.result ≡ rest ++ 0x80 ∷ replicate (63 - length rest) 0 =
    rw (rest_whole text start) at c.ended-block.ensures in
    c.with_bit_count-then-text-start-lt-BIT_COUNT.ensures
    ∙ (λ i. take 56 (ended i) ++ to_be_bytes w64 (same_count (length text) i))
    ∙ last_block rest (bit_count_after (length text)) z (omega (arith, length-drop start text)) refl
    ∙ ap (take 64) (sym (rest_is text start (omega arith)))

pub returns-else-text-start-lt-BIT_COUNT : goal.returns-else-text-start-lt-BIT_COUNT
returns-else-text-start-lt-BIT_COUNT c = λ _.
    let text = c.args.text.now in
    let start = 64 * c.args.index in
    let rest = drop start text in
    let z = zeros_after (length text) in
    let ended : c.ended-block.result ≡ rest ++ 0x80 ∷ replicate (63 - length rest) 0 =
    rw (rest_whole text start) at c.ended-block.ensures in
    ended
    ∙ ended_block rest (bit_count_after (length text)) z (omega (arith, length-drop start text))
    (omega (arith, length-drop start text))
    ∙ ap (take 64) (sym (rest_is text start (omega arith)))
