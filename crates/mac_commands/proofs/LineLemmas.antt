-- A text cut at its line feeds, and the parts round its first empty line.
use Rattle.std.proofs.Common.{◌≡◌, ◌≢◌, ◌∙◌, ap, ℕ, suc, ◌+◌, ◌-◌, ◌==◌, true, false, List, [], ◌∷◌, ◌++◌, length, take, drop, All, refl, sym, zero-add, true≢false, arith, append_assoc, length-append}
use Rattle.std.specs.List.{before_first, after_first, position_or_len}
use Rattle.std.proofs.lemmas.List.{take_at, drop_at, take_all, drop_all}
use Rattle.std.proofs.lemmas.Bool.{eqb-true, ne_eqb}
use Rattle.std.proofs.lemmas.List.Elements.{All-head, All-tail}
use Rattle.mac_commands.specs.Lines.{lines, is_empty}

-- no byte is a line feed
abbrev pub NoFeed : List ℕ → Type 0
NoFeed text = All (λ byte. (byte == 10) ≡ false) text

-- a line that ends in a line feed comes off
pub lines-ended : (line rest : List ℕ) → NoFeed line → lines (line ++ 10 ∷ rest) ≡ line ∷ lines rest
unfolding lines
lines-ended [] rest none = refl
lines-ended (byte ∷ line) rest none =
    let head : (byte == 10) ≡ false = All-head (λ byte. (byte == 10) ≡ false) byte line none in
    let tail = All-tail (λ byte. (byte == 10) ≡ false) byte line none in
    rw (head, lines-ended line rest tail)

-- the last line may lack it
pub lines-last : (byte : ℕ) (line : List ℕ) → NoFeed (byte ∷ line) → lines (byte ∷ line) ≡ (byte ∷ line) ∷ []
unfolding lines
lines-last byte [] none =
    let head : (byte == 10) ≡ false = All-head (λ byte. (byte == 10) ≡ false) byte [] none in
    rw head
lines-last byte (next ∷ line) none =
    let head : (byte == 10) ≡ false = All-head (λ byte. (byte == 10) ≡ false) byte (next ∷ line) none in
    let tail = All-tail (λ byte. (byte == 10) ≡ false) byte (next ∷ line) none in
    rw (head, lines-last next line tail)

pub lines-none : lines [] ≡ []
unfolding lines
lines-none = refl

-- a line with a byte isn't empty
pub is_empty-cons : (byte : ℕ) (line : List ℕ) → is_empty (byte ∷ line) ≡ false
is_empty-cons byte line = ne_eqb (suc (length line)) 0 (λ e. absurd (omega (arith, e)))

-- no line is empty
abbrev pub AreFull : List (List ℕ) → Type 0
AreFull [] = Unit {0}
AreFull (line ∷ others) = (is_empty line ≡ false) × AreFull others

-- the first empty line stands behind full ones
pub position-full : (full others : List (List ℕ)) → AreFull full →
    position_or_len is_empty (full ++ others) ≡ length full + position_or_len is_empty others
position-full [] others h = sym (zero-add _)
position-full (line ∷ full) others h =
    let more = position-full full others h.1 in
    rw (h.0, more) (omega arith)

pub before_first-full : (full others : List (List ℕ)) → AreFull full →
    before_first is_empty (full ++ [] ∷ others) ≡ full
before_first-full full others h =
    rw (position-full full ([] ∷ others) h) (take_at full ([] ∷ others) (length full + 0) (omega arith))

pub after_first-full : (full others : List (List ℕ)) → AreFull full →
    after_first is_empty (full ++ [] ∷ others) ≡ others
after_first-full full others h =
    rw (position-full full ([] ∷ others) h, ← append_assoc full ([] ∷ []) others)
    (drop_at (full ++ [] ∷ []) others (length full + 0 + 1) (omega (arith, length-append full ([] ∷ []))))

pub lines-empty : (text : List ℕ) → (length text == 0) ≡ true → lines text ≡ []
lines-empty [] e = lines-none
lines-empty (byte ∷ text) e = let none : suc (length text) ≡ 0 = eqb-true _ _ e in absurd (omega arith)

pub lines-only : (text : List ℕ) → (length text == 0) ≡ false → NoFeed text → lines text ≡ text ∷ []
lines-only [] e none = absurd (true≢false e)
lines-only (byte ∷ text) e none = lines-last byte text none

-- nothing stands behind the end of a text
pub lines-behind : (text : List ℕ) → lines (take (length text - length text) (drop (length text) text)) ≡ []
lines-behind text =
    let none : length text - length text ≡ 0 = omega arith in
    rw none lines-none

pub position-all : (full : List (List ℕ)) → AreFull full → position_or_len is_empty full ≡ length full
position-all [] h = refl
position-all (line ∷ full) h =
    let more = position-all full h.1 in
    rw (h.0, more) (omega arith)

pub before_first-all : (full : List (List ℕ)) → AreFull full → before_first is_empty full ≡ full
before_first-all full h = let place = position-all full h in take_all _ full (omega arith)

pub after_first-all : (full : List (List ℕ)) → AreFull full → after_first is_empty full ≡ []
after_first-all full h = let place = position-all full h in drop_all _ full (omega arith)

-- a text with no line has no only one, nor has one with two
pub no_line : (text : List ℕ) → lines text ≡ [] → (line : List ℕ) → lines text ≢ line ∷ []
no_line text none line e = let bad : ◌≡◌ {A = List (List ℕ)} [] (line ∷ []) = sym none ∙ e in cc

pub two_lines : (text rest first second : List ℕ) (others : List (List ℕ)) → lines text ≡ first ∷ lines rest → lines rest ≡ second ∷ others → (line : List ℕ) → lines text ≢ line ∷ []
two_lines text rest first second others one more line e =
    let bad : ◌≡◌ {A = List (List ℕ)} (first ∷ second ∷ others) (line ∷ []) = sym (one ∙ ap (λ ls. first ∷ ls) more) ∙ e in
    cc
