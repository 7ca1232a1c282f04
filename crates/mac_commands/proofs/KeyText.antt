-- The key lines, found line by line.
use Rattle.std.proofs.Common.{◌≡◌, ◌≢◌, ℕ, ◌+◌, ◌≤◌, false, List, [], ◌∷◌, ◌++◌, length, take, drop, get_or, refl, sym, ap, ◌∙◌, arith, append_assoc, length-append, length-drop}
use Rattle.std.specs.List.{before_first, after_first, join_with_byte, flat_map}
use Rattle.std.proofs.lemmas.List.{take_at, drop-drop, append-nil, get_or_at, get_or-append-add, length-take-le}
use Rattle.std.proofs.lemmas.List.Concat.{flat_map-append}
use Rattle.std.proofs.lemmas.Bool.{eqb-false, ne_eqb}
use Rattle.mac_commands.specs.Lines.{lines, is_empty, key_text, request_lines}
use Rattle.mac_commands.proofs.LineLemmas.{NoFeed, AreFull, is_empty-cons, lines-ended, lines-only, lines-none, before_first-full, after_first-full, before_first-all, after_first-all}

abbrev pub ended : List ℕ → List ℕ
ended line = line ++ 10 ∷ []

-- the lines up to a place in the input are full, and end there
pub record Divides (input : List ℕ) (start : ℕ) : Type 0 where
  pub full : List (List ℕ)
  pub are_full : AreFull full
  pub input_is : input ≡ flat_map ended full ++ drop start input
  pub lines_are : lines input ≡ full ++ lines (drop start input)

pub AreFull-push : (full : List (List ℕ)) (line : List ℕ) → AreFull full → is_empty line ≡ false → AreFull (full ++ line ∷ [])
AreFull-push [] line h e = (e, tt)
AreFull-push (first ∷ full) line h e = (h.0, AreFull-push full line h.1 e)

-- one more full line
pub divides-more : (input : List ℕ) (start end : ℕ) →
    NoFeed (take end (drop start input)) →
    drop start input ≡ take end (drop start input) ++ 10 ∷ drop (end + 1) (drop start input) →
    is_empty (take end (drop start input)) ≡ false → Divides input start → Divides input (start + (end + 1))
divides-more input start end none text_is some d =
    let text = drop start input in
    let line = take end text in
    let behind : drop (end + 1) text ≡ drop (start + (end + 1)) input = drop-drop (end + 1) start input in
    let text_is' : text ≡ line ++ 10 ∷ drop (start + (end + 1)) input = rw behind at text_is in
    let lines_text : lines text ≡ line ∷ lines (drop (start + (end + 1)) input) =
    ap lines text_is' ∙ lines-ended line (drop (start + (end + 1)) input) none in
    let more : flat_map ended (d.full ++ line ∷ []) ≡ flat_map ended d.full ++ ended line =
    flat_map-append ended d.full (line ∷ []) ∙ ap (λ (l : List ℕ). flat_map ended d.full ++ l) (append-nil (ended line)) in
    record {
      full = d.full ++ line ∷ [];
      are_full = AreFull-push d.full line d.are_full some;
      input_is = d.input_is ∙ ap (λ (l : List ℕ). flat_map ended d.full ++ l) text_is'
          ∙ sym (ap (λ (l : List ℕ). l ++ drop (start + (end + 1)) input) more ∙ simp append_assoc);
      lines_are = d.lines_are ∙ ap (λ (l : List (List ℕ)). d.full ++ l) lines_text
          ∙ sym (append_assoc d.full (line ∷ []) (lines (drop (start + (end + 1)) input)));
    }

-- full lines are their text without the last line feed
pub joined-ended : (line : List ℕ) (full : List (List ℕ)) →
    flat_map ended (line ∷ full) ≡ join_with_byte 10 (line ∷ full) ++ 10 ∷ []
joined-ended line [] = append-nil (ended line)
joined-ended line (next ∷ full) =
    ap (λ (l : List ℕ). ended line ++ l) (joined-ended next full) ∙ simp append_assoc

-- what is left of the full lines' text without the line feed at its end
pub stripped : (full : List (List ℕ)) (text left : List ℕ) → text ≡ flat_map ended full →
    ((front : List ℕ) → text ≡ front ++ 10 ∷ [] → left ≡ front) →
    (((front : List ℕ) → text ≢ front ++ 10 ∷ []) → left ≡ text) →
    left ≡ join_with_byte 10 full
stripped [] text left e with_feed without =
    without (λ front f. let n = ap length (sym e ∙ f) in absurd (omega (arith, n, length-append front (10 ∷ [])))) ∙ e
stripped (line ∷ full) text left e with_feed without = with_feed _ (e ∙ joined-ended line full)

-- full lines, and a last line that no line feed ends
pub joined-last : (full : List (List ℕ)) (last : List ℕ) →
    flat_map ended full ++ last ≡ join_with_byte 10 (full ++ last ∷ [])
joined-last [] last = refl
joined-last (line ∷ []) last = ap (λ (l : List ℕ). l ++ last) (append-nil (ended line)) ∙ append_assoc line (10 ∷ []) last
joined-last (line ∷ next ∷ full) last =
    append_assoc (ended line) (flat_map ended (next ∷ full)) last
    ∙ ap (λ (l : List ℕ). ended line ++ l) (joined-last (next ∷ full) last)
    ∙ append_assoc line (10 ∷ []) _

-- a text whose last line lacks its line feed doesn't end in one
pub not_ended : (before : List ℕ) (byte : ℕ) (last front : List ℕ) → NoFeed (byte ∷ last) →
    before ++ byte ∷ last ≡ front ++ 10 ∷ [] → ⊥
not_ended before byte last front none e =
    let lengths = ap length e in
    let place : length front ≡ length before + length last =
    omega (arith, lengths, length-append before (byte ∷ last), length-append front (10 ∷ [])) in
    let there = get_or-append-add before (byte ∷ last) (length last) 0 in
    let feed = get_or_at front 10 [] 0 (length before + length last) place in
    let is_feed : get_or (byte ∷ last) (length last) 0 ≡ 10 =
    sym there ∙ ap (λ (l : List ℕ). get_or l (length before + length last) 0) e ∙ feed in
    eqb-false _ _ (none (length last) 0 (omega arith)) is_feed

-- the first empty line is found
pub key_text-found : (input : List ℕ) (start : ℕ) (d : Divides input start) (rest : List ℕ) →
    drop start input ≡ 10 ∷ rest → key_text input ≡ join_with_byte 10 d.full
key_text-found input start d rest e =
    let all : lines input ≡ d.full ++ [] ∷ lines rest =
    d.lines_are ∙ ap (λ (l : List ℕ). d.full ++ lines l) e
    ∙ ap (λ (l : List (List ℕ)). d.full ++ l) (lines-ended [] rest (λ k d' h. absurd (omega arith))) in
    ap (λ (l : List (List ℕ)). join_with_byte 10 (before_first is_empty l)) all
    ∙ ap (join_with_byte 10) (before_first-full d.full (lines rest) d.are_full)

pub request_lines-found : (input : List ℕ) (start : ℕ) (d : Divides input start) (rest : List ℕ) →
    drop start input ≡ 10 ∷ rest → lines rest ≡ request_lines input
request_lines-found input start d rest e =
    let all : lines input ≡ d.full ++ [] ∷ lines rest =
    d.lines_are ∙ ap (λ (l : List ℕ). d.full ++ lines l) e
    ∙ ap (λ (l : List (List ℕ)). d.full ++ l) (lines-ended [] rest (λ k d' h. absurd (omega arith))) in
    sym (ap (λ (l : List (List ℕ)). after_first is_empty l) all ∙ after_first-full d.full (lines rest) d.are_full)

-- every line of an input without an empty one is full
pub all_full : (full : List (List ℕ)) (last : List ℕ) → AreFull full → NoFeed last → AreFull (full ++ lines last)
all_full full [] h none = let e = append-nil full in rw (lines-none, e) h
all_full full (byte ∷ last) h none = rw (lines-only (byte ∷ last) (is_empty-cons byte last) none) (AreFull-push full (byte ∷ last) h (is_empty-cons byte last))

pub request_lines-none : (input : List ℕ) (start : ℕ) → Divides input start → NoFeed (drop start input) → request_lines input ≡ []
request_lines-none input start d none =
    ap (λ (l : List (List ℕ)). after_first is_empty l) d.lines_are
    ∙ after_first-all (d.full ++ lines (drop start input)) (all_full d.full (drop start input) d.are_full none)

-- the text of an input without an empty line, less a line feed at its end
pub left_of_all : (full : List (List ℕ)) (last input left : List ℕ) → NoFeed last → input ≡ flat_map ended full ++ last →
    ((front : List ℕ) → input ≡ front ++ 10 ∷ [] → left ≡ front) →
    (((front : List ℕ) → input ≢ front ++ 10 ∷ []) → left ≡ input) →
    left ≡ join_with_byte 10 (full ++ lines last)
left_of_all full [] input left none e with_feed without =
    rw (lines-none, append-nil full) (stripped full input left (e ∙ append-nil (flat_map ended full)) with_feed without)
left_of_all full (byte ∷ last) input left none e with_feed without =
    rw (lines-only (byte ∷ last) (is_empty-cons byte last) none)
    (without (λ front f. not_ended (flat_map ended full) byte last front none (sym e ∙ f)) ∙ e ∙ joined-last full (byte ∷ last))

pub key_text-none : (input left : List ℕ) (start : ℕ) → Divides input start → NoFeed (drop start input) →
    ((front : List ℕ) → input ≡ front ++ 10 ∷ [] → left ≡ front) →
    (((front : List ℕ) → input ≢ front ++ 10 ∷ []) → left ≡ input) →
    left ≡ key_text input
key_text-none input left start d none with_feed without =
    let full = all_full d.full (drop start input) d.are_full none in
    left_of_all d.full (drop start input) input left none d.input_is with_feed without
    ∙ sym (ap (join_with_byte 10) (ap (λ (l : List (List ℕ)). before_first is_empty l) d.lines_are
    ∙ before_first-all (d.full ++ lines (drop start input)) full))

-- the front that was divided off is the text of its full lines
pub front_is : (input : List ℕ) (start : ℕ) (d : Divides input start) → start ≤ length input →
    take start input ≡ flat_map ended d.full
front_is input start d within =
    let size = ap length d.input_is in
    let n : length (flat_map ended d.full) ≡ start =
    omega (arith, size, length-append (flat_map ended d.full) (drop start input), length-drop start input) in
    ap (take start) d.input_is ∙ take_at (flat_map ended d.full) (drop start input) start n

-- a line up to a place in a text isn't empty, but at its beginning
pub is_empty-take : (text : List ℕ) (end : ℕ) → ¬ (end ≡ 0) → end ≤ length text → is_empty (take end text) ≡ false
is_empty-take text end some within =
    let n = length-take-le end text within in
    ne_eqb (length (take end text)) 0 (λ e. some (sym n ∙ e))
