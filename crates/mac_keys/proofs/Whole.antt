-- Lines that stand whole in a text, and the search for one of a name.
use Rattle.std.proofs.Common.{◌≡◌, inl, inr, ℕ, ◌+◌, ◌≤◌, ◌<◌, Bool, true, cond, List, [], ◌∷◌, ◌++◌, length, take, drop, refl, sym, ap, subst, ◌∙◌, arith, append_assoc, length-append, zero-add, ◌-◌}
use Rattle.std.proofs.Math.Seq.{take-append_seam, drop-append_seam, drop-length}
use Rattle.std.proofs.lemmas.List.{length-take-le, take_all, take-append-drop, length-drop}
use Rattle.std.proofs.lemmas.List.Splits.{slice_split_at, slice_split_none}
use Rattle.std.proofs.lemmas.List.Sums.{sum_by-append}
use Rattle.std.specs.List.{count_by}
use Rattle.mac_keys.specs.Change.{AreWhole}
use Rattle.mac_keys.specs.Found.{IsFound, IsUnbroken, is_line_of}
use Rattle.mac_keys.specs.Table.{is_line_feed, lines_of}

-- so far the text has whole lines, and so many of the name are missing
pub record IsSearched (name text : List ℕ) (above start left : ℕ) : Type 0 where
  pub lines : List (List ℕ)
  pub whole : AreWhole lines (take start text)
  pub count : count_by (is_line_of name) lines + left ≡ above
  pub within : start ≤ length text

-- ---- one more line

pub whole_push : (lines : List (List ℕ)) (done line : List ℕ) → AreWhole lines done → IsUnbroken line → AreWhole (lines ++ line ∷ []) (done ++ line ++ 10 ∷ [])
whole_push lines done line whole unbroken = λ rest.
    ap lines_of (append_assoc (done ++ line) (10 ∷ []) rest ∙ append_assoc done line (10 ∷ rest))
    ∙ whole (line ++ 10 ∷ rest)
    ∙ ap (λ ls. lines ++ ls) (slice_split_at is_line_feed line 10 rest unbroken refl)
    ∙ sym (append_assoc lines (line ∷ []) (lines_of rest))

pub count_push : (p : List ℕ → Bool) (lines : List (List ℕ)) (line : List ℕ) → count_by p (lines ++ line ∷ []) ≡ count_by p lines + cond (p line) 1 0
count_push p lines line =
    sum_by-append (λ l. cond (p l) 1 0) lines (line ∷ []) ∙ ap (λ n. count_by p lines + n) (zero-add (cond (p line) 1 0))

-- the front of a text, and what is behind it
cut : (front back text : List ℕ) (end : ℕ) → text ≡ front ++ back → length front ≡ end → (take end text ≡ front) × (drop end text ≡ back)
cut front back text end whole long = (
  ap (λ n. take n text) (sym long) ∙ ap (take (length front)) whole ∙ take-append_seam front back,
  ap (λ n. drop n text) (sym long) ∙ ap (drop (length front)) whole ∙ drop-append_seam front back,
)

-- what a range to the end of a text takes
pub to_the_end : (text : List ℕ) (start : ℕ) → take (length text - start) (drop start text) ≡ drop start text
to_the_end text start = take_all (length text - start) (drop start text) (omega (arith, length-drop start text))

-- a line that ends in a line feed
pub record EndsAt (text : List ℕ) (start end : ℕ) (line : List ℕ) : Type 0 where
  pub front : take end text ≡ take start text ++ line ++ 10 ∷ []
  pub back : drop start text ≡ line ++ 10 ∷ drop end text
  pub unbroken : IsUnbroken line
  pub within : end ≤ length text

pub ends_at : (text : List ℕ) (start n : ℕ) (rest line : List ℕ) → rest ≡ drop start text → line ≡ take n rest → start ≤ length text → n < length rest
    → IsUnbroken (take n rest) → rest ≡ take n rest ++ 10 ∷ drop (n + 1) rest → EndsAt text start (start + n + 1) line
ends_at text start n rest line is same within inside unbroken feed =
    let back = drop (n + 1) rest in
    let front = take start text ++ line ++ 10 ∷ [] in
    let parts : rest ≡ line ++ 10 ∷ back = feed ∙ ap (λ l. l ++ 10 ∷ back) (sym same) in
    let whole : text ≡ front ++ back =
    sym (take-append-drop start text)
    ∙ ap (λ r. take start text ++ r) (sym is ∙ parts)
    ∙ sym (append_assoc (take start text ++ line) (10 ∷ []) back ∙ append_assoc (take start text) line (10 ∷ back)) in
    let before : length (take start text) ≡ start = length-take-le start text within in
    let short : length line ≡ n = ap length same ∙ length-take-le n rest (omega arith) in
    let long : length front ≡ start + n + 1 =
    length-append (take start text ++ line) (10 ∷ []) ∙ ap (λ m. m + 1) (length-append (take start text) line)
    ∙ (let e : length (take start text) + length line + 1 ≡ start + n + 1 = omega arith in e) in
    let cuts = cut front back text (start + n + 1) whole long in
    record {
      front = cuts.0;
      back = sym is ∙ parts ∙ ap (λ b. line ++ 10 ∷ b) (sym cuts.1);
      unbroken = subst (λ (l : List ℕ). IsUnbroken l) (sym same) unbroken;
      within = omega (arith, ap length is, length-drop start text);
    }

-- ---- the search

pub found_here : (name text : List ℕ) (above start end left : ℕ) (line : List ℕ) → IsSearched name text above start left → left ≡ 0 → EndsAt text start end line → is_line_of name line ≡ true → start ≤ end → IsFound name text above start end
found_here name text above start end left line searched none ends named order = record {
  lines = searched.lines;
  line = line;
  whole = searched.whole;
  count = let count = searched.count in omega arith;
  named = named;
  unbroken = ends.unbroken;
  ended = inl ends.back;
  order = order;
  within = ends.within;
}

pub search_on : (name text : List ℕ) (above start end left next : ℕ) (line : List ℕ) → IsSearched name text above start left → EndsAt text start end line
    → cond (is_line_of name line) 1 0 + next ≡ left → IsSearched name text above end next
search_on name text above start end left next line searched ends counted = record {
  lines = searched.lines ++ line ∷ [];
  whole =
      subst (λ (done : List ℕ). AreWhole (searched.lines ++ line ∷ []) done) (sym ends.front)
      (whole_push searched.lines (take start text) line searched.whole ends.unbroken);
  count =
      let count = searched.count in
      let pushed = count_push (is_line_of name) searched.lines line in
      omega arith;
  within = ends.within;
}

pub found_last : (name text : List ℕ) (above start left : ℕ) (rest : List ℕ) → rest ≡ drop start text → IsSearched name text above start left → left ≡ 0 → IsUnbroken rest → is_line_of name rest ≡ true
    → IsFound name text above start (length text)
found_last name text above start left rest is searched none unbroken named = record {
  lines = searched.lines;
  line = rest;
  whole = searched.whole;
  count = let count = searched.count in omega arith;
  named = named;
  unbroken = unbroken;
  ended = inr (sym is, drop-length text);
  order = searched.within;
  within = omega arith;
}

pub none_left : (name text : List ℕ) (above start left : ℕ) (rest : List ℕ) → rest ≡ drop start text → IsSearched name text above start left → IsUnbroken rest → cond (is_line_of name rest) 1 0 ≤ left
    → count_by (is_line_of name) (lines_of text) ≤ above
none_left name text above start left rest is searched unbroken few =
    let lines : lines_of text ≡ searched.lines ++ rest ∷ [] =
    ap lines_of (sym (take-append-drop start text) ∙ ap (λ r. take start text ++ r) (sym is))
    ∙ searched.whole rest
    ∙ ap (λ ls. searched.lines ++ ls) (slice_split_none is_line_feed rest unbroken) in
    let counted = ap (count_by (is_line_of name)) lines ∙ count_push (is_line_of name) searched.lines rest in
    let count = searched.count in
    subst (λ (n : ℕ). n ≤ above) (sym counted) (omega arith)
