-- The words of the command line as a reader sees them, and as `clap` does.
use Rattle.std.proofs.Common.{◌≡◌, ◌∙◌, ◌==◌, ◌&&◌, ◌||◌, ◌+◌, ◌<◌, ℕ, Bool, codes, true, false, refl, sym, ap, ap₂, subst, arith, List, [], ◌∷◌, drop, take, Some, None, suc}
use Rattle.std.specs.Prelude.{if◌then◌else◌, option_and_then, slice_get, encode_utf8_all}
use Rattle.std.specs.List.{All, after_first, before_first, position_or_len}
use Rattle.std.specs.Str.{IsUtf8, bytes_eq, chars}
use Rattle.std.proofs.lemmas.List.Elements.{All-drop, All-get_or, All-tail}
use Rattle.std.proofs.lemmas.Bool.Decides.{Decides-eqb}
use Rattle.std.proofs.lemmas.Slice.Eq.{bytes_eq-Decides}
use Rattle.std.proofs.lemmas.Str.{IsCharBoundary-after_ascii, IsUtf8-drop, byte_from_char, char_from_byte, chars-encodes}
use Rattle.clap.specs.Lexer.{has_byte, long_of, long_of_rest, short_of, short_of_rest, strip_byte}
use Rattle.clap.specs.Walk.{Text}
use Rattle.clap.specs.Faults.{fault_of}
use Rattle.mac_commands.specs.declared.status.Status.{Status}
use Rattle.mac_commands.specs.declared.status.Status.TheVariants.{Done, BadLine}
use Rattle.mac_commands.specs.CommandLine.{LeadsTo, command_line, gives_list, is_list_option, names_another, status_after_pipe, status_of_arguments, status_of_word}
use Rattle.mac_commands.proofs.CommandLineLemmas.{GivesNoList, IsForeignWord, after_pipe, flag_status, is_asked, letter_status, line_leads, long_status, of_arguments, other_way, short_status}

number_other_way : (a b : ℕ) → (a == b) ≡ false → (b == a) ≡ false
number_other_way a b differ = go (b == a) refl
  where
    go : (t : Bool) → (b == a) ≡ t → (b == a) ≡ false
    go true e =
        let same : (a == b) ≡ true = (Decides-eqb a b).1 (sym ((Decides-eqb b a).0 e)) in
        cc
    go false e = e

abbrev is_equals : ℕ → Bool
is_equals x = x == 61

-- `--name` without a `=` is the name
name_alone : (text : Text) → has_byte 61 text ≡ false → before_first is_equals text ≡ text
name_alone [] none = refl
name_alone (x ∷ xs) none = go (x == 61) refl (λ rest. name_alone xs rest)
  where
    go : (t : Bool) → (x == 61) ≡ t → (has_byte 61 xs ≡ false → before_first is_equals xs ≡ xs) → before_first is_equals (x ∷ xs) ≡ x ∷ xs
    go true e later = let bad : true ≡ false = rw e at none in cc
    go false e later =
        let rest : has_byte 61 xs ≡ false = rw e at none in
        let next : 1 + position_or_len is_equals xs ≡ suc (position_or_len is_equals xs) = omega arith in
        rw e (ap (λ k. take k (x ∷ xs)) next ∙ ap (λ ys. x ∷ ys) (later rest))

never : (b : Bool) → ◌≡◌ {A = Status} (if b && false then Done else BadLine) BadLine
never true = refl
never false = refl

-- of the words that begin with two hyphens, those ask that are `--help`, or `--version` where there is one
abbrev long_part : Bool → Text → Bool → Text → Status
long_part v text has name = long_status v name (if has then Some (after_first is_equals text) else None)

asked_either_way : (v : Bool) (text : Text) → long_part v text false text ≡ status_of_word v (45 ∷ 45 ∷ text)
asked_either_way v text = go (bytes_eq text (codes "help")) refl
  where
    later : (v t : Bool) → bytes_eq text (codes "version") ≡ t → bytes_eq text (codes "help") ≡ false → long_part v text false text ≡ status_of_word v (45 ∷ 45 ∷ text)
    later true true f e = subst (λ w. long_part true w false w ≡ status_of_word true (45 ∷ 45 ∷ w)) (sym ((bytes_eq-Decides text (codes "version")).0 f)) refl
    later true false f e = rw (e, f, other_way text (codes "help") e, other_way text (codes "version") f) refl
    later false t f e = rw (e, other_way text (codes "help") e) refl

    go : (t : Bool) → bytes_eq text (codes "help") ≡ t → long_part v text false text ≡ status_of_word v (45 ∷ 45 ∷ text)
    go true e = subst (λ w. long_part v w false w ≡ status_of_word v (45 ∷ 45 ∷ w)) (sym ((bytes_eq-Decides text (codes "help")).0 e)) refl
    go false e = later v (bytes_eq text (codes "version")) refl e

not_asked : (v : Bool) (text : Text) → has_byte 61 text ≡ true → status_of_word v (45 ∷ 45 ∷ text) ≡ BadLine
not_asked v text has = go v (bytes_eq text (codes "help")) refl (bytes_eq text (codes "version")) refl
  where
    go : (v t : Bool) → bytes_eq text (codes "help") ≡ t → (u : Bool) → bytes_eq text (codes "version") ≡ u → status_of_word v (45 ∷ 45 ∷ text) ≡ BadLine
    go v true e u f = let bad : false ≡ true = subst (λ w. has_byte 61 w ≡ true) ((bytes_eq-Decides text (codes "help")).0 e) has in cc
    go true false e true f = let bad : false ≡ true = subst (λ w. has_byte 61 w ≡ true) ((bytes_eq-Decides text (codes "version")).0 f) has in cc
    go true false e false f = rw (e, f) refl
    go false false e u f = rw e refl

long_part_is : (v : Bool) (text : Text) (has : Bool) → has_byte 61 text ≡ has → long_part v text has (before_first is_equals text) ≡ status_of_word v (45 ∷ 45 ∷ text)
long_part_is v text true e = never (is_asked v (before_first is_equals text)) ∙ sym (not_asked v text e)
long_part_is v text false e = ap (long_part v text false) (name_alone text e) ∙ asked_either_way v text

long_word_is : (v : Bool) (text : Text) → flag_status v (45 ∷ 45 ∷ text) (long_of (45 ∷ 45 ∷ text)) ≡ status_of_word v (45 ∷ 45 ∷ text)
long_word_is true [] = refl
long_word_is false [] = refl
long_word_is v (x ∷ xs) = long_part_is v (x ∷ xs) (has_byte 61 (x ∷ xs)) refl

-- well for `h`, and for `V` where there is a version
abbrev status_of_letter : Bool → ℕ → Status
status_of_letter v x = if (104 == x) || (v && (86 == x)) then Done else BadLine

-- the first character is an ASCII letter where the first byte is
letter_agrees : (n c : ℕ) (cs : List ℕ) (y : ℕ) (ys : Text) → n < 128 → encode_utf8_all (c ∷ cs) ≡ y ∷ ys → (n == c) ≡ (n == y)
letter_agrees n c cs y ys small spelled = go (n == c) refl
  where
    later : (t : Bool) → (n == y) ≡ t → (n == c) ≡ false → (n == c) ≡ (n == y)
    later true e differ =
        let y_is : n ≡ y = (Decides-eqb n y).0 e in
        ap (λ (x : ℕ). n == x) (char_from_byte (y ∷ ys) (encode_utf8_all cs) c (sym spelled) (omega arith) (omega arith))
    later false e differ = differ ∙ sym e

    go : (t : Bool) → (n == c) ≡ t → (n == c) ≡ (n == y)
    go true e =
        let c_is : n ≡ c = (Decides-eqb n c).0 e in
        ap (λ (x : ℕ). n == x) (sym (byte_from_char (y ∷ ys) (encode_utf8_all cs) c (sym spelled) (omega arith)))
    go false e = later (n == y) refl e

letter_is : (v : Bool) (cs : List ℕ) (y : ℕ) (ys : Text) → encode_utf8_all cs ≡ y ∷ ys → letter_status v (slice_get cs 0) ≡ status_of_letter v y
letter_is v [] y ys spelled = cc
letter_is v (c ∷ cs) y ys spelled =
    ap₂ (λ (a b : Bool). if a || (v && b) then Done else BadLine) (letter_agrees 104 c cs y ys (omega arith) spelled) (letter_agrees 86 c cs y ys (omega arith) spelled)

-- of the words that begin with one hyphen, those ask that have such a letter next
short_word_is : (v : Bool) (y : ℕ) (ys : Text) → (y == 45) ≡ false → IsUtf8 (45 ∷ y ∷ ys) → flag_status v (45 ∷ y ∷ ys) (long_of (45 ∷ y ∷ ys)) ≡ status_of_word v (45 ∷ y ∷ ys)
short_word_is v y ys differ utf8 =
    let word : Text = 45 ∷ y ∷ ys in
    let u : IsUtf8 (y ∷ ys) = IsUtf8-drop (45 ∷ y ∷ ys) 1 utf8 (IsCharBoundary-after_ascii (45 ∷ y ∷ ys) 0 utf8 (omega arith) (omega arith)) in
    let characters : chars (y ∷ ys) ≡ u.0 = ap chars (sym u.1.1) ∙ chars-encodes u.0 u.1.0 in
    let long : long_of word ≡ None = ap (λ (b : Bool). option_and_then long_of_rest (if b then Some ys else None)) differ in
    let short : short_of word ≡ Some (y ∷ ys) = ap (λ (b : Bool). if b then None else Some (y ∷ ys)) differ in
    ap (flag_status v word) long ∙ ap (short_status v) short ∙ ap (λ cs. letter_status v (slice_get cs 0)) characters ∙ letter_is v u.0 y ys u.1.1
    ∙ sym (plain v (104 == y) refl (86 == y) refl)
  where
    plain : (v t : Bool) → (104 == y) ≡ t → (u : Bool) → (86 == y) ≡ u → status_of_word v (45 ∷ y ∷ ys) ≡ status_of_letter v y
    plain v true e u f = rw (differ, e) refl
    plain true false e true f = rw (differ, e, f) refl
    plain true false e false f = rw (differ, e, f) refl
    plain false false e u f = rw (differ, e) refl

hyphen_word_is : (v : Bool) (xs : Text) → IsUtf8 (45 ∷ xs) → flag_status v (45 ∷ xs) (long_of (45 ∷ xs)) ≡ status_of_word v (45 ∷ xs)
hyphen_word_is true [] utf8 = refl
hyphen_word_is false [] utf8 = refl
hyphen_word_is v (y ∷ ys) utf8 = go (y == 45) refl
  where
    go : (t : Bool) → (y == 45) ≡ t → flag_status v (45 ∷ y ∷ ys) (long_of (45 ∷ y ∷ ys)) ≡ status_of_word v (45 ∷ y ∷ ys)
    go true e = subst (λ n. flag_status v (45 ∷ n ∷ ys) (long_of (45 ∷ n ∷ ys)) ≡ status_of_word v (45 ∷ n ∷ ys)) (sym ((Decides-eqb y 45).0 e)) (long_word_is v ys)
    go false e = short_word_is v y ys e utf8

other_word_is : (v : Bool) (x : ℕ) (xs : Text) → (x == 45) ≡ false → flag_status v (x ∷ xs) (long_of (x ∷ xs)) ≡ status_of_word v (x ∷ xs)
other_word_is v x xs differ =
    let word : Text = x ∷ xs in
    let stripped : strip_byte 45 word ≡ None = rw differ refl in
    let long : long_of word ≡ None = ap (λ o. option_and_then long_of_rest (option_and_then (strip_byte 45) o)) stripped in
    let short : short_of word ≡ None = ap (option_and_then short_of_rest) stripped in
    ap (flag_status v word) long ∙ ap (short_status v) short ∙ sym (plain v)
  where
    plain : (v : Bool) → status_of_word v (x ∷ xs) ≡ BadLine
    plain true = rw (differ, number_other_way x 45 differ) refl
    plain false = rw (differ, number_other_way x 45 differ) refl

-- `clap` and a reader agree on each word
pub word_is : (v : Bool) (word : Text) → IsUtf8 word → flag_status v word (long_of word) ≡ status_of_word v word
word_is true [] utf8 = refl
word_is false [] utf8 = refl
word_is v (x ∷ xs) utf8 = go (x == 45) refl
  where
    go : (t : Bool) → (x == 45) ≡ t → flag_status v (x ∷ xs) (long_of (x ∷ xs)) ≡ status_of_word v (x ∷ xs)
    go true e =
        let hyphen : x ≡ 45 = (Decides-eqb x 45).0 e in
        subst (λ n. flag_status v (n ∷ xs) (long_of (n ∷ xs)) ≡ status_of_word v (n ∷ xs)) (sym hyphen) (hyphen_word_is v xs (subst (λ n. IsUtf8 (n ∷ xs)) hyphen utf8))
    go false e = other_word_is v x xs e

first_word : (word : Text) (rest : List Text) → All IsUtf8 (word ∷ rest) → IsUtf8 word
first_word word rest utf8 = All-get_or IsUtf8 (word ∷ rest) 0 [] (omega arith) utf8

words_after_pipe_are : (words : List Text) → All IsUtf8 words → after_pipe words ≡ status_after_pipe words
words_after_pipe_are [] utf8 = refl
words_after_pipe_are (word ∷ []) utf8 = ap (λ n. if bytes_eq word (codes "--") then None else Some n) (word_is false word (first_word word [] utf8))
words_after_pipe_are (word ∷ next ∷ rest) utf8 = ap Some (word_is false word (first_word word (next ∷ rest) utf8))

pub arguments_are : (words : List Text) → All IsUtf8 words → of_arguments words ≡ status_of_arguments words
arguments_are [] utf8 = refl
arguments_are (word ∷ rest) utf8 =
    ap₂ (λ o n. if bytes_eq word (codes "pipe") then o else Some n) (words_after_pipe_are rest (All-tail IsUtf8 word rest utf8)) (word_is true word (first_word word rest utf8))

behind_hyphens : (text : Text) → before_first is_equals (45 ∷ 45 ∷ text) ≡ 45 ∷ 45 ∷ before_first is_equals text
behind_hyphens text =
    let next : 1 + (1 + position_or_len is_equals text) ≡ suc (suc (position_or_len is_equals text)) = omega arith in
    ap (λ k. take k (45 ∷ 45 ∷ text)) next

-- a word that isn't the option of `pipe` to a reader isn't to `clap`
foreign_long : (text : Text) → is_list_option (45 ∷ 45 ∷ text) ≡ false → IsForeignWord false (long_of (45 ∷ 45 ∷ text))
foreign_long [] other = tt
foreign_long (x ∷ xs) other =
    other_way (before_first is_equals (x ∷ xs)) (codes "revoked") (subst (λ w. bytes_eq w (codes "--revoked") ≡ false) (behind_hyphens (x ∷ xs)) other)

foreign_word : (word : Text) → is_list_option word ≡ false → IsForeignWord false (long_of word)
foreign_word [] other = tt
foreign_word (x ∷ xs) other = go (x == 45) refl xs other
  where
    later : (y : ℕ) (ys : Text) (t : Bool) → (y == 45) ≡ t → is_list_option (45 ∷ y ∷ ys) ≡ false → IsForeignWord false (long_of (45 ∷ y ∷ ys))
    later y ys true e other = subst (λ n. is_list_option (45 ∷ n ∷ ys) ≡ false → IsForeignWord false (long_of (45 ∷ n ∷ ys))) (sym ((Decides-eqb y 45).0 e)) (foreign_long ys) other
    later y ys false e other = rw e tt

    hyphen : (xs : Text) → is_list_option (45 ∷ xs) ≡ false → IsForeignWord false (long_of (45 ∷ xs))
    hyphen [] other = tt
    hyphen (y ∷ ys) other = later y ys (y == 45) refl other

    go : (t : Bool) → (x == 45) ≡ t → (xs : Text) → is_list_option (x ∷ xs) ≡ false → IsForeignWord false (long_of (x ∷ xs))
    go true e xs other = subst (λ n. is_list_option (n ∷ xs) ≡ false → IsForeignWord false (long_of (n ∷ xs))) (sym ((Decides-eqb x 45).0 e)) (hyphen xs) other
    go false e xs other = rw e tt

no_list : (words : List Text) → gives_list words ≡ false → GivesNoList words
no_list [] other = tt
no_list (word ∷ []) other = λ is. tt
no_list (word ∷ next ∷ rest) other = λ is. foreign_word next (rw is at other)

-- the exit status in plain words is that of `clap`'s faults
pub plain_status : (words : List Text) → All IsUtf8 words → names_another (drop 1 words) ≡ false → gives_list (drop 1 words) ≡ false → LeadsTo (status_of_arguments (drop 1 words)) (fault_of command_line words)
plain_status words utf8 unnamed unlisted =
    subst (λ o. LeadsTo o (fault_of command_line words)) (arguments_are (drop 1 words) (All-drop IsUtf8 1 words utf8)) (line_leads (drop 1 words) unnamed (no_list (drop 1 words) unlisted))
