-- What `clap` finds in words that it takes, where a subcommand's arguments are flags, and options that take one value each.
use Rattle.std.proofs.Common.{◌≡◌, ◌∙◌, ◌==◌, ◌⊎◌, ◌&&◌, ◌||◌, inl, inr, ℕ, Bool, cond, true, false, refl, sym, ap, subst, arith, List, [], ◌∷◌, ◌++◌, codes, length, not, Option, Some, None, is_some, append-nil}
use Rattle.std.specs.Prelude.{if◌then◌else◌, drop, encode_utf8, find, slice_get, option_map}
use Rattle.std.specs.List.{fold, list_any}
use Rattle.std.specs.Option.{option_map_or}
use Rattle.std.specs.Str.{bytes_eq, chars}
use Rattle.std.proofs.lemmas.Bool.{ne_eqb}
use Rattle.std.proofs.lemmas.Slice.Eq.{bytes_eq-Decides}
use Rattle.clap.specs.Lexer.{long_of, short_of}
use Rattle.clap.specs.Facts.{parser_of_value, unwrap_or_range}
use Rattle.clap.specs.Values.{read_as, refused_kind}
use Rattle.clap.specs.ValueTests.{accepts}
use Rattle.clap.specs.Kinds.{Kinds, or_else, range_kinds, request_kinds, value_kinds}
use Rattle.clap.specs.Walk.{Held, Outcome, Row, Rule, Step, Text, Waiting, Walk, action_of, after_flag, after_step, arg_by_id, arg_by_index, arg_by_long, arg_by_short, at_row, bundle, bundle_met, default_rows, first_of, flag_met, has_long, has_row, has_short, idle, is_empty, long_met, long_or_other, more_values, next, nothing_held, one_of, option, option_met, option_word, plain, plain_word, positional, reacted, reading_by, row_text, rows_after, settled, settled_rows, short_or_plain, subcommand, takes_values, trailing, used, used_as, used_by_id, value, values_or_missing, walk, walk_from, walked, walked_from, with_default, with_values, without, word_met}
use Rattle.clap.specs.Takes.{is_given}
use Rattle.clap.specs.Simple.{Shape}
use Rattle.clap.specs.Faults.{action_fault, bundle_fault, bundle_step_fault, default_fault, defaults_fault, flag_word_fault, flags_fault, given_default_fault, level_fault, long_fault, option_fault, react_fault, set_fault, settle_fault, short_fault, step_fault, stray_fault, turn_fault, use_fault, values_fault, walk_fault, word_fault}
use Rattle.clap.specs.declared.builder.action.ArgAction.{ArgAction}
use Rattle.clap.specs.declared.builder.action.ArgAction.TheVariants.{Set, SetTrue, Help}
use Rattle.clap.specs.declared.builder.range.ValueRange.{ValueRange}
use Rattle.clap.specs.declared.builder.value_parser.ValueParser.{ValueParser}
use Rattle.clap.specs.declared.builder.value_parser.Reading.TheVariants.{AsWritten}
use Rattle.clap.specs.declared.error.kind.ErrorKind.{ErrorKind}
use Rattle.clap.specs.declared.error.kind.ErrorKind.TheVariants.{ArgumentConflict, DisplayHelp, InvalidSubcommand, MissingRequiredArgument, TooManyValues, UnknownArgument, WrongNumberOfValues}
use Rattle.clap.specs.declared.parser.matches.ValueSource.{ValueSource}
use Rattle.clap.specs.declared.parser.matches.ValueSource.TheVariants.{CommandLine, DefaultValue}
use Rattle.clap.proofs.WalkLemmas.{bundle_ends}

-- ---- lists of kinds

nothing : (k : ErrorKind) (ks : Kinds) → k ∷ ks ≡ [] → ⊥
nothing k ks e = cc

pub first_none : (a b : Kinds) → or_else a b ≡ [] → a ≡ []
first_none [] b e = refl
first_none (k ∷ ks) b e = e

pub second_none : (a b : Kinds) → or_else a b ≡ [] → b ≡ []
second_none [] b e = e
second_none (k ∷ ks) b e = cc

-- ---- the arguments

abbrev pub one_value : ValueRange
one_value = record { start_inclusive = 1; end_inclusive = 1 }

abbrev pub no_value : ValueRange
no_value = record { start_inclusive = 0; end_inclusive = 0 }

-- an option that takes one value, and has the id to itself
pub record IsOption (c : List Rule) (a : Rule) : Type 0 where
  pub action : action_of a ≡ Set
  pub range : a.range ≡ Some one_value
  pub index : a.index ≡ None
  pub defaults : a.defaults ≡ []
  pub short : (x : ℕ) → has_short a x ≡ false
  pub reading : reading_by a ≡ AsWritten
  pub own : arg_by_id c a.id ≡ Some a

-- a flag, which has the id to itself: its value is `true` where it is used, else `false`
pub record IsFlag (c : List Rule) (a : Rule) : Type 0 where
  pub action : action_of a ≡ SetTrue
  pub range : a.range ≡ Some no_value
  pub index : a.index ≡ None
  pub defaults : a.defaults ≡ codes "false" ∷ []
  pub missing : a.missing ≡ codes "true" ∷ []
  pub short : (x : ℕ) → has_short a x ≡ false
  pub reading : reading_by a ≡ AsWritten
  pub own : arg_by_id c a.id ≡ Some a

-- `--help`
pub record IsHelp (a : Rule) : Type 0 where
  pub action : action_of a ≡ Help
  pub range : a.range ≡ Some no_value
  pub index : a.index ≡ None
  pub defaults : a.defaults ≡ []

abbrev pub IsKnown : List Rule → Rule → Type 0
IsKnown c a = IsOption c a ⊎ (IsFlag c a ⊎ IsHelp a)

abbrev pub Each : {X : Type 0} → (X → Type 0) → List X → Type 0
Each P [] = Unit {0}
Each P (x ∷ xs) = P x × Each P xs

abbrev takes_by : Option ValueRange → Bool
takes_by r = not ((unwrap_or_range r).end_inclusive == 0)

-- what is found in a list is in it, and passes the test
found_in : {X : Type 0} (P : X → Type 0) (t : X → Bool) (xs : List X) (x : X) → Each P xs → find t xs ≡ Some x → P x × (t x ≡ true)
found_in P t [] x all e = absurd (cc)
found_in P t (y ∷ ys) x all e = go (t y) refl e (λ rest. found_in P t ys x all.1 rest)
  where
    go : (b : Bool) → t y ≡ b → cond b (Some y) (find t ys) ≡ Some x → (find t ys ≡ Some x → P x × (t x ≡ true)) → P x × (t x ≡ true)
    go true is same later = let one : y ≡ x = cc in (subst P one all.0, subst (λ z. t z ≡ true) one is)
    go false is same later = later same

-- ---- one use of an argument

-- a row of an option or a flag has one value, which the argument's parser takes
abbrev pub IsRow : List Rule → Row → Type 0
IsRow c r = (a : Rule) × (arg_by_id c r.id ≡ Some a) × (v : Text) × (r.values ≡ v ∷ []) × (r.reading ≡ AsWritten)
    × (accepts a.ignore_case (parser_of_value a.parser) v ≡ true)

accepted : (b : Bool) (p : ValueParser) (v : Text) → value_kinds b p v ≡ [] → accepts b p v ≡ true
accepted b p v e = go (accepts b p v) refl e
  where
    go : (t : Bool) → accepts b p v ≡ t → (if t then [] else refused_kind p ∷ []) ≡ [] → accepts b p v ≡ true
    go true is same = is
    go false is same = absurd (nothing _ _ same)

at_none : (id : Text) (change : Row → List Row) (missing rows : List Row) → has_row id rows ≡ false → at_row id change missing rows ≡ rows ++ missing
at_none id change missing [] none = refl
at_none id change missing (r ∷ rs) none = go (bytes_eq r.id id) refl (λ rest. at_none id change missing rs rest)
  where
    go : (b : Bool) → bytes_eq r.id id ≡ b → (has_row id rs ≡ false → at_row id change missing rs ≡ rs ++ missing)
        → cond b (change r ++ rs) (r ∷ at_row id change missing rs) ≡ r ∷ (rs ++ missing)
    go true is rest = let bad : true ≡ false = rw is at none in cc
    go false is rest = let here : has_row id rs ≡ false = rw is at none in ap (λ xs. r ∷ xs) (rest here)

each_more : {X : Type 0} (P : X → Type 0) (xs : List X) (x : X) → Each P xs → P x → Each P (xs ++ x ∷ [])
each_more P [] x all p = (p, tt)
each_more P (y ∷ ys) x all p = (all.0, each_more P ys x all.1 p)

-- what a use asks, where the range and the action are known
use_is : (a : Rule) (values : List Text) (rows : List Row) (r : Option ValueRange) (x : ArgAction) → a.range ≡ r → action_of a ≡ x
    → use_fault false a values rows ≡ or_else (range_kinds (unwrap_or_range r).start_inclusive (unwrap_or_range r).end_inclusive (length values))
    (action_fault x false a (values_or_missing a values) rows)
use_is a values rows r x range action =
    λ i. or_else (range_kinds (unwrap_or_range (range i)).start_inclusive (unwrap_or_range (range i)).end_inclusive (length values))
    (action_fault (action i) false a (values_or_missing a values) rows)

never_help : (a : Rule) (values : List Text) (rows : List Row) → IsHelp a → use_fault false a values rows ≡ [] → ⊥
never_help a values rows h e =
    let asked : or_else (range_kinds 0 0 (length values)) (DisplayHelp ∷ []) ≡ [] = sym (use_is a values rows (Some no_value) Help h.range h.action) ∙ e in
    nothing _ _ (second_none (range_kinds 0 0 (length values)) (DisplayHelp ∷ []) asked)

abbrev row_with : Rule → ValueSource → Text → Row
row_with a s v = record { id = a.id; values = v ∷ []; count = None; source = Some s; reading = AsWritten }

-- a value that the parser takes adds a row, where there is none yet
value_adds : (c : List Rule) (a : Rule) (s : ValueSource) (v : Text) (rows : List Row) → arg_by_id c a.id ≡ Some a → has_row a.id rows ≡ false → Each (IsRow c) rows
    → values_fault a (v ∷ []) ≡ [] → Each (IsRow c) (with_values a.id AsWritten s (v ∷ []) rows)
value_adds c a s v rows own no_row all e =
    let passed = accepted a.ignore_case (parser_of_value a.parser) v (first_none _ [] e) in
    let row : IsRow c (row_with a s v) = (a, own, v, refl, refl, passed) in
    let adds : with_values a.id AsWritten s (v ∷ []) rows ≡ rows ++ row_with a s v ∷ [] = at_none a.id (more_values s (v ∷ [])) (row_with a s v ∷ []) rows no_row in
    subst (Each (IsRow c)) (sym adds) (each_more (IsRow c) rows (row_with a s v) all row)

-- a value that is set, and passes
set_passes : (c : List Rule) (a : Rule) (v : Text) (rows : List Row) → arg_by_id c a.id ≡ Some a → Each (IsRow c) rows → set_fault false a (v ∷ []) rows ≡ []
    → Each (IsRow c) (used_as Set a.id AsWritten (v ∷ []) rows)
set_passes c a v rows own all e = go (has_row a.id rows) refl e
  where
    go : (b : Bool) → has_row a.id rows ≡ b → or_else (if b && true then ArgumentConflict ∷ [] else []) (values_fault a (v ∷ [])) ≡ []
        → Each (IsRow c) (used_as Set a.id AsWritten (v ∷ []) rows)
    go true has none = absurd (nothing _ _ none)
    go false has none =
        let gone : without a.id rows ≡ rows = at_none a.id (λ _. []) [] rows has ∙ append-nil rows in
        subst (λ rs. Each (IsRow c) (with_values a.id AsWritten CommandLine (v ∷ []) rs)) (sym gone) (value_adds c a CommandLine v rows own has all none)

-- a use of an option that passes adds a row
use_passes : (c : List Rule) (a : Rule) (values : List Text) (rows : List Row) → IsOption c a → Each (IsRow c) rows → use_fault false a values rows ≡ []
    → Each (IsRow c) (used a values rows)
use_passes c a values rows o all e = go values (sym (use_is a values rows (Some one_value) Set o.range o.action) ∙ e)
  where
    go : (values : List Text) → or_else (range_kinds 1 1 (length values)) (action_fault Set false a (values_or_missing a values) rows) ≡ []
        → Each (IsRow c) (used a values rows)
    go [] none = absurd (nothing _ _ none)
    go (v ∷ []) none =
        let set : used a (v ∷ []) rows ≡ used_as Set a.id AsWritten (v ∷ []) rows = λ i. used_as (o.action i) a.id (o.reading i) (v ∷ []) rows in
        subst (Each (IsRow c)) (sym set) (set_passes c a v rows o.own all none)
    go (v ∷ w ∷ rest) none =
        let more : (1 == length (v ∷ w ∷ rest)) ≡ false = ne_eqb _ _ (λ same. omega arith) in
        let some : (length (v ∷ w ∷ rest) == 0) ≡ false = ne_eqb _ _ (λ same. omega arith) in
        let wrong : range_kinds 1 1 (length (v ∷ w ∷ rest)) ≡ WrongNumberOfValues ∷ [] = rw (some, more) refl in
        absurd (nothing _ _ (sym wrong ∙ first_none _ _ none))

-- and so does one of a flag
flag_passes : (c : List Rule) (a : Rule) (values : List Text) (rows : List Row) → IsFlag c a → Each (IsRow c) rows → use_fault false a values rows ≡ []
    → Each (IsRow c) (used a values rows)
flag_passes c a values rows f all e = go values (sym (use_is a values rows (Some no_value) SetTrue f.range f.action) ∙ e)
  where
    go : (values : List Text) → or_else (range_kinds 0 0 (length values)) (action_fault SetTrue false a (values_or_missing a values) rows) ≡ []
        → Each (IsRow c) (used a values rows)
    go [] none =
        let set : used a [] rows ≡ used_as Set a.id AsWritten (codes "true" ∷ []) rows = λ i. used_as (f.action i) a.id (f.reading i) (f.missing i) rows in
        let passes : set_fault false a (codes "true" ∷ []) rows ≡ [] = subst (λ vs. set_fault false a vs rows ≡ []) f.missing none in
        subst (Each (IsRow c)) (sym set) (set_passes c a (codes "true") rows f.own all passes)
    go (v ∷ rest) none =
        let some : (0 == length (v ∷ rest)) ≡ false = ne_eqb _ _ (λ same. omega arith) in
        let wrong : range_kinds 0 0 (length (v ∷ rest)) ≡ WrongNumberOfValues ∷ [] = rw some refl in
        absurd (nothing _ _ (sym wrong ∙ first_none _ _ none))

-- ---- the walk

-- what stands between two words: rows of options and flags
pub record IsHeld (c : List Rule) (h : Held) : Type 0 where
  pub rows : Each (IsRow c) h.rows
  pub skip : h.skip ≡ 0

settle_passes : (c : List Rule) (h : Held) → Each (IsKnown c) c → IsHeld c h → settle_fault c false h ≡ [] → Each (IsRow c) (settled c h).rows
settle_passes c h known is e = pending h.pending e
  where
    known_use : (a : Rule) (values : List Text) → IsKnown c a → use_fault false a values h.rows ≡ [] → Each (IsRow c) (used a values h.rows)
    known_use a values (inl o) none = use_passes c a values h.rows o is.rows none
    known_use a values (inr (inl f)) none = flag_passes c a values h.rows f is.rows none
    known_use a values (inr (inr help)) none = absurd (never_help a values h.rows help none)

    named : (p : Text × List Text) (o : Option Rule) → arg_by_id c p.0 ≡ o → option_map_or (λ a. use_fault false a p.1 h.rows) o [] ≡ []
        → Each (IsRow c) (used_by_id o p.1 h.rows)
    named p None found none = is.rows
    named p (Some a) found none = known_use a p.1 (found_in (IsKnown c) (λ a. bytes_eq a.id p.0) c a known found).0 none

    pending : (o : Option (Text × List Text)) → option_map_or (λ p. option_map_or (λ a. use_fault false a p.1 h.rows) (arg_by_id c p.0) []) o [] ≡ []
        → Each (IsRow c) (settled_rows c o h.rows)
    pending None none = is.rows
    pending (Some p) none = named p (arg_by_id c p.0) refl none

abbrev is_stop : Step → Bool
is_stop (subcommand name) = true
is_stop _ = false

-- a word leaves such rows, and names no subcommand
abbrev IsMet : List Rule → Held × Step → Type 0
IsMet c met = IsHeld c met.0 × (is_stop met.1 ≡ false)

held_as : (c : List Rule) (h : Held) → IsHeld c h → (rows : List Row) → Each (IsRow c) rows → (p : Option (Text × List Text)) → IsHeld c (record h { rows = rows; pending = p })
held_as c h is rows all p = record { rows = all; skip = is.skip }

plain_met : (c : List Rule) (waiting : Waiting) (word : Text) (h : Held) → IsHeld c h → IsMet c (plain_word c waiting word h)
plain_met c idle word h is = (is, refl)
plain_met c positional word h is = (is, refl)
plain_met c (option id) word h is = go (arg_by_id c id)
  where
    go : (o : Option Rule) → IsMet c ((option_word o id word h).0, next (option_word o id word h).1)
    go None = (is, refl)
    go (Some a) = (held_as c h is h.rows is.rows _, refl)

-- `--name` or `--name=value`
long_passes : (c : List Rule) (waiting : Waiting) (word name : Text) (v : Option Text) (h : Held) → Each (IsKnown c) c → IsHeld c h
    → long_fault c false (arg_by_long c name) v h ≡ [] → IsMet c (long_or_other c waiting word (Some (name, v)) h)
long_passes c waiting word name v h known is e = go (arg_by_long c name) refl e
  where
    valued : (a : Rule) → IsOption c a → (v : Option Text) → option_fault c false a v h ≡ [] → IsMet c (after_flag c waiting word (option_met c a v h).0 (option_met c a v h).1)
    valued a o (Some t) none =
        let settles = settle_passes c h known is (first_none _ _ none) in
        let uses = use_passes c a (t ∷ []) (settled c h).rows o settles (second_none (settle_fault c false h) _ none) in
        (held_as c h is _ uses None, refl)
    valued a o None none = (held_as c h is _ (settle_passes c h known is none) _, refl)

    flagged : (a : Rule) → IsFlag c a → (v : Option Text) → (if is_some v then TooManyValues ∷ [] else react_fault c false a [] h) ≡ []
        → IsMet c (after_flag c waiting word (flag_met c a v h).0 (flag_met c a v h).1)
    flagged a f (Some t) none = absurd (nothing _ _ none)
    flagged a f None none =
        let settles = settle_passes c h known is (first_none _ _ none) in
        let uses = flag_passes c a [] (settled c h).rows f settles (second_none (settle_fault c false h) _ none) in
        (held_as c h is _ uses None, refl)

    takes : (a : Rule) → IsKnown c a → long_fault c false (Some a) v h ≡ [] → IsMet c (after_flag c waiting word (long_met c (Some a) v h).0 (long_met c (Some a) v h).1)
    takes a (inl o) none =
        let takes_one : takes_values a ≡ true = λ i. takes_by (o.range i) in
        let asks : option_fault c false a v h ≡ [] = rw takes_one at none in
        let met : long_met c (Some a) v h ≡ option_met c a v h = rw takes_one refl in
        subst (λ (m : Held × Outcome). IsMet c (after_flag c waiting word m.0 m.1)) (sym met) (valued a o v asks)
    takes a (inr (inl f)) none =
        let takes_none : takes_values a ≡ false = λ i. takes_by (f.range i) in
        let asks : (if is_some v then TooManyValues ∷ [] else react_fault c false a [] h) ≡ [] = rw takes_none at none in
        let met : long_met c (Some a) v h ≡ flag_met c a v h = rw takes_none refl in
        subst (λ (m : Held × Outcome). IsMet c (after_flag c waiting word m.0 m.1)) (sym met) (flagged a f v asks)
    takes a (inr (inr help)) none =
        let takes_none : takes_values a ≡ false = λ i. takes_by (help.range i) in
        let asks : (if is_some v then TooManyValues ∷ [] else react_fault c false a [] h) ≡ [] = rw takes_none at none in
        absurd (flag_never a help (is_some v) asks)
      where
        flag_never : (a : Rule) → IsHelp a → (b : Bool) → (if b then TooManyValues ∷ [] else react_fault c false a [] h) ≡ [] → ⊥
        flag_never a help true none = nothing _ _ none
        flag_never a help false none = never_help a [] (settled c h).rows help (second_none (settle_fault c false h) _ none)

    go : (o : Option Rule) → arg_by_long c name ≡ o → long_fault c false o v h ≡ [] → IsMet c (after_flag c waiting word (long_met c o v h).0 (long_met c o v h).1)
    go None found none = absurd (nothing _ _ none)
    go (Some a) found none = takes a (found_in (IsKnown c) (λ a. not (is_some a.index) && has_long a name) c a known found).0 none

-- `-abc`: a letter is refused, so there is none
bundle_passes : (c : List Rule) (flags : Text) (h : Held) → Each (IsKnown c) c → IsHeld c h → bundle_fault c false flags h ≡ [] → bundle c flags h ≡ (record h { skip = 0 }, plain)
unfolding flags_fault chars
bundle_passes c flags h known is e = start flags (slice_get (chars flags) 0) refl (rw is.skip at e)
  where
    at : Held
    at = record h { skip = 0 }

    lettered : (x : ℕ) (rest : Text) (more : Held → Kinds) (o : Option Rule) → arg_by_short c x ≡ o → short_fault c false o rest at more ≡ [] → ⊥
    lettered x rest more None found none = nothing _ _ none
    lettered x rest more (Some a) found none =
        let in_list = found_in (IsKnown c) (λ a. not (is_some a.index) && has_short a x) c a known found in
        which in_list.0 in_list.1
      where
        asked : IsHelp a → ⊥
        asked help =
            let takes_none : takes_values a ≡ false = λ i. takes_by (help.range i) in
            let asks : or_else (react_fault c false a [] at) (more (reacted c a [] at)) ≡ [] = rw takes_none at none in
            never_help a [] (settled c at).rows help (second_none (settle_fault c false at) _ (first_none _ _ asks))

        never : (b : Bool) → (b && false) ≡ true → ⊥
        never true bad = cc
        never false bad = cc

        without_letter : has_short a x ≡ false → (not (is_some a.index) && has_short a x) ≡ true → ⊥
        without_letter none passes = let bad : (not (is_some a.index) && false) ≡ true = rw none at passes in never (not (is_some a.index)) bad

        which : IsKnown c a → (not (is_some a.index) && has_short a x) ≡ true → ⊥
        which (inl o) passes = without_letter (o.short x) passes
        which (inr (inl f)) passes = without_letter (f.short x) passes
        which (inr (inr help)) passes = asked help

    start : (flags : Text) (first : Option ℕ) → slice_get (chars flags) 0 ≡ first → flags_fault c false (length flags) flags 0 at ≡ []
        → bundle_met c (length flags) flags h.skip plain at ≡ (at, plain)
    start flags None first none = sym (bundle_ends c (length flags) flags h.skip plain at (sym first))
    start [] (Some x) first none = absurd (cc)
    start (b ∷ bs) (Some x) first none =
        let asks : short_fault c false (arg_by_short c x) (drop (length (encode_utf8 x)) (b ∷ bs)) at _ ≡ [] =
        subst (λ o. bundle_step_fault c false o (b ∷ bs) 0 at (flags_fault c false (length bs)) ≡ []) first none in
        absurd (lettered x _ _ (arg_by_short c x) refl asks)

-- a word that is no subcommand, and stands before `--`
other_passes : (c : List Rule) (waiting : Waiting) (word : Text) (h : Held) (l : Option (Text × Option Text)) → Each (IsKnown c) c → IsHeld c h
    → flag_word_fault c false l word h ≡ [] → IsMet c (long_or_other c waiting word l h)
other_passes c waiting word h (Some p) known is e = long_passes c waiting word p.0 p.1 h known is e
other_passes c waiting word h None known is e = go (short_of word) e
  where
    go : (o : Option Text) → option_map_or (λ flags. bundle_fault c false flags h) o [] ≡ [] → IsMet c (short_or_plain c waiting word o h)
    go None none = plain_met c waiting word h is
    go (Some flags) none =
        let met = bundle_passes c flags h known is none in
        let same : after_flag c waiting word (bundle c flags h).0 (bundle c flags h).1 ≡ plain_word c waiting word (record h { skip = 0 }) =
        ap (λ (m : Held × Outcome). after_flag c waiting word m.0 m.1) met in
        subst (IsMet c) (sym same) (plain_met c waiting word (record h { skip = 0 }) (record { rows = is.rows; skip = refl }))

-- a subcommand without subcommands
abbrev pub leaf : List Rule → Shape → Shape
leaf c s = record s {
  rules = c;
  args_override_self = false;
  arg_required_else_help = false;
  subcommand_required = false;
  subcommand_negates_reqs = false;
}

word_passes : (c : List Rule) (s : Shape) (is_trailing : Bool) (waiting : Waiting) (position : ℕ) (word : Text) (h : Held) → Each (IsKnown c) c → IsHeld c h
    → word_fault (leaf c s) [] is_trailing waiting word h ≡ [] → IsMet c (word_met c [] is_trailing waiting position word h)
word_passes c s true waiting position word h known is e = (is, refl)
word_passes c s false waiting position word h known is e = go waiting e
  where
    dashes : (w : Waiting) (b : Bool) → bytes_eq word (45 ∷ 45 ∷ []) ≡ b → (if b then [] else flag_word_fault c false (long_of word) word h) ≡ []
        → IsMet c (if b then (h, trailing position) else long_or_other c w word (long_of word) h)
    dashes w true same none = (is, refl)
    dashes w false same none = other_passes c w word h (long_of word) known is none

    go : (w : Waiting) → word_fault (leaf c s) [] false w word h ≡ [] → IsMet c (word_met c [] false w position word h)
    go idle none = dashes idle (bytes_eq word (45 ∷ 45 ∷ [])) refl none
    go positional none = dashes positional (bytes_eq word (45 ∷ 45 ∷ [])) refl none
    go (option id) none = dashes (option id) (bytes_eq word (45 ∷ 45 ∷ [])) refl none

-- no argument stands at a place
no_place : (c xs : List Rule) (i : ℕ) → Each (IsKnown c) xs → arg_by_index xs i ≡ None
no_place c [] i known = refl
no_place c (a ∷ rest) i known = go known.0 (no_place c rest i known.1)
  where
    at : (o : Option ℕ) → o ≡ None → find (λ b. option_map_or (λ k. k == i) b.index false) rest ≡ None
        → cond (option_map_or (λ k. k == i) o false) (Some a) (find (λ b. option_map_or (λ k. k == i) b.index false) rest) ≡ None
    at None same rest_none = rest_none
    at (Some k) same rest_none = absurd (cc)

    go : IsKnown c a → arg_by_index rest i ≡ None → arg_by_index (a ∷ rest) i ≡ None
    go (inl o) none = at a.index o.index none
    go (inr (inl f)) none = at a.index f.index none
    go (inr (inr help)) none = at a.index help.index none

record IsWalk (c : List Rule) (w : Walk) : Type 0 where
  held : IsHeld c w.held
  stopped : w.stopped ≡ None

stray : (s : Shape) → stray_fault s ≡ [] → ⊥
stray s e = go s.is_leaf e
  where
    go : (b : Bool) → cond b (UnknownArgument ∷ []) (UnknownArgument ∷ InvalidSubcommand ∷ []) ≡ [] → ⊥
    go true none = nothing _ _ none
    go false none = nothing _ _ none

step_passes : (c : List Rule) (s : Shape) (word : Text) (w : Walk) (h : Held) (step : Step) → Each (IsKnown c) c → IsWalk c w → IsMet c (h, step)
    → step_fault (leaf c s) w.position h step ≡ [] → IsWalk c (after_step c word w h step)
step_passes c s word w h (next waiting) known is met e = record { held = met.0; stopped = is.stopped }
step_passes c s word w h (trailing position) known is met e = record { held = met.0; stopped = is.stopped }
step_passes c s word w h (subcommand name) known is met e = absurd (cc)
step_passes c s word w h value known is met e =
    let alone : stray_fault (leaf c s) ≡ [] = rw (no_place c c w.position known) at e in
    absurd (stray (leaf c s) alone)

turn_passes : (c : List Rule) (s : Shape) (w : Walk) (word : Text) → Each (IsKnown c) c → IsWalk c w → turn_fault (leaf c s) [] w word ≡ [] → IsWalk c (walked c [] w word)
unfolding walked
turn_passes c s w word known is e =
    let met = word_met c [] w.is_trailing w.waiting w.position word w.held in
    let asks : or_else (word_fault (leaf c s) [] w.is_trailing w.waiting word w.held) (step_fault (leaf c s) w.position met.0 met.1) ≡ [] = rw is.stopped at e in
    let fine = word_passes c s w.is_trailing w.waiting w.position word w.held known is.held (first_none _ _ asks) in
    let after = step_passes c s word w met.0 met.1 known is fine (second_none (word_fault (leaf c s) [] w.is_trailing w.waiting word w.held) _ asks) in
    let same : walked_from c [] w.stopped w word ≡ after_step c word w met.0 met.1 = ap (λ o. walked_from c [] o w word) is.stopped in
    subst (IsWalk c) (sym same) after

walk_passes : (c : List Rule) (s : Shape) (w : Walk) (words : List Text) → Each (IsKnown c) c → IsWalk c w → walk_fault (leaf c s) [] w words ≡ [] → IsWalk c (fold (walked c []) w words)
unfolding walk_fault
walk_passes c s w [] known is e = is
walk_passes c s w (word ∷ rest) known is e =
    walk_passes c s (walked c [] w word) rest known (turn_passes c s w word known is (first_none _ _ e)) (second_none (turn_fault (leaf c s) [] w word) _ e)

-- ---- the rows at the end

-- an argument that was not used gets no row but that of a flag
default_passes : (c : List Rule) (a : Rule) (rows : List Row) → IsKnown c a → Each (IsRow c) rows → default_fault rows a ≡ [] → Each (IsRow c) (with_default rows a)
default_passes c a rows known all e = which known
  where
    unchanged : (ds : List Text) → ds ≡ [] → (b : Bool) → (if b then rows else default_rows a.id (reading_by a) ds rows) ≡ rows
    unchanged [] none true = refl
    unchanged [] none false = refl
    unchanged (d ∷ ds) none b = absurd (cc)

    flag : IsFlag c a → (b : Bool) → has_row a.id rows ≡ b → (if b || is_empty a.defaults then [] else given_default_fault a a.defaults) ≡ []
        → Each (IsRow c) (if b then rows else default_rows a.id (reading_by a) a.defaults rows)
    flag f true has none = all
    flag f false has none =
        let asks : (if is_empty a.defaults then [] else given_default_fault a a.defaults) ≡ values_fault a (codes "false" ∷ []) =
        λ i. if is_empty (f.defaults i) then [] else or_else (request_kinds (f.action i)) (values_fault a (f.defaults i)) in
        let set : default_rows a.id (reading_by a) a.defaults rows ≡ with_values a.id AsWritten DefaultValue (codes "false" ∷ []) rows = λ i. default_rows a.id (f.reading i) (f.defaults i) rows in
        subst (Each (IsRow c)) (sym set) (value_adds c a DefaultValue (codes "false") rows f.own has all (sym asks ∙ none))

    which : IsKnown c a → Each (IsRow c) (with_default rows a)
    which (inl o) = subst (Each (IsRow c)) (sym (unchanged a.defaults o.defaults (has_row a.id rows))) all
    which (inr (inl f)) = flag f (has_row a.id rows) refl e
    which (inr (inr help)) = subst (Each (IsRow c)) (sym (unchanged a.defaults help.defaults (has_row a.id rows))) all

defaults_pass : (c xs : List Rule) (rows : List Row) → Each (IsKnown c) xs → Each (IsRow c) rows → defaults_fault rows xs ≡ [] → Each (IsRow c) (fold with_default rows xs)
unfolding defaults_fault
defaults_pass c [] rows known all e = all
defaults_pass c (a ∷ rest) rows known all e =
    defaults_pass c rest (with_default rows a) known.1 (default_passes c a rows known.0 all (first_none _ _ e)) (second_none (default_fault rows a) _ e)

-- the rows of such a subcommand on words that it takes, and that no option is missing
pub leaf_rows : (c : List Rule) (s : Shape) (words : List Text) → Each (IsKnown c) c → level_fault (leaf c s) [] nothing_held words false [] ≡ []
    → Each (IsRow c) (rows_after c [] words) × (list_any (λ a. a.required && not (is_given a.id (rows_after c [] words))) c ≡ false)
leaf_rows c s words known e =
    let end = (walk c [] nothing_held words).held in
    let walks = walk_passes c s (walk_from nothing_held) words known (record { held = record { rows = tt; skip = refl }; stopped = refl }) (first_none _ _ e) in
    let e1 = second_none (walk_fault (leaf c s) [] (walk_from nothing_held) words) _ e in
    let settles = settle_passes c end known walks.held (first_none _ _ e1) in
    let e2 = second_none (settle_fault c false end) _ e1 in
    let e3 = second_none (defaults_fault (settled c end).rows c) _ e2 in (
      defaults_pass c c (settled c end).rows known settles (first_none _ _ e2),
      third (list_any (λ a. a.required && not (is_given a.id (rows_after c [] words))) c) refl e3,
    )
  where
    third : (b : Bool) → list_any (λ a. a.required && not (is_given a.id (rows_after c [] words))) c ≡ b → (if b then MissingRequiredArgument ∷ [] else []) ≡ []
        → list_any (λ a. a.required && not (is_given a.id (rows_after c [] words))) c ≡ false
    third true is none = absurd (nothing _ _ none)
    third false is none = is

-- ---- what the rows have for one argument

-- the argument has a value, which its parser takes
abbrev pub HasValue : List Rule → Text → List Row → Type 0
HasValue c id rows = (a : Rule) × (arg_by_id c id ≡ Some a) × (v : Text) × (first_of id rows ≡ Some v) × (one_of id rows ≡ Some v)
    × (accepts a.ignore_case (parser_of_value a.parser) v ≡ true)

abbrev IsValued : List Rule → Text → Row → Type 0
IsValued c id r = (a : Rule) × (arg_by_id c id ≡ Some a) × (v : Text) × (slice_get r.values 0 ≡ Some v) × (row_text r ≡ Some v)
    × (accepts a.ignore_case (parser_of_value a.parser) v ≡ true)

row_value : (c : List Rule) (id : Text) (r : Row) → IsRow c r → bytes_eq r.id id ≡ true → IsValued c id r
row_value c id r (a, own, v, values, reading, passes) same =
    let its = (bytes_eq-Decides r.id id).0 same in
    let first : slice_get r.values 0 ≡ Some v = ap (λ vs. slice_get vs 0) values in
    (a, subst (λ i. arg_by_id c i ≡ Some a) its own, v, first, (λ i. option_map (read_as (reading i)) (first i)), passes)

-- it has a value, or no row
pub value_or_none : (c : List Rule) (id : Text) (rows : List Row) → Each (IsRow c) rows
    → ((first_of id rows ≡ None) × (one_of id rows ≡ None) × (is_given id rows ≡ false)) ⊎ HasValue c id rows
value_or_none c id [] all = inl (refl, refl, refl)
value_or_none c id (r ∷ rs) all = go (bytes_eq r.id id) refl (value_or_none c id rs all.1)
  where
    found : Bool → Option Row
    found b = cond b (Some r) (find (λ x. bytes_eq x.id id) rs)

    go : (b : Bool) → bytes_eq r.id id ≡ b → ((first_of id rs ≡ None) × (one_of id rs ≡ None) × (is_given id rs ≡ false)) ⊎ HasValue c id rs
        → ((first_of id (r ∷ rs) ≡ None) × (one_of id (r ∷ rs) ≡ None) × (is_given id (r ∷ rs) ≡ false)) ⊎ HasValue c id (r ∷ rs)
    go true is rest =
        let v = row_value c id r all.0 is in
        inr (v.0, v.1, v.2, rw is v.3, rw is v.4, v.5)
    go false is (inl none) = inl (rw is none.0, rw is none.1, rw is none.2)
    go false is (inr v) = inr (v.0, v.1, v.2, rw is v.3, rw is v.4, v.5)

-- it has a value where it is given
pub value_given : (c : List Rule) (id : Text) (rows : List Row) → Each (IsRow c) rows → is_given id rows ≡ true → HasValue c id rows
value_given c id rows all given = go (value_or_none c id rows all)
  where
    go : ((first_of id rows ≡ None) × (one_of id rows ≡ None) × (is_given id rows ≡ false)) ⊎ HasValue c id rows → HasValue c id rows
    go (inl none) = absurd (cc)
    go (inr v) = v
