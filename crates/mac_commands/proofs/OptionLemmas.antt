-- What `clap` finds in the words of a command line that it takes: a subcommand, with the options that it asks for.
use Rattle.std.proofs.Common.{◌≡◌, ◌∙◌, ◌⊎◌, ◌||◌, ◌==◌, inl, inr, ℕ, Bool, cond, codes, true, false, refl, sym, ap, ap₂, subst, List, [], ◌∷◌, map, not, Option, Some, None, is_some, Result, Ok, Err, IfOk}
use Rattle.std.specs.Prelude.{find, option_map}
use Rattle.std.specs.List.{list_any}
use Rattle.std.specs.Option.{option_map_or}
use Rattle.clap.specs.Facts.{parser_of_value}
use Rattle.clap.specs.Kinds.{FailsBy, Kinds, or_else}
use Rattle.clap.specs.ValueTests.{accepts}
use Rattle.clap.specs.Walk.{Row, Rule, Text, action_of, answers_to, arg_by_id, first_of, finished, has_short, nothing_held, one_of, reading_by, rows_after, settled, walk}
use Rattle.clap.specs.Takes.{is_given}
use Rattle.clap.specs.Simple.{App, HasMatchesOf, Shape, argument_words, built, built_leaf, entered, inherited, label_of, marked_built, names_of, rows_at, subcommand_of, subcommand_rows_of, with_leaf_noted}
use Rattle.clap.specs.Faults.{check_fault, defaults_fault, entered_fault, fault_of, level_fault, settle_fault, walk_fault}
use Rattle.clap.specs.declared.builder.action.ArgAction.{ArgAction}
use Rattle.clap.specs.declared.builder.action.ArgAction.TheVariants.{Set, SetTrue, Help}
use Rattle.clap.specs.declared.builder.range.ValueRange.{ValueRange}
use Rattle.clap.specs.declared.builder.value_parser.Reading.{Reading}
use Rattle.clap.specs.declared.builder.value_parser.Reading.TheVariants.{AsWritten}
use Rattle.clap.specs.declared.builder.value_parser.ValueParser.{ValueParser}
use Rattle.clap.specs.declared.error.Error.{Error}
use Rattle.clap.specs.declared.parser.matches.ArgMatches.{ArgMatches}
use Rattle.clap.specs.declared.builder.value_parser.ValueParser.TheVariants.{Unsigned}
use Rattle.clap.proofs.ValueTestLemmas.{accepts-Accepts}
use Rattle.mac_commands.specs.CommandLine.{command_line, listen_command, page_command, pipe_command, serve_command}
use Rattle.mac_commands.specs.People.{IsTaskName, attenuate_command, check_command, inspect_command, keygen_command, mint_command, revoke_command, status_command, verify_command}
use Rattle.mac_commands.specs.Options.{HasCommand, HasListenOptions, HasServeOptions, IsGiven, IsGivenNumberFrom, MayBeNumberFrom}
use Rattle.mac_commands.proofs.OptionWalk.{Each, HasValue, IsKnown, first_none, leaf_rows, no_value, one_value, second_none, value_given, value_or_none}

-- ---- the subcommands, built

abbrev pub pipe : Shape
pipe = built_leaf (inherited (with_leaf_noted (marked_built command_line.top)) pipe_command.top)

abbrev pub serve : Shape
serve = built_leaf (inherited (with_leaf_noted (marked_built command_line.top)) serve_command.top)

abbrev pub listen : Shape
listen = built_leaf (inherited (with_leaf_noted (marked_built command_line.top)) listen_command.top)

abbrev pub page : Shape
page = built_leaf (inherited (with_leaf_noted (marked_built command_line.top)) page_command.top)

-- what is looked at of an argument
abbrev Looks : Type 0
Looks = ArgAction × Option ValueRange × Option ℕ × List Text × Option ℕ × List ℕ × Reading × Option Rule × List Text

abbrev looks : List Rule → Rule → Looks
looks c a = (action_of a, a.range, a.index, a.defaults, a.short, a.short_aliases, reading_by a, arg_by_id c a.id, a.missing)

-- and how it should look: `--help` apart, it is a flag or takes one value, has no letter, and has the id to itself
abbrev due : ArgAction → List Rule → Rule → Looks
due Help c a = (Help, Some no_value, None, [], a.short, a.short_aliases, reading_by a, arg_by_id c a.id, a.missing)
due SetTrue c a = (SetTrue, Some no_value, None, codes "false" ∷ [], None, [], AsWritten, Some a, codes "true" ∷ [])
due _ c a = (Set, Some one_value, None, [], None, [], AsWritten, Some a, a.missing)

looks_known : (c : List Rule) (a : Rule) → looks c a ≡ due (action_of a) c a → IsKnown c a
looks_known c a same = go (action_of a) same
  where
    letters : a.short ≡ None → a.short_aliases ≡ [] → (x : ℕ) → has_short a x ≡ false
    letters none others x = ap₂ (λ (s : Option ℕ) (more : List ℕ). option_map_or (λ k. k == x) s false || list_any (λ k. k == x) more) none others

    flag : looks c a ≡ due SetTrue c a → IsKnown c a
    flag e =
        inr (inl (record {
          action = ap (λ (l : Looks). l.0) e;
          range = ap (λ (l : Looks). l.1) e;
          index = ap (λ (l : Looks). l.2) e;
          defaults = ap (λ (l : Looks). l.3) e;
          missing = ap (λ (l : Looks). l.8) e;
          short = letters (ap (λ (l : Looks). l.4) e) (ap (λ (l : Looks). l.5) e);
          reading = ap (λ (l : Looks). l.6) e;
          own = ap (λ (l : Looks). l.7) e;
        }))

    option : looks c a ≡ due Set c a → IsKnown c a
    option e =
        inl (record {
          action = ap (λ (l : Looks). l.0) e;
          range = ap (λ (l : Looks). l.1) e;
          index = ap (λ (l : Looks). l.2) e;
          defaults = ap (λ (l : Looks). l.3) e;
          short = letters (ap (λ (l : Looks). l.4) e) (ap (λ (l : Looks). l.5) e);
          reading = ap (λ (l : Looks). l.6) e;
          own = ap (λ (l : Looks). l.7) e;
        })

    go : (x : ArgAction) → looks c a ≡ due x c a → IsKnown c a
    go Help e =
        inr (inr (record {
          action = ap (λ (l : Looks). l.0) e;
          range = ap (λ (l : Looks). l.1) e;
          index = ap (λ (l : Looks). l.2) e;
          defaults = ap (λ (l : Looks). l.3) e;
        }))
    go SetTrue e = flag e
    go _ e = option e

-- arguments that look so are known
all_known : (c xs : List Rule) → map (looks c) xs ≡ map (λ a. due (action_of a) c a) xs → Each (IsKnown c) xs
all_known c [] same = tt
all_known c (a ∷ rest) same =
    let first : looks c a ≡ due (action_of a) c a = cc in
    let others : map (looks c) rest ≡ map (λ b. due (action_of b) c b) rest = cc in
    (looks_known c a first, all_known c rest others)

-- ---- one option

pub neither : (a b : Bool) → (a || b) ≡ false → (a ≡ false) × (b ≡ false)
neither false b e = (refl, e)
neither true b e = cc

wanted : (b : Bool) → not b ≡ false → b ≡ true
wanted true e = refl
wanted false e = cc

text_of : (c : List Rule) (id : Text) (rows : List Row) → HasValue c id rows → IsGiven id rows
text_of c id rows v = (v.2, (v.3, v.4))

number_of : (c : List Rule) (id : Text) (rows : List Row) (least most : ℕ) (b : Rule) → arg_by_id c id ≡ Some b → b.parser ≡ Some (Unsigned least most) → HasValue c id rows
    → IsGivenNumberFrom least most id rows
number_of c id rows least most b own parser (a, found, v, first, one, passes) =
    let same : a ≡ b = cc in
    let reads : parser_of_value a.parser ≡ Unsigned least most = ap (λ (r : Rule). parser_of_value r.parser) same ∙ ap parser_of_value parser in
    (v, (first, one), accepts-Accepts a.ignore_case (Unsigned least most) v (subst (λ (p : ValueParser). accepts a.ignore_case p v ≡ true) reads passes))

maybe_number : (c : List Rule) (id : Text) (rows : List Row) (least most : ℕ) (b : Rule) → arg_by_id c id ≡ Some b → b.parser ≡ Some (Unsigned least most)
    → ((first_of id rows ≡ None) × (one_of id rows ≡ None) × (is_given id rows ≡ false)) ⊎ HasValue c id rows → MayBeNumberFrom least most id rows
maybe_number c id rows least most b own parser (inl none) = inl (none.0, none.1)
maybe_number c id rows least most b own parser (inr v) = inr (number_of c id rows least most b own parser v)

-- ---- the options of a subcommand

pub serve_options : (words : List Text) → level_fault serve [] nothing_held words false [] ≡ [] → HasServeOptions (rows_after serve.rules [] words)
serve_options words e =
    let c = serve.rules in
    let rows = rows_after c [] words in
    let found = leaf_rows c serve words (all_known c c refl) e in
    let socket = neither (not (is_given (codes "socket") rows)) _ found.1 in
    let keys = neither (not (is_given (codes "keys") rows)) _ socket.1 in
    let workers = neither (not (is_given (codes "workers") rows)) _ keys.1 in
    let accept = neither (not (is_given (codes "accept") rows)) _ workers.1 in (
      text_of c (codes "socket") rows (value_given c (codes "socket") rows found.0 (wanted _ socket.0)),
      text_of c (codes "keys") rows (value_given c (codes "keys") rows found.0 (wanted _ keys.0)),
      number_of c (codes "workers") rows 1 16 _ refl refl (value_given c (codes "workers") rows found.0 (wanted _ workers.0)),
      number_of c (codes "accept") rows 1 1000 _ refl refl (value_given c (codes "accept") rows found.0 (wanted _ accept.0)),
    )

pub listen_options : (words : List Text) → level_fault listen [] nothing_held words false [] ≡ [] → HasListenOptions (rows_after listen.rules [] words)
listen_options words e =
    let c = listen.rules in
    let rows = rows_after c [] words in
    let found = leaf_rows c listen words (all_known c c refl) e in
    let socket = neither (not (is_given (codes "socket") rows)) _ found.1 in
    let keys = neither (not (is_given (codes "keys") rows)) _ socket.1 in
    record {
      socket = text_of c (codes "socket") rows (value_given c (codes "socket") rows found.0 (wanted _ socket.0));
      keys = text_of c (codes "keys") rows (value_given c (codes "keys") rows found.0 (wanted _ keys.0));
      workers = maybe_number c (codes "workers") rows 1 16 _ refl refl (value_or_none c (codes "workers") rows found.0);
      idle = maybe_number c (codes "idle") rows 1 86400 _ refl refl (value_or_none c (codes "idle") rows found.0);
      loops = maybe_number c (codes "loops") rows 1 64 _ refl refl (value_or_none c (codes "loops") rows found.0);
      connections = maybe_number c (codes "connections") rows 1 1000000 _ refl refl (value_or_none c (codes "connections") rows found.0);
      verify_connections = maybe_number c (codes "verify-connections") rows 1 1000000 _ refl refl (value_or_none c (codes "verify-connections") rows found.0);
      drain = maybe_number c (codes "drain") rows 1 3600 _ refl refl (value_or_none c (codes "drain") rows found.0);
      remember = maybe_number c (codes "remember") rows 0 1073741824 _ refl refl (value_or_none c (codes "remember") rows found.0);
      memory = maybe_number c (codes "memory") rows 67108864 1099511627776 _ refl refl (value_or_none c (codes "memory") rows found.0);
      http = (
        maybe_number c (codes "http-connections") rows 1 1024 _ refl refl (value_or_none c (codes "http-connections") rows found.0),
        maybe_number c (codes "http-patience") rows 1 3600 _ refl refl (value_or_none c (codes "http-patience") rows found.0),
      );
    }

-- ---- the whole line

-- a subcommand for people, built
abbrev built_sub : App → Shape
built_sub sub = built_leaf (inherited (with_leaf_noted (marked_built command_line.top)) sub.top)

abbrev people : List Shape
people = built_sub keygen_command ∷ built_sub check_command ∷ built_sub mint_command ∷ built_sub attenuate_command ∷ built_sub verify_command ∷ built_sub inspect_command ∷ built_sub status_command ∷ built_sub revoke_command ∷ []

abbrev IsPeoples : Option Shape → Type 0
IsPeoples o = (s : Shape) × (o ≡ Some s) × IsTaskName s.name

one_of_people : (t : Shape → Bool) → (find t people ≡ None) ⊎ IsPeoples (find t people)
one_of_people t =
    go (t (built_sub keygen_command)) (t (built_sub check_command)) (t (built_sub mint_command)) (t (built_sub attenuate_command)) (t (built_sub verify_command)) (t (built_sub inspect_command)) (t (built_sub status_command)) (t (built_sub revoke_command))
  where
    found : Bool → Bool → Bool → Bool → Bool → Bool → Bool → Bool → Option Shape
    found a b c d e f g h =
        cond a (Some (built_sub keygen_command)) (cond b (Some (built_sub check_command)) (cond c (Some (built_sub mint_command)) (cond d (Some (built_sub attenuate_command)) (cond e (Some (built_sub verify_command)) (cond f (Some (built_sub inspect_command)) (cond g (Some (built_sub status_command)) (cond h (Some (built_sub revoke_command)) None)))))))

    go : (a b c d e f g h : Bool) → (found a b c d e f g h ≡ None) ⊎ IsPeoples (found a b c d e f g h)
    go true b c d e f g h = inr (built_sub keygen_command, refl, inl refl)
    go false true c d e f g h = inr (built_sub check_command, refl, inr (inl refl))
    go false false true d e f g h = inr (built_sub mint_command, refl, inr (inr (inl refl)))
    go false false false true e f g h = inr (built_sub attenuate_command, refl, inr (inr (inr (inl refl))))
    go false false false false true f g h = inr (built_sub verify_command, refl, inr (inr (inr (inr (inl refl)))))
    go false false false false false true g h = inr (built_sub inspect_command, refl, inr (inr (inr (inr (inr (inl refl))))))
    go false false false false false false true h = inr (built_sub status_command, refl, inr (inr (inr (inr (inr (inr (inl refl)))))))
    go false false false false false false false true = inr (built_sub revoke_command, refl, inr (inr (inr (inr (inr (inr (inr refl)))))))
    go false false false false false false false false = inl refl

-- the subcommand that a word names
abbrev IsOne : Option Shape → Type 0
IsOne o = (o ≡ None) ⊎ ((o ≡ Some pipe) ⊎ ((o ≡ Some serve) ⊎ ((o ≡ Some listen) ⊎ ((o ≡ Some page) ⊎ IsPeoples o))))

one_of_all : (t : Shape → Bool) → IsOne (find t (pipe ∷ serve ∷ listen ∷ page ∷ people))
one_of_all t = go (t pipe) (t serve) (t listen) (t page)
  where
    none_or_peoples : (o : Option Shape) → (o ≡ None) ⊎ IsPeoples o → IsOne o
    none_or_peoples o (inl none) = inl none
    none_or_peoples o (inr found) = inr (inr (inr (inr (inr found))))

    go : (a b c d : Bool) → IsOne (cond a (Some pipe) (cond b (Some serve) (cond c (Some listen) (cond d (Some page) (find t people)))))
    go true b c d = inr (inl refl)
    go false true c d = inr (inr (inl refl))
    go false false true d = inr (inr (inr (inl refl)))
    go false false false true = inr (inr (inr (inr (inl refl))))
    go false false false false = none_or_peoples (find t people) (one_of_people t)

-- what comes of a level of a subcommand, and of the last check of the level above it
abbrev Passes : Kinds → Kinds → List Row → List Text → Option Shape → Type 0
Passes x y rows words o = or_else (option_map_or (λ s. level_fault s [] nothing_held words false []) o [])
    (or_else x (or_else y (check_fault (built command_line).top rows (is_some (option_map (λ s. rows_at s words) o))))) ≡ []

no_subcommand : (x y : Kinds) (rows : List Row) → or_else x (or_else y (check_fault (built command_line).top rows false)) ≡ [] → ⊥
no_subcommand x y rows e =
    let last = second_none y _ (second_none x _ e) in
    cc

entered_passes : (x y : Kinds) (rows : List Row) (words : List Text) (o : Option Shape) → IsOne o → Passes x y rows words o
    → HasCommand (option_map (λ s. rows_at s words) o)
entered_passes x y rows words o (inl none) e = absurd (no_subcommand x y rows (subst (Passes x y rows words) none e))
entered_passes x y rows words o (inr (inl is)) e = subst (λ p. HasCommand (option_map (λ s. rows_at s words) p)) (sym is) (codes "pipe", rows_after pipe.rules [] words, refl, inl (inl refl))
entered_passes x y rows words o (inr (inr (inl is))) e =
    let options = serve_options words (first_none _ _ (subst (Passes x y rows words) is e)) in
    subst (λ p. HasCommand (option_map (λ s. rows_at s words) p)) (sym is) (codes "serve", rows_after serve.rules [] words, refl, inl (inr (inl (refl, options))))
entered_passes x y rows words o (inr (inr (inr (inl is)))) e =
    let options = listen_options words (first_none _ _ (subst (Passes x y rows words) is e)) in
    subst (λ p. HasCommand (option_map (λ s. rows_at s words) p)) (sym is) (codes "listen", rows_after listen.rules [] words, refl, inl (inr (inr (inl (refl, options)))))
entered_passes x y rows words o (inr (inr (inr (inr (inl is))))) e = subst (λ p. HasCommand (option_map (λ s. rows_at s words) p)) (sym is) (codes "page", rows_after page.rules [] words, refl, inl (inr (inr (inr refl))))
entered_passes x y rows words o (inr (inr (inr (inr (inr (s, is, named)))))) e = subst (λ p. HasCommand (option_map (λ s. rows_at s words) p)) (sym is) (s.name, rows_after s.rules [] words, refl, inr named)

pub line_passes : (words : List Text) → fault_of command_line words ≡ [] → HasCommand (subcommand_of command_line words)
line_passes words e =
    let a = built command_line in
    let w = walk a.top.rules (names_of a) nothing_held (argument_words command_line words) in
    go (settle_fault a.top.rules false w.held) (defaults_fault (settled a.top.rules w.held).rows a.top.rules) (finished a.top.rules w.held) w.stopped
    (second_none (walk_fault a.top (names_of a) _ (argument_words command_line words)) _ e)
  where
    go : (x y : Kinds) (rows : List Row) (stop : Option (Text × List Text))
        → or_else (entered_fault (built command_line) stop) (or_else x (or_else y (check_fault (built command_line).top rows (is_some (entered (built command_line) stop))))) ≡ []
        → HasCommand (entered (built command_line) stop)
    go x y rows None none = absurd (no_subcommand x y rows none)
    go x y rows (Some p) none =
        entered_passes x y rows p.1 (find (λ s. answers_to p.0 (label_of s)) (built command_line).subs) (one_of_all (λ s. answers_to p.0 (label_of s))) none

-- what a parse found
pub command_found : (words : List Text) (r : Result ArgMatches Error) → FailsBy (fault_of command_line words) r → IfOk r (HasMatchesOf command_line words)
    → IfOk r (λ matches. HasCommand (subcommand_rows_of matches))
command_found words (Ok matches) none has = subst HasCommand (sym (has refl).1) (line_passes words none)
command_found words (Err error) fault has = tt
