-- What a change of keys makes of the lines of a file and of its table.
use Rattle.std.proofs.Common.{◌≡◌, ◌⊎◌, inl, inr, ℕ, ◌≤◌, true, false, cond, List, [], ◌∷◌, ◌++◌, length, take, drop, Option, Some, None, Result, Ok, Err, refl, sym, ap, subst, ◌∙◌, arith, append_assoc}
use Rattle.std.proofs.lemmas.Bool.{false≢true}
use Rattle.std.proofs.lemmas.List.{append-nil, take-append-drop}
use Rattle.std.proofs.lemmas.List.Elements.{filter_map-append}
use Rattle.std.proofs.lemmas.List.Splits.{slice_split_at, slice_split_none}
use Rattle.std.proofs.lemmas.Slice.Eq.{bytes_eq-Decides}
use Rattle.std.specs.Option.{is_some, option_map_or}
use Rattle.std.specs.List.{Any, cons_option, count_by}
use Rattle.std.specs.Str.{bytes_eq}
use Rattle.std.specs.FinMap as map
use Rattle.mac_hmac.specs.Chain.{root_of}
use Rattle.mac_keys.specs.declared.fault.KeyFault.{KeyFault}
use Rattle.mac_keys.specs.declared.fault.LineFault.{LineFault}
use Rattle.mac_keys.specs.declared.keys.Keys.{Keys}
use Rattle.mac_keys.specs.Change.{AddsKey, AddsLower, DropsFirst, DropsKey, HasKeys, HasOne, HasTwo, IsKeyLine, IsLine, IsLower, PutsAbove, SwapsKeys, TakesLower}
use Rattle.mac_keys.specs.Found.{IsFound, is_line_of}
use Rattle.mac_keys.specs.Line.{Given, line_of}
use Rattle.mac_keys.specs.Meaning.{GivesName}
use Rattle.mac_keys.specs.Table.{NamedKeys, fault_below, fault_of_keys, first_two, is_line_feed, key_said, keys_given, keys_of, lines_of, listed, table_of}
use Rattle.mac_keys.specs.Taken.{keys_with, table_with}
use Rattle.mac_keys.proofs.Above.{any_named, has_named}
use Rattle.mac_keys.proofs.Bounded.{keys_at-faultless}
use Rattle.mac_keys.proofs.FileMeaning.{faultless_made}
use Rattle.mac_keys.proofs.KeyMeaning.{get-keys_of, has}
use Rattle.mac_keys.proofs.Spelling.{Spells-from_line}
use Rattle.mac_keys.proofs.LineByLine.{Reads, count_keys, get_inserted, last_insert, made_by_reads, named_key, reads_apart, reads_joined, reads_of_table, reads_with, same_insert, table_of_reads}

-- ---- the keys of a name, in the lines above a line, at it and below it

-- the line gives the name this key
pub record Gives (name key line : List ℕ) : Type 0 where
  pub secret : List ℕ
  pub said : line_of line ≡ Ok (Some (record { name = name; secret = secret }))
  pub derived : root_of secret ≡ key

gives_said : (name key line : List ℕ) (said : Result (Option Given) LineFault) → line_of line ≡ said → key_said name said ≡ Some key → Gives name key line
gives_said name key line (Ok None) is e = cc
gives_said name key line (Err fault) is e = cc
gives_said name key line (Ok (Some g)) is e =
    elim (bytes_eq g.name name) as (λ b. bytes_eq g.name name ≡ b → cond b (Some (root_of g.secret)) None ≡ Some key → Gives name key line) [
      | true ↦ λ same found. record {
        secret = g.secret;
        said = is ∙ ap (λ n. Ok (Some (record { name = n; secret = g.secret }))) ((bytes_eq-Decides g.name name).0 same);
        derived = cc;
      }
      | false ↦ λ apart found. cc
    ] refl e

-- the keys that a table has at a name are those of its lines
keys_there : (lines : List (List ℕ)) (table : NamedKeys) (name : List ℕ) (keys : Keys) → Reads (keys_of []) lines table → map.get table name ≡ Some keys → keys_given name lines ≡ listed keys
keys_there lines table name keys reads there =
    sym (keys_at-faultless lines table name (faultless_made lines table (table_of_reads lines table reads)))
    ∙ ap (λ found. option_map_or listed found []) there

keys_apart : (name : List ℕ) (above : List (List ℕ)) (old : List ℕ) (below : List (List ℕ))
    → keys_given name (above ++ old ∷ below) ≡ keys_given name above ++ cons_option (key_said name (line_of old)) (keys_given name below)
keys_apart name above old below = filter_map-append (λ l. key_said name (line_of l)) above (old ∷ below)

none_above : (keys : List (List ℕ)) → length keys ≡ 0 → keys ≡ []
none_above [] e = refl
none_above (key ∷ keys) e = absurd (omega arith)

one_above : (keys : List (List ℕ)) → length keys ≡ 1 → (key : List ℕ) × (keys ≡ key ∷ [])
one_above [] e = absurd (omega arith)
one_above (key ∷ []) e = (key, refl)
one_above (key ∷ other ∷ keys) e = absurd (omega arith)

only_key : (said : Option (List ℕ)) (keys : List (List ℕ)) (key : List ℕ) → is_some said ≡ true → cons_option said keys ≡ key ∷ [] → (said ≡ Some key) × (keys ≡ [])
only_key None keys key some e = absurd (false≢true some)
only_key (Some found) keys key some e = (let same : found ≡ key = cc in ap Some same, cc)

-- what is read above a line that has the name, at it and below it
pub record Meets (name key : List ℕ) (above : List (List ℕ)) (old : List ℕ) (below : List (List ℕ)) (table : NamedKeys) : Type 0 where
  pub first : Reads (keys_of []) above (keys_of above)
  pub none : fault_below (keys_of above) (line_of old) ≡ None
  pub gives : Gives name key old
  pub rest : Reads (table_with (keys_of above) (line_of old)) below table
  pub others : keys_given name below ≡ []

meets : (name key : List ℕ) (above : List (List ℕ)) (old : List ℕ) (below : List (List ℕ)) (table : NamedKeys) → Reads (keys_of []) (above ++ old ∷ below) table → is_line_of name old ≡ true
    → cons_option (key_said name (line_of old)) (keys_given name below) ≡ key ∷ [] → Meets name key above old below table
meets name key above old below table reads named given =
    let (between, first, (here, rest)) = reads_apart above (old ∷ below) (keys_of []) table reads in
    let made : between ≡ keys_of above = made_by_reads above between first in
    let none : fault_below (keys_of above) (line_of old) ≡ None = ap (λ t. fault_below t (line_of old)) (sym made) ∙ here in
    let some = sym (named_key name old (keys_of above) (line_of old) refl none) ∙ named in
    let (said, others) = only_key (key_said name (line_of old)) (keys_given name below) key some given in
    record {
      first = subst (λ (t : NamedKeys). Reads (keys_of []) above t) made first;
      none = none;
      gives = gives_said name key old (line_of old) refl said;
      rest = subst (λ (t : NamedKeys). Reads (table_with t (line_of old)) below table) made rest;
      others = others;
    }

-- what a line that gives the name a key makes of a table
with_line : (name key line : List ℕ) (table : NamedKeys) (found : Option Keys) → Gives name key line → map.get table name ≡ found
    → table_with table (line_of line) ≡ map.insert table name (keys_with found key)
with_line name key line table found gives there =
    ap (table_with table) gives.said
    ∙ ap (λ f. map.insert table name (keys_with f (root_of gives.secret))) there
    ∙ ap (λ k. map.insert table name (keys_with found k)) gives.derived

abbrev one : List ℕ → Keys
one first = record { first = first; second = None }

abbrev two : List ℕ → List ℕ → Keys
two first second = record { first = first; second = Some second }

-- the lines with one more, above the only one of the name
add_reads : (name key first line : List ℕ) (above : List (List ℕ)) (old : List ℕ) (below : List (List ℕ)) (table : NamedKeys) → Reads (keys_of []) (above ++ old ∷ below) table
    → count_by (is_line_of name) above ≡ 0 → is_line_of name old ≡ true → map.get table name ≡ Some (one first) → Gives name key line
    → Reads (keys_of []) (above ++ line ∷ old ∷ below) (map.insert table name (two key first))
add_reads name key first line above old below table reads none_named named there gives =
    let before = keys_of above in
    let (between, front, _) = reads_apart above (old ∷ below) (keys_of []) table reads in
    let no_keys : keys_given name above ≡ [] = none_above (keys_given name above) (sym (count_keys name above (keys_of []) between front) ∙ none_named) in
    let given = ap (λ ks. ks ++ cons_option (key_said name (line_of old)) (keys_given name below)) (sym no_keys)
    ∙ sym (keys_apart name above old below) ∙ keys_there (above ++ old ∷ below) table name (one first) reads there in
    let met = meets name first above old below table reads named given in
    let new : map.get before name ≡ None = get-keys_of above name ∙ ap first_two no_keys in
    let old_alone : table_with before (line_of old) ≡ map.insert before name (one first) = with_line name first old before None met.gives new in
    let line_alone : table_with before (line_of line) ≡ map.insert before name (one key) = with_line name key line before None gives new in
    let there_now : map.get (table_with before (line_of line)) name ≡ Some (one key) = ap (λ t. map.get t name) line_alone ∙ get_inserted before name (one key) in
    let both : table_with (table_with before (line_of line)) (line_of old) ≡ map.insert before name (two key first) =
    with_line name first old (table_with before (line_of line)) (Some (one key)) met.gives there_now
    ∙ ap (λ t. map.insert t name (two key first)) line_alone ∙ last_insert before name (one key) (two key first) in
    let known : is_some (map.get (table_with before (line_of old)) name) ≡ true = ap (λ t. is_some (map.get t name)) old_alone ∙ ap is_some (get_inserted before name (one first)) in
    let over : map.insert (table_with before (line_of old)) name (two key first) ≡ table_with (table_with before (line_of line)) (line_of old) =
    ap (λ t. map.insert t name (two key first)) old_alone ∙ last_insert before name (one first) (two key first) ∙ sym both in
    let room : fault_below before (line_of line) ≡ None = ap (fault_below before) gives.said ∙ sym (ap (fault_below before) met.gives.said) ∙ met.none in
    let fits : fault_below (table_with before (line_of line)) (line_of old) ≡ None =
    ap (fault_below (table_with before (line_of line))) met.gives.said ∙ one_has_room (map.len (table_with before (line_of line))) (map.get (table_with before (line_of line)) name) there_now in
    let rest = subst (λ (t : NamedKeys). Reads t below (map.insert table name (two key first))) over
    (reads_with name (two key first) below (table_with before (line_of old)) table known met.others met.rest) in
    reads_joined above (line ∷ old ∷ below) (keys_of []) before (map.insert table name (two key first)) met.first (room, (fits, rest))
  where
    one_has_room : (names : ℕ) (found : Option Keys) → found ≡ Some (one key) → fault_of_keys names found ≡ None
    one_has_room names found is = ap (fault_of_keys names) is

-- the lines without the second of the name
drop_reads : (name first second : List ℕ) (above : List (List ℕ)) (old : List ℕ) (below : List (List ℕ)) (table : NamedKeys) → Reads (keys_of []) (above ++ old ∷ below) table
    → count_by (is_line_of name) above ≡ 1 → is_line_of name old ≡ true → map.get table name ≡ Some (two first second)
    → (Reads (keys_of []) above (keys_of above)) × Reads (keys_of above) below (map.insert table name (one first))
drop_reads name first second above old below table reads one_named named there =
    let before = keys_of above in
    let (between, front, _) = reads_apart above (old ∷ below) (keys_of []) table reads in
    let (key, has_key) = one_above (keys_given name above) (sym (count_keys name above (keys_of []) between front) ∙ one_named) in
    let whole : key ∷ cons_option (key_said name (line_of old)) (keys_given name below) ≡ first ∷ second ∷ [] =
    ap (λ ks. ks ++ cons_option (key_said name (line_of old)) (keys_given name below)) (sym has_key)
    ∙ sym (keys_apart name above old below) ∙ keys_there (above ++ old ∷ below) table name (two first second) reads there in
    let same : key ≡ first = cc in
    let given : cons_option (key_said name (line_of old)) (keys_given name below) ≡ second ∷ [] = cc in
    let met = meets name second above old below table reads named given in
    let had : map.get before name ≡ Some (one first) = get-keys_of above name ∙ ap first_two (has_key ∙ ap (λ k. k ∷ []) same) in
    let with_both : table_with before (line_of old) ≡ map.insert before name (two first second) = with_line name second old before (Some (one first)) met.gives had in
    let known : is_some (map.get (table_with before (line_of old)) name) ≡ true = ap (λ t. is_some (map.get t name)) with_both ∙ ap is_some (get_inserted before name (two first second)) in
    let back : map.insert (table_with before (line_of old)) name (one first) ≡ before =
    ap (λ t. map.insert t name (one first)) with_both ∙ last_insert before name (two first second) (one first) ∙ same_insert before name (one first) had in (
      met.first,
      subst (λ (t : NamedKeys). Reads t below (map.insert table name (one first))) back
          (reads_with name (one first) below (table_with before (line_of old)) table known met.others met.rest),
    )

-- ---- a line that was found

-- the lines from it on, and those behind it
pub record Around (name text : List ℕ) (above start end : ℕ) (found : IsFound name text above start end) : Type 0 where
  pub below : List (List ℕ)
  pub here : lines_of (drop start text) ≡ found.line ∷ below
  pub behind : (below ≡ lines_of (drop end text)) ⊎ ((below ≡ []) × (drop end text ≡ []))
  pub all : lines_of text ≡ found.lines ++ found.line ∷ below

all_lines : (name text : List ℕ) (above start end : ℕ) (found : IsFound name text above start end) (below : List (List ℕ)) → lines_of (drop start text) ≡ found.line ∷ below
    → lines_of text ≡ found.lines ++ found.line ∷ below
all_lines name text above start end found below here =
    ap lines_of (sym (take-append-drop start text)) ∙ found.whole (drop start text) ∙ ap (λ ls. found.lines ++ ls) here

around_by : (name text : List ℕ) (above start end : ℕ) (found : IsFound name text above start end)
    → ((drop start text ≡ found.line ++ 10 ∷ drop end text) ⊎ ((drop start text ≡ found.line) × (drop end text ≡ []))) → Around name text above start end found
around_by name text above start end found (inl ended) =
    let here = ap lines_of ended ∙ slice_split_at is_line_feed found.line 10 (drop end text) found.unbroken refl in
    record {
      below = lines_of (drop end text);
      here = here;
      behind = inl refl;
      all = all_lines name text above start end found (lines_of (drop end text)) here;
    }
around_by name text above start end found (inr (ended, last)) =
    let here = ap lines_of ended ∙ slice_split_none is_line_feed found.line found.unbroken in
    record {
      below = [];
      here = here;
      behind = inr (refl, last);
      all = all_lines name text above start end found [] here;
    }

around : (name text : List ℕ) (above start end : ℕ) (found : IsFound name text above start end) → Around name text above start end found
around name text above start end found = around_by name text above start end found found.ended

-- what is read of a text, in lines
reads_text : (text : List ℕ) (lines : List (List ℕ)) (table : NamedKeys) → lines_of text ≡ lines → table_of text ≡ Ok table → Reads (keys_of []) lines table
reads_text text lines table same made = subst (λ (ls : List (List ℕ)). Reads (keys_of []) ls table) same (reads_of_table (lines_of text) table made)

table_text : (text : List ℕ) (lines : List (List ℕ)) (table : NamedKeys) → lines_of text ≡ lines → Reads (keys_of []) lines table → table_of text ≡ Ok table
table_text text lines table same reads = table_of_reads (lines_of text) table (subst (λ (ls : List (List ℕ)). Reads (keys_of []) ls table) (sym same) reads)

lines_counted : (text name : List ℕ) (table : NamedKeys) (keys : Keys) → table_of text ≡ Ok table → map.get table name ≡ Some keys → count_by (is_line_of name) (lines_of text) ≡ length (listed keys)
lines_counted text name table keys made there =
    let reads = reads_of_table (lines_of text) table made in
    count_keys name (lines_of text) (keys_of []) table reads ∙ ap length (keys_there (lines_of text) table name keys reads there)

pub one_found : (text name : List ℕ) → HasOne text name → count_by (is_line_of name) (lines_of text) ≤ 0 → ⊥
one_found text name (first, (table, made, there)) none = let counted = lines_counted text name table (one first) made there in absurd (omega arith)

pub two_found : (text name : List ℕ) → HasTwo text name → count_by (is_line_of name) (lines_of text) ≤ 1 → ⊥
two_found text name (first, second, (table, made, there)) few = let counted = lines_counted text name table (two first second) made there in absurd (omega arith)

-- ---- names

gives_name : (name key line : List ℕ) → Gives name key line → GivesName name line
gives_name name key line gives = (gives.secret, Spells-from_line line _ gives.said)

no_name : (name : List ℕ) (lines : List (List ℕ)) (after : NamedKeys) → Reads (keys_of []) lines after → count_by (is_line_of name) lines ≡ 0 → ¬ Any (GivesName name) lines
no_name name lines after reads none = λ any.
    false≢true (ap has (sym (none_above (keys_given name lines) (sym (count_keys name lines (keys_of []) after reads) ∙ none))) ∙ has_named name lines any)

some_name : (name : List ℕ) (lines : List (List ℕ)) (after : NamedKeys) → Reads (keys_of []) lines after → count_by (is_line_of name) lines ≡ 1 → Any (GivesName name) lines
some_name name lines after reads counted =
    let (key, is) = one_above (keys_given name lines) (sym (count_keys name lines (keys_of []) after reads) ∙ counted) in
    any_named name lines (ap has is)

-- a line with the name, in a text without a fault, gives the name a key
named_gives : (name : List ℕ) (above : List (List ℕ)) (old : List ℕ) (below : List (List ℕ)) (table : NamedKeys) → Reads (keys_of []) (above ++ old ∷ below) table → is_line_of name old ≡ true → GivesName name old
named_gives name above old below table reads named =
    let (between, first, (none, rest)) = reads_apart above (old ∷ below) (keys_of []) table reads in
    go (key_said name (line_of old)) refl (sym (named_key name old between (line_of old) refl none) ∙ named)
  where
    go : (said : Option (List ℕ)) → key_said name (line_of old) ≡ said → is_some said ≡ true → GivesName name old
    go None is some = absurd (false≢true some)
    go (Some key) is some = gives_name name key old (gives_said name key old (line_of old) refl is)

-- ---- a line put above

pub puts_above : (name line text changed : List ℕ) (start end : ℕ) → HasOne text name → IsFound name text 0 start end → changed ≡ take start text ++ line ++ drop start text
    → PutsAbove name line text changed
puts_above name line text changed start end (first, (table, made, there)) found new =
    let a = around name text 0 start end found in
    let reads = reads_text text (found.lines ++ found.line ∷ a.below) table a.all made in
    let (between, above, _) = reads_apart found.lines (found.line ∷ a.below) (keys_of []) table reads in
    record {
      above = take start text;
      below = drop start text;
      old = sym (take-append-drop start text);
      new = new;
      lines = found.lines;
      whole = found.whole;
      others = no_name name found.lines between above found.count;
      upper = (found.line, a.below, a.here, named_gives name found.lines found.line a.below table reads found.named);
    }

pub adds_key : (name line text changed : List ℕ) (start end : ℕ) → HasOne text name → IsFound name text 0 start end → changed ≡ take start text ++ line ++ drop start text
    → (secret : List ℕ) → IsKeyLine name secret line → AddsKey name (root_of secret) text changed
adds_key name line text changed start end (first, (table, made, there)) found new secret is_key =
    let a = around name text 0 start end found in
    let reads = reads_text text (found.lines ++ found.line ∷ a.below) table a.all made in
    let lines : lines_of changed ≡ found.lines ++ is_key.line ∷ found.line ∷ a.below =
    ap lines_of (new ∙ append_assoc (take start text) line (drop start text))
    ∙ found.whole (line ++ drop start text)
    ∙ ap (λ ls. found.lines ++ ls) (is_key.alone (drop start text) ∙ ap (λ ls. is_key.line ∷ ls) a.here) in
    let gives : Gives name (root_of secret) is_key.line = record { secret = secret; said = is_key.said; derived = refl } in
    record {
      table = table;
      first = first;
      old = made;
      had = there;
      new = table_text changed (found.lines ++ is_key.line ∷ found.line ∷ a.below) (map.insert table name (two (root_of secret) first)) lines
          (add_reads name (root_of secret) first is_key.line found.lines found.line a.below table reads found.count found.named there gives);
    }

-- ---- a line taken out

gone_by : (name text : List ℕ) (above start end : ℕ) (found : IsFound name text above start end)
    → ((drop start text ≡ found.line ++ 10 ∷ drop end text) ⊎ ((drop start text ≡ found.line) × (drop end text ≡ [])))
    → (gone : List ℕ) × (text ≡ take start text ++ gone ++ drop end text) × IsLine found.line gone (drop end text)
gone_by name text above start end found (inl ended) = (
  found.line ++ 10 ∷ [],
  sym (take-append-drop start text) ∙ ap (λ r. take start text ++ r) ended
      ∙ sym (append_assoc (take start text) (found.line ++ 10 ∷ []) (drop end text) ∙ ap (λ r. take start text ++ r) (append_assoc found.line (10 ∷ []) (drop end text))),
  inl refl,
)
gone_by name text above start end found (inr (ended, last)) = (
  found.line,
  sym (take-append-drop start text) ∙ ap (λ r. take start text ++ r) ended ∙ sym (ap (λ r. take start text ++ found.line ++ r) last ∙ append-nil (take start text ++ found.line)),
  inr (refl, last),
)

pub takes_lower : (name text changed : List ℕ) (start end : ℕ) → HasTwo text name → IsFound name text 1 start end → changed ≡ take start text ++ [] ++ drop end text → TakesLower name text changed
takes_lower name text changed start end (first, second, (table, made, there)) found new =
    let a = around name text 1 start end found in
    let reads = reads_text text (found.lines ++ found.line ∷ a.below) table a.all made in
    let (between, above, _) = reads_apart found.lines (found.line ∷ a.below) (keys_of []) table reads in
    let (gone, old, is_line) = gone_by name text 1 start end found found.ended in
    record {
      above = take start text;
      gone = gone;
      below = drop end text;
      old = old;
      new = new ∙ ap (λ front. front ++ drop end text) (append-nil (take start text));
      lines = found.lines;
      whole = found.whole;
      upper = some_name name found.lines between above found.count;
      lower = (found.line, is_line, named_gives name found.lines found.line a.below table reads found.named);
    }

without_line : (before after : NamedKeys) (below : List (List ℕ)) (behind : List ℕ) → ((below ≡ lines_of behind) ⊎ ((below ≡ []) × (behind ≡ []))) → Reads before below after → Reads before (lines_of behind) after
without_line before after below behind (inl same) reads = subst (λ (ls : List (List ℕ)). Reads before ls after) same reads
without_line before after below behind (inr (none, last)) reads =
    subst (λ (b : List ℕ). Reads before (lines_of b) after) (sym last) (refl, subst (λ (ls : List (List ℕ)). Reads before ls after) none reads)

pub drops_key : (name text changed : List ℕ) (start end : ℕ) → HasTwo text name → IsFound name text 1 start end → changed ≡ take start text ++ [] ++ drop end text → DropsKey name text changed
drops_key name text changed start end (first, second, (table, made, there)) found new =
    let a = around name text 1 start end found in
    let reads = reads_text text (found.lines ++ found.line ∷ a.below) table a.all made in
    let (front, rest) = drop_reads name first second found.lines found.line a.below table reads found.count found.named there in
    let lines : lines_of changed ≡ found.lines ++ lines_of (drop end text) =
    ap lines_of (new ∙ ap (λ above. above ++ drop end text) (append-nil (take start text))) ∙ found.whole (drop end text) in
    let after = map.insert table name (one first) in
    record {
      table = table;
      first = first;
      second = second;
      old = made;
      had = there;
      new = table_text changed (found.lines ++ lines_of (drop end text)) after lines
          (reads_joined found.lines (lines_of (drop end text)) (keys_of []) (keys_of found.lines) after front
          (without_line (keys_of found.lines) after a.below (drop end text) a.behind rest));
    }

-- ---- the second line of a name

-- the second line of a name gives it its second key
second_gives : (name first second : List ℕ) (above : List (List ℕ)) (old : List ℕ) (below : List (List ℕ)) (table : NamedKeys) → Reads (keys_of []) (above ++ old ∷ below) table
    → count_by (is_line_of name) above ≡ 1 → is_line_of name old ≡ true → map.get table name ≡ Some (two first second) → Gives name second old
second_gives name first second above old below table reads one_named named there =
    let (between, front, _) = reads_apart above (old ∷ below) (keys_of []) table reads in
    let (key, has_key) = one_above (keys_given name above) (sym (count_keys name above (keys_of []) between front) ∙ one_named) in
    let whole : key ∷ cons_option (key_said name (line_of old)) (keys_given name below) ≡ first ∷ second ∷ [] =
    ap (λ ks. ks ++ cons_option (key_said name (line_of old)) (keys_given name below)) (sym has_key)
    ∙ sym (keys_apart name above old below) ∙ keys_there (above ++ old ∷ below) table name (two first second) reads there in
    let given : cons_option (key_said name (line_of old)) (keys_given name below) ≡ second ∷ [] = cc in
    let met = meets name second above old below table reads named given in
    met.gives

pub is_lower : (name text line shown : List ℕ) (others : List (List ℕ)) (start end : ℕ) → HasTwo text name → IsFound name text 1 start end
    → lines_of (drop start text) ≡ shown ∷ others → line ≡ shown ++ 10 ∷ [] → IsLower name text line
is_lower name text line shown others start end (first, second, (table, made, there)) found here is =
    let a = around name text 1 start end found in
    let reads = reads_text text (found.lines ++ found.line ∷ a.below) table a.all made in
    let gives = second_gives name first second found.lines found.line a.below table reads found.count found.named there in
    let lines : shown ∷ others ≡ found.line ∷ a.below = sym here ∙ a.here in
    let same : shown ≡ found.line = cc in
    let whole : line ≡ found.line ++ 10 ∷ [] = is ∙ ap (λ l. l ++ 10 ∷ []) same in
    record {
      first = first;
      secret = gives.secret;
      key = record {
        line = found.line;
        alone = λ rest. ap (λ l. lines_of (l ++ rest)) whole
            ∙ ap lines_of (append_assoc found.line (10 ∷ []) rest)
            ∙ slice_split_at is_line_feed found.line 10 rest found.unbroken refl;
        said = gives.said;
      };
      had = (table, made, there ∙ ap (λ k. Some (two first k)) (sym gives.derived));
    }

-- ---- changes of the table, one after the other

abbrev first_key : Option Keys → List ℕ
first_key None = []
first_key (Some keys) = keys.first

abbrev key_or_none : Option (List ℕ) → List ℕ
key_or_none None = []
key_or_none (Some key) = key

abbrev second_key : Option Keys → List ℕ
second_key None = []
second_key (Some keys) = key_or_none keys.second

abbrev table_in : Result NamedKeys KeyFault → NamedKeys → NamedKeys
table_in (Ok table) other = table
table_in (Err fault) other = other

one_table : (text : List ℕ) (one other : NamedKeys) → table_of text ≡ Ok one → table_of text ≡ Ok other → one ≡ other
one_table text one other made again = ap (λ r. table_in r one) (sym made ∙ again)

put_again : (table between : NamedKeys) (name : List ℕ) (x y z : Keys) → between ≡ map.insert table name x → y ≡ z → map.insert between name y ≡ map.insert table name z
put_again table between name x y z is same = ap (λ t. map.insert t name y) is ∙ last_insert table name x y ∙ ap (map.insert table name) same

pub one_left : (name text changed : List ℕ) → DropsKey name text changed → HasOne changed name
one_left name text changed d = (d.first, (map.insert d.table name (one d.first), d.new, get_inserted d.table name (one d.first)))

pub two_added : (name key text changed : List ℕ) → AddsKey name key text changed → HasTwo changed name
two_added name key text changed a = (key, a.first, (map.insert a.table name (two key a.first), a.new, get_inserted a.table name (two key a.first)))

pub two_swapped : (name text changed : List ℕ) → SwapsKeys name text changed → HasTwo changed name
two_swapped name text changed s = (s.second, s.first, (map.insert s.table name (two s.second s.first), s.new, get_inserted s.table name (two s.second s.first)))

pub swaps_keys : (name text rest changed line : List ℕ) → IsLower name text line → DropsKey name text rest
    → ((secret : List ℕ) → IsKeyLine name secret line → AddsKey name (root_of secret) rest changed) → SwapsKeys name text changed
swaps_keys name text rest changed line lower drops adds =
    let added = adds lower.secret lower.key in
    let (table, made, there) = lower.had in
    let key : drops.second ≡ root_of lower.secret = ap second_key (sym drops.had ∙ ap (λ t. map.get t name) (one_table text drops.table table drops.old made) ∙ there) in
    let between : added.table ≡ map.insert drops.table name (one drops.first) = one_table rest added.table (map.insert drops.table name (one drops.first)) added.old drops.new in
    let kept : added.first ≡ drops.first = ap first_key (sym added.had ∙ ap (λ t. map.get t name) between ∙ get_inserted drops.table name (one drops.first)) in
    let keys : two (root_of lower.secret) added.first ≡ two drops.second drops.first = ap (λ k. two k added.first) (sym key) ∙ ap (two drops.second) kept in
    record {
      table = drops.table;
      first = drops.first;
      second = drops.second;
      old = drops.old;
      had = drops.had;
      new = added.new ∙ ap Ok (put_again drops.table added.table name (one drops.first) (two (root_of lower.secret) added.first) (two drops.second drops.first) between keys);
    }

pub adds_lower : (name key text between changed : List ℕ) → AddsKey name key text between → SwapsKeys name between changed → AddsLower name key text changed
adds_lower name key text between changed adds swaps =
    let put = two key adds.first in
    let is : swaps.table ≡ map.insert adds.table name put = one_table between swaps.table (map.insert adds.table name put) swaps.old adds.new in
    let there : Some (two swaps.first swaps.second) ≡ Some put = sym swaps.had ∙ ap (λ t. map.get t name) is ∙ get_inserted adds.table name put in
    let keys : two swaps.second swaps.first ≡ two adds.first key = ap (λ k. two k swaps.first) (ap second_key there) ∙ ap (two adds.first) (ap first_key there) in
    record {
      table = adds.table;
      first = adds.first;
      old = adds.old;
      had = adds.had;
      new = swaps.new ∙ ap Ok (put_again adds.table swaps.table name put (two swaps.second swaps.first) (two adds.first key) is keys);
    }

pub drops_first : (name text between changed : List ℕ) → SwapsKeys name text between → DropsKey name between changed → DropsFirst name text changed
drops_first name text between changed swaps drops =
    let put = two swaps.second swaps.first in
    let is : drops.table ≡ map.insert swaps.table name put = one_table between drops.table (map.insert swaps.table name put) drops.old swaps.new in
    let there : Some (two drops.first drops.second) ≡ Some put = sym drops.had ∙ ap (λ t. map.get t name) is ∙ get_inserted swaps.table name put in
    record {
      table = swaps.table;
      first = swaps.first;
      second = swaps.second;
      old = swaps.old;
      had = swaps.had;
      new = drops.new ∙ ap Ok (put_again swaps.table drops.table name put (one drops.first) (one swaps.second) is (ap one (ap first_key there)));
    }

-- ---- the keys that a name has

has_one_by : (text name : List ℕ) (first : List ℕ) (second : Option (List ℕ)) → HasKeys text name (Some (record { first = first; second = second })) → is_some second ≡ false → HasOne text name
has_one_by text name first None keys none = (first, keys)
has_one_by text name first (Some second) keys none = absurd (false≢true (sym none))

has_two_by : (text name : List ℕ) (first : List ℕ) (second : Option (List ℕ)) → HasKeys text name (Some (record { first = first; second = second })) → is_some second ≡ true → HasTwo text name
has_two_by text name first None keys some = absurd (false≢true some)
has_two_by text name first (Some second) keys some = (first, second, keys)

keys_are : (text name : List ℕ) (found : Option Keys) (keys : Keys) → HasKeys text name found → found ≡ Some keys → HasKeys text name (Some keys)
keys_are text name found keys has is = subst (λ (f : Option Keys). HasKeys text name f) is has

pub is_one : (text name : List ℕ) (found : Option Keys) (keys : Keys) → HasKeys text name found → found ≡ Some keys → is_some keys.second ≡ false → HasOne text name
is_one text name found keys has is none = has_one_by text name keys.first keys.second (keys_are text name found keys has is) none

pub is_two : (text name : List ℕ) (found : Option Keys) (keys : Keys) → HasKeys text name found → found ≡ Some keys → is_some keys.second ≡ true → HasTwo text name
is_two text name found keys has is some = has_two_by text name keys.first keys.second (keys_are text name found keys has is) some

pub is_none : (text name : List ℕ) (found : Option Keys) → HasKeys text name found → found ≡ None → HasKeys text name None
is_none text name found has is = subst (λ (f : Option Keys). HasKeys text name f) is has
