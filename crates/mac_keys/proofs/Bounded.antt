-- A table has no more names than it may, and no name has more keys than it may.
use Rattle.std.proofs.Common.{◌≡◌, ℕ, zero, suc, ◌+◌, ◌≤◌, nat_le, Bool, true, false, cond, List, [], ◌∷◌, ◌++◌, length, take, get_or, Option, Some, None, Result, Ok, Err, refl, sym, ap, subst, ◌∙◌, arith, length-append}
use Rattle.std.proofs.lemmas.List.{take_more, take_all, append-nil}
use Rattle.std.proofs.lemmas.Option.{slice_get-get_or}
use Rattle.std.proofs.lemmas.Bool.Decides.{nat_tests}
use Rattle.std.proofs.lemmas.Slice.Eq.{bytes_eq-Decides}
use Rattle.std.specs.Option.{option_map_or, is_some}
use Rattle.std.specs.List.{cons_option}
use Rattle.std.specs.Str.{bytes_eq}
use Rattle.std.specs.Cmp.Lexicographic.{nat_list_cmp_total}
use Rattle.std.specs.FinMap as map
use Rattle.mac_hmac.specs.Chain.{root_of}
use Rattle.mac_keys.specs.declared.fault.LineFault.{LineFault}
use Rattle.mac_keys.specs.declared.fault.LineFault.TheVariants.{TooMany}
use Rattle.mac_keys.specs.declared.keys.Keys.{Keys}
use Rattle.mac_keys.specs.declared.key_map.TheConstants.{NAMES_MAX}
use Rattle.mac_keys.specs.Line.{Given, line_of}
use Rattle.mac_keys.specs.Table.{NamedKeys, listed, key_said, keys_given, first_two, keys_of, fault_of_keys, fault_below}
use Rattle.mac_keys.specs.Taken.{keys_with, table_with}
use Rattle.mac_keys.specs.Meaning.{AreFaultless, keys_at}
use Rattle.mac_keys.proofs.Names.{order}
use Rattle.mac_keys.proofs.KeyMeaning.{get-keys_of, keys_given-push, keys_of-push}

-- ---- names

one_more : (full : Bool) (n : ℕ) → nat_le NAMES_MAX n ≡ full → cond full (Some TooMany) None ≡ None → n + 1 ≤ NAMES_MAX
one_more true n e none = cc
one_more false n e none = grind (arith, nat_tests)

len_after : (keys : Option Keys) (n : ℕ) → fault_of_keys n keys ≡ None → n ≤ NAMES_MAX → cond (is_some keys) n (n + 1) ≤ NAMES_MAX
len_after None n none h = one_more (nat_le NAMES_MAX n) n refl none
len_after (Some keys) n none h = h

len-table_with-le : (table : NamedKeys) (said : Result (Option Given) LineFault) → fault_below table said ≡ None → map.len table ≤ NAMES_MAX → map.len (table_with table said) ≤ NAMES_MAX
len-table_with-le table (Ok None) none h = h
len-table_with-le table (Ok (Some g)) none h =
    subst (λ (n : ℕ). n ≤ NAMES_MAX) (sym (map.len-insert nat_list_cmp_total table g.name (keys_with (map.get table g.name) (root_of g.secret))))
    (len_after (map.get table g.name) (map.len table) none h)
len-table_with-le table (Err fault) none h = cc

pub len-keys_of-le : (lines : List (List ℕ)) → AreFaultless lines → (n : ℕ) → n ≤ length lines → map.len (keys_of (take n lines)) ≤ NAMES_MAX
len-keys_of-le lines faultless zero h = subst (λ (n : ℕ). n ≤ NAMES_MAX) (sym (map.len-empty order Keys)) (omega arith)
len-keys_of-le lines faultless (suc n) h =
    let line : List ℕ = get_or lines n [] in
    let none : fault_below (keys_of (take n lines)) (line_of line) ≡ None = faultless n line (slice_get-get_or lines n [] (omega arith)) in
    let taken : keys_of (take (suc n) lines) ≡ table_with (keys_of (take n lines)) (line_of line) =
    ap (λ k. keys_of (take k lines)) (let e : suc n ≡ n + 1 = omega arith in e) ∙ ap keys_of (take_more lines n [] (omega arith)) ∙ keys_of-push (take n lines) line in
    subst (λ (k : ℕ). k ≤ NAMES_MAX) (ap map.len (sym taken)) (len-table_with-le (keys_of (take n lines)) (line_of line) none (len-keys_of-le lines faultless n (omega arith)))

-- ---- the keys of a name

-- a name that has no fault has one key at most
one_at_most : (keys : List (List ℕ)) (names : ℕ) → fault_of_keys names (first_two keys) ≡ None → length keys ≤ 1
one_at_most [] names none = omega arith
one_at_most (first ∷ []) names none = omega arith
one_at_most (first ∷ second ∷ others) names none = cc

two_at_most : (name : List ℕ) (above : List (List ℕ)) (said : Result (Option Given) LineFault) → fault_below (keys_of above) said ≡ None → length (keys_given name above) ≤ 2
    → length (keys_given name above ++ cons_option (key_said name said) []) ≤ 2
two_at_most name above (Ok None) none h = subst (λ (keys : List (List ℕ)). length keys ≤ 2) (sym (append-nil (keys_given name above))) h
two_at_most name above (Err fault) none h = cc
two_at_most name above (Ok (Some g)) none h =
    elim (bytes_eq g.name name) as (λ b. bytes_eq g.name name ≡ b → length (keys_given name above ++ cons_option (cond b (Some (root_of g.secret)) None) []) ≤ 2) [
      | true ↦ λ same.
          let one = one_at_most (keys_given name above) (map.len (keys_of above))
          (ap (fault_of_keys (map.len (keys_of above))) (sym (get-keys_of above name) ∙ ap (map.get (keys_of above)) (sym ((bytes_eq-Decides g.name name).0 same))) ∙ none) in
          omega (arith, one, length-append (keys_given name above) (root_of g.secret ∷ []))
      | false ↦ λ apart. subst (λ (keys : List (List ℕ)). length keys ≤ 2) (sym (append-nil (keys_given name above))) h
    ] refl

within_two : (name : List ℕ) (lines : List (List ℕ)) → AreFaultless lines → (n : ℕ) → n ≤ length lines → length (keys_given name (take n lines)) ≤ 2
within_two name lines faultless zero h = omega arith
within_two name lines faultless (suc n) h =
    let line : List ℕ = get_or lines n [] in
    let none : fault_below (keys_of (take n lines)) (line_of line) ≡ None = faultless n line (slice_get-get_or lines n [] (omega arith)) in
    let taken : keys_given name (take (suc n) lines) ≡ keys_given name (take n lines) ++ cons_option (key_said name (line_of line)) [] =
    ap (λ k. keys_given name (take k lines)) (let e : suc n ≡ n + 1 = omega arith in e) ∙ ap (keys_given name) (take_more lines n [] (omega arith)) ∙ keys_given-push name (take n lines) line in
    subst (λ (keys : List (List ℕ)). length keys ≤ 2) (sym taken) (two_at_most name (take n lines) (line_of line) none (within_two name lines faultless n (omega arith)))

listed-first_two : (keys : List (List ℕ)) → length keys ≤ 2 → option_map_or listed (first_two keys) [] ≡ keys
listed-first_two [] h = refl
listed-first_two (first ∷ []) h = refl
listed-first_two (first ∷ second ∷ []) h = refl
listed-first_two (first ∷ second ∷ third ∷ others) h = absurd (omega arith)

pub keys_at-faultless : (lines : List (List ℕ)) (table : NamedKeys) (name : List ℕ) → AreFaultless lines × (table ≡ keys_of lines) → keys_at table name ≡ keys_given name lines
keys_at-faultless lines table name (faultless, made) =
    ap (λ t. keys_at t name) made
    ∙ ap (λ keys. option_map_or listed keys []) (get-keys_of lines name)
    ∙ listed-first_two (keys_given name lines) (
    subst (λ (ls : List (List ℕ)). length (keys_given name ls) ≤ 2) (take_all (length lines) lines (omega arith)) (within_two name lines faultless (length lines) (omega arith)))
