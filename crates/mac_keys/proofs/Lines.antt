-- The lines of a key file, read one after another.
use Rattle.std.proofs.Common.{◌≡◌, ◌⊎◌, inl, inr, ℕ, ◌+◌, ◌<◌, true, false, List, [], ◌∷◌, ◌++◌, length, take, drop, get_or, Option, Some, None, Ok, Err, option_map, refl, sym, ap, subst, ◌∙◌, arith, zero-add}
use Rattle.std.proofs.lemmas.List.{take_more, drop_more, take_all, take-append-drop}
use Rattle.std.proofs.lemmas.List.Elements.{filter_map-append}
use Rattle.std.proofs.lemmas.Option.{slice_get-get_or}
use Rattle.std.proofs.lemmas.Bool.Decides.{nat_tests}
use Rattle.std.proofs.lemmas.List.FromFn.{length-enumerate_from, get_or-enumerate_from}
use Rattle.std.specs.Prelude.{nat_lt, IsErrOf}
use Rattle.std.specs.List.{filter_map, cons_option, enumerate_from, slice_get}
use Rattle.mac_keys.specs.declared.fault.LineFault.{LineFault}
use Rattle.mac_keys.specs.declared.fault.KeyFault.{KeyFault}
use Rattle.mac_keys.specs.declared.fault.KeyFault.TheVariants as faults
use Rattle.mac_keys.specs.Line.{line_of}
use Rattle.mac_keys.specs.Table.{NamedKeys, keys_of, table_or_first, fault_below, fault_at, faults_of}
use Rattle.mac_keys.specs.declared.line.Refusal.{Refusal}
use Rattle.mac_keys.specs.declared.line.Refusal.TheVariants.{Line, Memory}
use Rattle.mac_keys.specs.Taken.{table_with, IsFor, fault_of_line}
use Rattle.mac_keys.specs.Meaning.{fault_in_place, AreFaultlessAbove, HasPairs, TakeMemory}
use Rattle.mac_keys.proofs.KeyMeaning.{keys_of-push}

-- what is known of the line that a reader has come to
pub record Turn (lines : List (List ℕ)) (n : ℕ) (index : ℕ) (line : List ℕ) : Type 0 where
  pub place : index ≡ n
  pub there : slice_get lines n ≡ Some line
  pub before : take (n + 1) lines ≡ take n lines ++ line ∷ []
  pub so_far : take (n + 1) (enumerate_from 0 lines) ≡ take n (enumerate_from 0 lines) ++ (n, line) ∷ []
  pub whole : enumerate_from 0 lines ≡ take n (enumerate_from 0 lines) ++ (n, line) ∷ drop (n + 1) (enumerate_from 0 lines)

pub turn : (lines : List (List ℕ)) (n index : ℕ) (line : List ℕ) → (n < length (enumerate_from 0 lines)) × (◌≡◌ {A = ℕ × List ℕ} (index, line) (get_or (enumerate_from 0 lines) n (index, line)))
    → Turn lines n index line
turn lines n index line t =
    let numbered = enumerate_from 0 lines in
    let within : n < length lines = omega (arith, t.0, length-enumerate_from 0 lines) in
    let item : ◌≡◌ {A = ℕ × List ℕ} (index, line) (n, get_or lines n line) = t.1 ∙ get_or-enumerate_from 0 lines n (index, line) within ∙ ap (λ k. (k, get_or lines n line)) (zero-add n) in
    let here : get_or lines n line ≡ line = ap (λ p. p.1) (sym item) in
    let there : get_or numbered n (index, line) ≡ (n, line) = sym t.1 ∙ item ∙ ap (λ l. (n, l)) here in
    record {
      place = ap (λ p. p.0) item;
      there = slice_get-get_or lines n line within ∙ ap Some here;
      before = take_more lines n line within ∙ ap (λ l. take n lines ++ l ∷ []) here;
      so_far = take_more numbered n (index, line) t.0 ∙ ap (λ p. take n numbered ++ p ∷ []) there;
      whole = sym (take-append-drop n numbered) ∙ ap (λ rest. take n numbered ++ rest) (drop_more numbered n (index, line) t.0 ∙ ap (λ p. p ∷ drop (n + 1) numbered) there);
    }

-- the first n lines have no fault, and give this table
pub record SoFar (lines : List (List ℕ)) (n : ℕ) (table : NamedKeys) : Type 0 where
  pub given : table ≡ keys_of (take n lines)
  pub faultless : filter_map (fault_at lines) (take n (enumerate_from 0 lines)) ≡ []
  pub above : AreFaultlessAbove lines n

pub SoFar-none : (lines : List (List ℕ)) (table : NamedKeys) → table ≡ keys_of (take 0 lines) → SoFar lines 0 table
SoFar-none lines table given = record {
  given = given;
  faultless = refl;
  above = λ higher other less there. absurd (omega arith);
}

-- one more line without a fault
further : (lines : List (List ℕ)) (n : ℕ) (line : List ℕ) → AreFaultlessAbove lines n → slice_get lines n ≡ Some line → fault_in_place lines n line ≡ None
    → AreFaultlessAbove lines (n + 1)
further lines n line above here none higher other less there =
    elim (nat_lt higher n) as (λ b. nat_lt higher n ≡ b → fault_in_place lines higher other ≡ None) [
      | true ↦ λ before. above higher other (grind (arith, nat_tests)) there
      | false ↦ λ at.
          let last : higher ≡ n = grind (arith, nat_tests) in
          let same : Some other ≡ Some line = sym there ∙ ap (slice_get lines) last ∙ here in
          ap (λ k. fault_in_place lines k other) last ∙ ap (fault_in_place lines n) (let e : other ≡ line = cc in e) ∙ none
    ] refl

-- what is wrong with the line, among the lines and below the table so far
same_fault : (lines : List (List ℕ)) (n : ℕ) (line : List ℕ) (table : NamedKeys) (found : Option LineFault) → SoFar lines n table → fault_below table (line_of line) ≡ found → fault_below (keys_of (take n lines)) (line_of line) ≡ found
same_fault lines n line table found so_far e = ap (λ k. fault_below k (line_of line)) (sym so_far.given) ∙ e

-- a line without a fault is taken
pub SoFar-push : (lines : List (List ℕ)) (n m index : ℕ) (line : List ℕ) (table after : NamedKeys) → Turn lines n index line → SoFar lines n table → m ≡ n + 1
    → (fault_below table (line_of line) ≡ None) × (after ≡ table_with table (line_of line)) → SoFar lines m after
SoFar-push lines n m index line table after t so_far next taken =
    let none = same_fault lines n line table None so_far taken.0 in
    record {
      given =
          taken.1
          ∙ ap (λ k. table_with k (line_of line)) so_far.given
          ∙ sym (keys_of-push (take n lines) line)
          ∙ ap keys_of (sym t.before)
          ∙ ap (λ k. keys_of (take k lines)) (sym next);
      faultless =
          ap (λ k. filter_map (fault_at lines) (take k (enumerate_from 0 lines))) next
          ∙ ap (filter_map (fault_at lines)) t.so_far
          ∙ filter_map-append (fault_at lines) (take n (enumerate_from 0 lines)) ((n, line) ∷ [])
          ∙ ap (λ found. found ++ filter_map (fault_at lines) ((n, line) ∷ [])) so_far.faultless
          ∙ ap (λ found. cons_option (option_map {U = ℕ × LineFault} (λ fault. (n + 1, fault)) found) []) none;
      above =
          subst (λ (k : ℕ). AreFaultlessAbove lines k) (sym next)
          (further lines n line so_far.above t.there none);
    }

-- the first line with a fault gives the first fault
first_fault : (lines : List (List ℕ)) (n index : ℕ) (line : List ℕ) (table : NamedKeys) (fault : LineFault) → Turn lines n index line → SoFar lines n table
    → fault_below table (line_of line) ≡ Some fault → table_or_first (keys_of lines) (faults_of lines) ≡ Err (faults.Line (n + 1) fault)
first_fault lines n index line table fault t so_far e =
    let later = drop (n + 1) (enumerate_from 0 lines) in
    ap (λ numbered. table_or_first (keys_of lines) (filter_map (fault_at lines) numbered)) t.whole
    ∙ ap (table_or_first (keys_of lines)) (
    filter_map-append (fault_at lines) (take n (enumerate_from 0 lines)) ((n, line) ∷ later)
    ∙ ap (λ front. front ++ filter_map (fault_at lines) ((n, line) ∷ later)) so_far.faultless
    ∙ ap (λ found. cons_option (option_map {U = ℕ × LineFault} (λ f. (n + 1, f)) found) (filter_map (fault_at lines) later)) (same_fault lines n line table (Some fault) so_far e))

-- a line that is refused gives the first fault, or memory ran out
pub SoFar-refused : (lines : List (List ℕ)) (n index : ℕ) (line : List ℕ) (table : NamedKeys) (refusal : Refusal) (told : KeyFault) → Turn lines n index line → SoFar lines n table
    → IsFor (fault_below table (line_of line)) refusal → told ≡ fault_of_line index refusal
    → (told ≡ faults.Memory) ⊎ (table_or_first (keys_of lines) (faults_of lines) ≡ Err told)
SoFar-refused lines n index line table (Line fault) told t so_far e named =
    inr (first_fault lines n index line table fault t so_far e ∙ ap (λ i. Err (faults.Line (i + 1) fault)) (sym t.place) ∙ ap Err (sym named))
SoFar-refused lines n index line table Memory told t so_far e named = inl named

-- a line that is refused for want of memory takes some
pub TakeMemory-refused : (lines : List (List ℕ)) (n index : ℕ) (line : List ℕ) (table : NamedKeys) (refusal : Refusal) (told : KeyFault) → Turn lines n index line → SoFar lines n table
    → (IsErrOf {T = Unit {0}} (Err refusal) Memory → HasPairs line) → told ≡ fault_of_line index refusal → IsErrOf {T = NamedKeys} (Err told) faults.Memory → TakeMemory lines
TakeMemory-refused lines n index line table (Line fault) told t so_far memory is e = let no : told ≡ faults.Memory = cc in cc
TakeMemory-refused lines n index line table Memory told t so_far memory is e = record {
  place = n;
  line = line;
  there = t.there;
  has = memory refl;
  above = so_far.above;
}

-- at the end of the lines there is no fault
pub SoFar-all : (lines : List (List ℕ)) (n : ℕ) (table : NamedKeys) → SoFar lines n table → n ≡ length (enumerate_from 0 lines) → table_or_first (keys_of lines) (faults_of lines) ≡ Ok table
SoFar-all lines n table so_far all =
    ap (table_or_first (keys_of lines)) (ap (filter_map (fault_at lines)) (sym (take_all n (enumerate_from 0 lines) (omega arith))) ∙ so_far.faultless)
    ∙ ap (λ ls. Ok (keys_of ls)) (sym (take_all n lines (omega (arith, length-enumerate_from 0 lines))))
    ∙ ap Ok (sym so_far.given)
