-- How many lines of a list's text say something, beside what they take back.
use Rattle.std.proofs.Common.{◌≡◌, ◌↔◌, ℕ, suc, ◌+◌, ◌||◌, ◌&&◌, Bool, true, false, cond, List, [], ◌∷◌, length, Option, Some, None, Result, Ok, Err, refl, sym, ap, ◌∙◌}
use Rattle.std.specs.Prelude.{if◌then◌else◌, filter, not}
use Rattle.std.specs.List.{list_any}
use Rattle.std.specs.Ordering.{is_eq, eq_by_cmp}
use Rattle.std.specs.Cmp.{tied_itself}
use Rattle.std.specs.Cmp.Lexicographic.{nat_list_cmp_total}
use Rattle.std.proofs.lemmas.Bool.{false≢true}
use Rattle.hex.specs.Hex.{decode_of}
use Rattle.hex.specs.declared.error.FromHexError.{FromHexError}
use Rattle.mac_keys.specs.Line.{is_ignored, is_name}
use Rattle.mac_keys.specs.Revoked.{Revoked, TakenBack, after_lines, after_said, count_said, is_listed, nothing, or_fault, revoked_by, revoked_fields, revoked_line, revoked_of, with_identifier, with_said}
use Rattle.mac_keys.specs.Table.{lines_of}
use Rattle.mac_keys.specs.declared.revoked_fault.RevokedLineFault.{RevokedLineFault}
use Rattle.mac_keys.specs.declared.revoked_fault.RevokedLineFault.TheVariants.{BadName}
use Rattle.mac_keys.proofs.Names.{order}
use Rattle.mac_keys.proofs.RevokedLemmas.{listed-nothing}
use Rattle.mac_keys.proofs.RevokedMeaning.{has_lines, matches_line, with_one}

abbrev says : List ℕ → Bool
says line = not (is_ignored line)

identifier_or_fault : (name : List ℕ) (bytes : Result (List ℕ) FromHexError) → with_identifier name bytes ≡ Ok None → ⊥
identifier_or_fault name (Ok identifier) is = cc
identifier_or_fault name (Err why) is = cc

-- a line that says something takes a token back, or has a fault
taken_or_fault : (fields : Option (List ℕ × List ℕ)) → revoked_by fields ≡ Ok None → ⊥
taken_or_fault None is = cc
taken_or_fault (Some fields) is =
    elim (is_name fields.0) as (λ b. (if b then with_identifier fields.0 (decode_of fields.1) else Err BadName) ≡ Ok None → ⊥) [
      | true ↦ λ e. identifier_or_fault fields.0 (decode_of fields.1) e
      | false ↦ λ e. cc
    ] is

-- what was taken back last is listed
has_one : (list : Revoked) (t : TakenBack) → is_listed (with_said list (Some t)) t.name t.identifier ≡ true
has_one list t =
    with_one list t.name t.identifier t
    ∙ ap (λ b. (b && eq_by_cmp order t.identifier t.identifier) || is_listed list t.name t.identifier) (ap is_eq (tied_itself nat_list_cmp_total t.name))
    ∙ ap (λ b. b || is_listed list t.name t.identifier) (ap is_eq (tied_itself nat_list_cmp_total t.identifier))

or_true : (b : Bool) → (b || true) ≡ true
or_true true = refl
or_true false = refl

takes_some : (number : ℕ) (before after : Revoked) (lines : List (List ℕ)) (said : Result (Option TakenBack) RevokedLineFault) → (said ≡ Ok None → ⊥)
    → or_fault (after_said number before said) (λ next. after_lines (number + 1) next lines) ≡ Ok after → after ≡ nothing → ⊥
takes_some number before after lines (Ok None) some rest is = some refl
takes_some number before after lines (Ok (Some t)) some rest is =
    false≢true
    (sym (listed-nothing after t.name t.identifier is)
    ∙ has_lines t.name t.identifier (number + 1) (with_said before (Some t)) after lines rest
    ∙ ap (λ b. list_any (λ line. matches_line t.name t.identifier (revoked_line line)) lines || b) (has_one before t)
    ∙ or_true _)
takes_some number before after lines (Err kind) some rest is = cc

-- where no line says anything, nothing more is taken back
none_taken : (number : ℕ) (before after : Revoked) (lines : List (List ℕ)) → after_lines number before lines ≡ Ok after → length (filter says lines) ≡ 0 → after ≡ before
none_taken number before after [] e none = let same : before ≡ after = cc in sym same
none_taken number before after (line ∷ lines) e none =
    elim (is_ignored line) as (λ b. or_fault (after_said number before (if b then Ok None else revoked_by (revoked_fields line))) (λ next. after_lines (number + 1) next lines) ≡ Ok after
    → length (cond (not b) (line ∷ filter says lines) (filter says lines)) ≡ 0 → after ≡ before) [
      | true ↦ λ rest count. none_taken (number + 1) before after lines rest count
      | false ↦ λ rest count. absurd (let no : suc (length (filter says lines)) ≡ 0 = count in cc)
    ] e none

-- where nothing is taken back, no line says anything
none_said : (number : ℕ) (before after : Revoked) (lines : List (List ℕ)) → after_lines number before lines ≡ Ok after → after ≡ nothing → length (filter says lines) ≡ 0
none_said number before after [] e is = refl
none_said number before after (line ∷ lines) e is =
    elim (is_ignored line) as (λ b. or_fault (after_said number before (if b then Ok None else revoked_by (revoked_fields line))) (λ next. after_lines (number + 1) next lines) ≡ Ok after
    → length (cond (not b) (line ∷ filter says lines) (filter says lines)) ≡ 0) [
      | true ↦ λ rest. none_said (number + 1) before after lines rest is
      | false ↦ λ rest. absurd (takes_some number before after lines (revoked_by (revoked_fields line)) (taken_or_fault (revoked_fields line)) rest is)
    ] e

-- a text whose lines say nothing is one that takes nothing back
pub lines-tell : (text : List ℕ) (list : Revoked) → revoked_of text ≡ Ok list → (count_said text ≡ 0) ↔ (list ≡ nothing)
lines-tell text list e = (
  (λ none. none_taken 1 nothing list (lines_of text) e none),
  (λ is. none_said 1 nothing list (lines_of text) e is),
)
