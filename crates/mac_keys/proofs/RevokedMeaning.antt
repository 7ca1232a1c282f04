-- What a list of tokens that were taken back has, by the lines of its text.
use Rattle.std.proofs.Common.{◌≡◌, ◌↔◌, ℕ, zero, suc, ◌+◌, ◌||◌, ◌&&◌, Bool, true, false, cond, List, [], ◌∷◌, Option, Some, None, Result, Ok, Err, take, refl, sym, ap, ◌∙◌, arith}
use Rattle.std.specs.Prelude.{unwrap_or}
use Rattle.std.specs.List.{list_any, slice_get, Any}
use Rattle.std.specs.Ordering.{is_eq, eq_by_cmp}
use Rattle.std.specs.Cmp.{tied_itself}
use Rattle.std.specs.Cmp.Lexicographic.{nat_list_cmp_total}
use Rattle.std.specs.FinMap as map
use Rattle.std.specs.FinSet as set
use Rattle.std.proofs.lemmas.Bool.{and_parts, false≢true}
use Rattle.std.proofs.lemmas.List.Elements.{All-nil, All-cons, All-head, All-tail}
use Rattle.std.proofs.lemmas.List.Folds.{Any-from_list_any, list_any-from_Any}
use Rattle.mac_keys.specs.Revoked.{AreSound, IsFirstBad, Revoked, Says, TakenBack, after_lines, after_said, identifiers_of, is_listed, nothing, or_fault, revoked_line, revoked_of, with_said}
use Rattle.mac_keys.specs.Table.{lines_of}
use Rattle.mac_keys.specs.declared.revoked_fault.RevokedFault.TheVariants.{Line}
use Rattle.mac_keys.specs.declared.revoked_fault.RevokedLineFault.{RevokedLineFault}
use Rattle.mac_keys.proofs.KeyMeaning.{same_name}
use Rattle.mac_keys.proofs.Names.{order}
use Rattle.mac_keys.proofs.RevokedLemmas.{listed-nothing}

-- whether what a line says takes this identifier of this name back
abbrev pub matches : List ℕ → List ℕ → Option TakenBack → Bool
matches name identifier None = false
matches name identifier (Some t) = eq_by_cmp order name t.name && eq_by_cmp order identifier t.identifier

abbrev pub matches_line : List ℕ → List ℕ → Result (Option TakenBack) RevokedLineFault → Bool
matches_line name identifier (Ok said) = matches name identifier said
matches_line name identifier (Err kind) = false

-- one more
pub with_one : (list : Revoked) (name identifier : List ℕ) (t : TakenBack) → is_listed (with_said list (Some t)) name identifier ≡ ((eq_by_cmp order name t.name && eq_by_cmp order identifier t.identifier) || is_listed list name identifier)
with_one list name identifier t =
    let ids = set.insert (identifiers_of list t.name) t.identifier in
    ap (λ o. set.contains (unwrap_or o set.empty) identifier) (map.get-insert nat_list_cmp_total list t.name ids name)
    ∙ elim (eq_by_cmp order name t.name) as (λ b. eq_by_cmp order name t.name ≡ b → set.contains (unwrap_or (cond b (Some ids) (map.get list name)) set.empty) identifier ≡ ((b && eq_by_cmp order identifier t.identifier) || is_listed list name identifier)) [
      | true ↦ λ same.
          set.contains-insert nat_list_cmp_total (identifiers_of list t.name) t.identifier identifier
          ∙ ap (λ n. eq_by_cmp order identifier t.identifier || set.contains (identifiers_of list n) identifier) (sym (same_name name t.name same))
      | false ↦ λ other. refl
    ] refl

with_more : (list : Revoked) (name identifier : List ℕ) (said : Option TakenBack) → is_listed (with_said list said) name identifier ≡ (matches name identifier said || is_listed list name identifier)
with_more list name identifier None = refl
with_more list name identifier (Some t) = with_one list name identifier t

shifted : (a b c : Bool) → (a || (b || c)) ≡ ((b || a) || c)
shifted true true c = refl
shifted true false c = refl
shifted false true c = refl
shifted false false c = refl

one_line : (name identifier : List ℕ) (number : ℕ) (before after : Revoked) (lines : List (List ℕ)) (said : Result (Option TakenBack) RevokedLineFault)
    → ((next : Revoked) → after_lines (number + 1) next lines ≡ Ok after → is_listed after name identifier ≡ (list_any (λ line. matches_line name identifier (revoked_line line)) lines || is_listed next name identifier))
    → or_fault (after_said number before said) (λ next. after_lines (number + 1) next lines) ≡ Ok after
    → is_listed after name identifier ≡ ((matches_line name identifier said || list_any (λ line. matches_line name identifier (revoked_line line)) lines) || is_listed before name identifier)
one_line name identifier number before after lines (Ok said) below e =
    below (with_said before said) e
    ∙ ap (λ b. list_any (λ line. matches_line name identifier (revoked_line line)) lines || b) (with_more before name identifier said)
    ∙ shifted (list_any (λ line. matches_line name identifier (revoked_line line)) lines) (matches name identifier said) (is_listed before name identifier)
one_line name identifier number before after lines (Err kind) below e = absurd (cc)

pub has_lines : (name identifier : List ℕ) (number : ℕ) (before after : Revoked) (lines : List (List ℕ)) → after_lines number before lines ≡ Ok after
    → is_listed after name identifier ≡ (list_any (λ line. matches_line name identifier (revoked_line line)) lines || is_listed before name identifier)
has_lines name identifier number before after [] e = let same : before ≡ after = cc in ap (λ l. is_listed l name identifier) (sym same)
has_lines name identifier number before after (line ∷ lines) e =
    one_line name identifier number before after lines (revoked_line line) (λ next is. has_lines name identifier (number + 1) next after lines is) e

-- a line matches exactly where it says so
says_matched : (name identifier : List ℕ) (said : Result (Option TakenBack) RevokedLineFault) → matches_line name identifier said ≡ true → said ≡ Ok (Some (record { name = name; identifier = identifier }))
says_matched name identifier (Ok None) e = absurd (false≢true e)
says_matched name identifier (Err kind) e = absurd (false≢true e)
says_matched name identifier (Ok (Some t)) e =
    let both = and_parts (eq_by_cmp order name t.name) (eq_by_cmp order identifier t.identifier) e in
    let named = same_name name t.name both.0 in
    let identified = same_name identifier t.identifier both.1 in
    λ i. Ok (Some (record { name = sym named i; identifier = sym identified i }))

matched_says : (name identifier : List ℕ) (said : Result (Option TakenBack) RevokedLineFault) → said ≡ Ok (Some (record { name = name; identifier = identifier })) → matches_line name identifier said ≡ true
matched_says name identifier said e =
    ap (matches_line name identifier) e
    ∙ ap (λ b. b && eq_by_cmp order identifier identifier) (ap is_eq (tied_itself nat_list_cmp_total name))
    ∙ ap is_eq (tied_itself nat_list_cmp_total identifier)

any_of : (P Q : List ℕ → Type 0) → ((line : List ℕ) → P line → Q line) → (lines : List (List ℕ)) → Any P lines → Any Q lines
any_of P Q each lines (k, line, within, is, holds) = (k, line, within, is, each line holds)

or_none : (a b : Bool) → b ≡ false → (a || b) ≡ a
or_none true b none = refl
or_none false b none = none

pub lists_what_is_said : (text : List ℕ) (list : Revoked) → revoked_of text ≡ Ok list → (name identifier : List ℕ) → (is_listed list name identifier ≡ true) ↔ Any (Says name identifier) (lines_of text)
lists_what_is_said text list e name identifier =
    let test = λ (line : List ℕ). matches_line name identifier (revoked_line line) in
    let all : is_listed list name identifier ≡ list_any test (lines_of text) =
    has_lines name identifier 1 nothing list (lines_of text) e ∙ or_none _ _ (listed-nothing nothing name identifier refl) in (
      (λ listed. any_of _ _ (λ line is. says_matched name identifier (revoked_line line) is) (lines_of text) (Any-from_list_any test (lines_of text) (sym all ∙ listed))),
      (λ any. all ∙ list_any-from_Any test (lines_of text) (any_of _ _ (λ line is. matched_says name identifier (revoked_line line) is) (lines_of text) any)),
    )

-- ---- the first fault

-- the same from a number on
record IsBadFrom (start : ℕ) (lines : List (List ℕ)) (number : ℕ) (kind : RevokedLineFault) : Type 0 where
  place : ℕ
  line : List ℕ
  there : slice_get lines place ≡ Some line
  found : revoked_line line ≡ Err kind
  above : AreSound (take place lines)
  numbered : number ≡ start + place

bad_line : (start number : ℕ) (kind : RevokedLineFault) (list : Revoked) (line : List ℕ) (lines : List (List ℕ)) (said : Result (Option TakenBack) RevokedLineFault) → revoked_line line ≡ said
    → ((next : Revoked) → after_lines (start + 1) next lines ≡ Err (Line number kind) → IsBadFrom (start + 1) lines number kind)
    → or_fault (after_said start list said) (λ next. after_lines (start + 1) next lines) ≡ Err (Line number kind) → IsBadFrom start (line ∷ lines) number kind
bad_line start number kind list line lines (Err other) is below e = record {
  place = zero;
  line = line;
  there = refl;
  found = is ∙ cc;
  above = All-nil (λ l. (k : RevokedLineFault) → ¬ (revoked_line l ≡ Err k));
  numbered = let same : start ≡ number = cc in sym same ∙ omega arith;
}
bad_line start number kind list line lines (Ok said) is below e =
    let later = below (with_said list said) e in
    record {
      place = suc later.place;
      line = later.line;
      there = later.there;
      found = later.found;
      above = All-cons (λ l. (k : RevokedLineFault) → ¬ (revoked_line l ≡ Err k)) line (take later.place lines) (λ k bad. let no : Ok said ≡ Err k = sym is ∙ bad in absurd (cc)) later.above;
      numbered = later.numbered ∙ omega arith;
    }

bad_from : (start number : ℕ) (kind : RevokedLineFault) (list : Revoked) (lines : List (List ℕ)) → after_lines start list lines ≡ Err (Line number kind) → IsBadFrom start lines number kind
bad_from start number kind list [] e = absurd (cc)
bad_from start number kind list (line ∷ lines) e =
    bad_line start number kind list line lines (revoked_line line) refl (λ next is. bad_from (start + 1) number kind next lines is) e

told_line : (start number : ℕ) (kind : RevokedLineFault) (list : Revoked) (line : List ℕ) (lines : List (List ℕ)) (said : Result (Option TakenBack) RevokedLineFault) → revoked_line line ≡ said
    → ((k : RevokedLineFault) → ¬ (revoked_line line ≡ Err k)) → ((next : Revoked) → after_lines (start + 1) next lines ≡ Err (Line number kind))
    → or_fault (after_said start list said) (λ next. after_lines (start + 1) next lines) ≡ Err (Line number kind)
told_line start number kind list line lines (Err other) is sound below = absurd (sound other is)
told_line start number kind list line lines (Ok said) is sound below = below (with_said list said)

told_from : (start number : ℕ) (kind : RevokedLineFault) (list : Revoked) (lines : List (List ℕ)) (place : ℕ) (line : List ℕ) → slice_get lines place ≡ Some line → revoked_line line ≡ Err kind
    → AreSound (take place lines) → number ≡ start + place → after_lines start list lines ≡ Err (Line number kind)
told_from start number kind list [] place line there found above numbered = absurd (cc)
told_from start number kind list (first ∷ lines) zero line there found above numbered =
    let same : first ≡ line = cc in
    ap (λ said. or_fault (after_said start list said) (λ next. after_lines (start + 1) next lines)) (ap revoked_line same ∙ found)
    ∙ ap (λ n. Err (Line n kind)) (let e : start ≡ number = omega (arith, numbered) in e)
told_from start number kind list (first ∷ lines) (suc place) line there found above numbered =
    told_line start number kind list first lines (revoked_line first) refl
    (All-head (λ l. (k : RevokedLineFault) → ¬ (revoked_line l ≡ Err k)) first (take place lines) above)
    (λ next. told_from (start + 1) number kind next lines place line there found (All-tail (λ l. (k : RevokedLineFault) → ¬ (revoked_line l ≡ Err k)) first (take place lines) above) (omega (arith, numbered)))

pub first_bad : (text : List ℕ) (number : ℕ) (kind : RevokedLineFault) → (revoked_of text ≡ Err (Line number kind)) ↔ IsFirstBad (lines_of text) number kind
first_bad text number kind = (
  (λ e. let bad = bad_from 1 number kind nothing (lines_of text) e in
      record { place = bad.place; line = bad.line; there = bad.there; found = bad.found; above = bad.above; numbered = bad.numbered ∙ omega arith }),
  (λ bad. told_from 1 number kind nothing (lines_of text) bad.place bad.line bad.there bad.found bad.above (omega (arith, bad.numbered))),
)
