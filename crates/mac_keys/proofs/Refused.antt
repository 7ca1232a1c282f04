-- What is wrong with a line by itself.
use Rattle.std.proofs.Common.{◌≡◌, ◌≢◌, ℕ, ◌+◌, ◌<◌, ◌==◌, Bool, true, false, not, cond, List, [], ◌∷◌, ◌++◌, length, take, drop, codes, Option, Some, None, Result, Ok, Err, option_map, refl, sym, ap, subst, ◌∙◌, arith, length-take}
use Rattle.std.proofs.lemmas.List.{get_or-take}
use Rattle.std.proofs.lemmas.List.Quantifiers.{position-Some}
use Rattle.std.proofs.lemmas.Bool.{eqb-true}
use Rattle.std.proofs.lemmas.Bool.Decides.{nat_tests}
use Rattle.std.specs.Prelude.{position, nat_eq, nat_lt}
use Rattle.std.specs.List.{starts_with, position_or_len, Contains}
use Rattle.hex.specs.Hex.{decode_of}
use Rattle.hex.specs.declared.error.FromHexError.{FromHexError}
use Rattle.mac_keys.specs.declared.fault.LineFault.{LineFault}
use Rattle.mac_keys.specs.declared.fault.LineFault.TheVariants.{BadName, BadHex, EmptySecret, Twice, TooMany, BadLine}
use Rattle.mac_keys.specs.Line.{is_ignored, is_name, parted, fields_of, bytes_or_fault, secret_of, given, said_by, line_of}
use Rattle.mac_keys.specs.Meaning.{IsBadLine, HasBadName, HasEmptySecret, HasBadHex}
use Rattle.mac_keys.proofs.Spelling.{fields_spell, parted-space, name-spaceless}

-- what a fault of a line by itself says
abbrev pub HasFault : List ℕ → LineFault → Type 0
HasFault line BadLine = IsBadLine line
HasFault line BadName = HasBadName line
HasFault line EmptySecret = HasEmptySecret line
HasFault line BadHex = HasBadHex line
HasFault line Twice = ⊥
HasFault line TooMany = ⊥

-- ---- a fault that is found, the line has

space_within : (front back : List ℕ) → position_or_len (λ b. b == 32) (front ++ 32 ∷ back) < length (front ++ 32 ∷ back)
space_within [] back = omega arith
space_within (b ∷ front) back =
    elim (b == 32) as (λ t. cond (not t) (1 + position_or_len (λ x. x == 32) (front ++ 32 ∷ back)) 0 < length (b ∷ (front ++ 32 ∷ back))) [
      | true ↦ omega arith
      | false ↦ omega (arith, space_within front back)
    ]

-- where there is a space, the text is parted
is_parted : (front back : List ℕ) → parted (front ++ 32 ∷ back) ≢ None
is_parted front back none =
    let text = front ++ 32 ∷ back in
    let at = position_or_len (λ b. b == 32) text in
    let within : nat_lt at (length text) ≡ true = let less = space_within front back in grind (arith, nat_tests) in
    let some : parted text ≡ Some (take at text, drop (at + 1) text) =
    ap (λ b. option_map {U = List ℕ × List ℕ} (λ space. (take space text, drop (space + 1) text)) (cond b (Some at) None)) within in
    cc

no_space_before : (rest : List ℕ) (at : ℕ) → position (λ b. b == 32) rest ≡ Some at → ¬ Contains (take at rest) 32
no_space_before rest at is (k, within, here) =
    let (inside, there, before) = position-Some (λ b. b == 32) rest at 32 is in
    let less : k < at = omega (arith, length-take at rest) in
    let none : (32 == 32) ≡ false = ap (λ b. b == 32) (sym (sym (get_or-take at rest k 32 less) ∙ here)) ∙ before k less in
    cc

first_spaceless : (rest : List ℕ) (space : Option ℕ) (fields : List ℕ × List ℕ) → position (λ b. b == 32) rest ≡ space
    → option_map {U = List ℕ × List ℕ} (λ at. (take at rest, drop (at + 1) rest)) space ≡ Some fields → ¬ Contains fields.0 32
first_spaceless rest None fields is e = cc
first_spaceless rest (Some at) fields is e =
    let parts : ◌≡◌ {A = List ℕ × List ℕ} (take at rest, drop (at + 1) rest) fields = cc in
    subst (λ (p : List ℕ × List ℕ). ¬ Contains p.0 32) parts (no_space_before rest at is)

fields_spaceless : (line : List ℕ) (fields : List ℕ × List ℕ) → fields_of line ≡ Some fields → ¬ Contains fields.0 32
fields_spaceless line fields e =
    elim (starts_with nat_eq line (codes "key ")) as (λ b. cond b (parted (drop 4 line)) None ≡ Some fields → ¬ Contains fields.0 32) [
      | true ↦ λ found. first_spaceless (drop 4 line) (position (λ b. b == 32) (drop 4 line)) fields refl found
      | false ↦ λ none. cc
    ] e

no_fields_found : (line : List ℕ) → is_ignored line ≡ false → fields_of line ≡ None → IsBadLine line
no_fields_found line counts none = record {
  some = λ e. let ignored : is_ignored line ≡ true = ap is_ignored e in cc;
  no_comment = λ rest e. let ignored : is_ignored line ≡ true = ap is_ignored e in cc;
  form = λ name rest e. is_parted name rest (sym (ap fields_of e) ∙ none);
}

empty : (digits : List ℕ) → (length digits == 0) ≡ true → digits ≡ []
empty [] e = refl
empty (d ∷ digits) e = let none : length (d ∷ digits) ≡ 0 = eqb-true _ 0 e in absurd (omega arith)

hex_found : (line name digits : List ℕ) (fault : LineFault) (bytes : Result (List ℕ) FromHexError) → line ≡ codes "key " ++ name ++ 32 ∷ digits → is_name name ≡ true → 0 < length digits
    → decode_of digits ≡ bytes → given name (bytes_or_fault bytes) ≡ Err fault → HasFault line fault
hex_found line name digits fault (Ok secret) form named some is e = cc
hex_found line name digits fault (Err why) form named some is e =
    let same : BadHex ≡ fault = cc in
    subst (λ (f : LineFault). HasFault line f) same (record {
      name = name;
      digits = digits;
      form = form;
      named = named;
      some = some;
      bad = λ secret good. cc;
    })

secret_found : (line name digits : List ℕ) (fault : LineFault) → line ≡ codes "key " ++ name ++ 32 ∷ digits → is_name name ≡ true
    → given name (secret_of digits) ≡ Err fault → HasFault line fault
secret_found line name digits fault form named e =
    elim (length digits == 0) as (λ b. (length digits == 0) ≡ b → given name (cond b (Err EmptySecret) (bytes_or_fault (decode_of digits))) ≡ Err fault → HasFault line fault) [
      | true ↦ λ none found.
          let same : EmptySecret ≡ fault = cc in
          subst (λ (f : LineFault). HasFault line f) same (record {
            name = name;
            form = form ∙ ap (λ d. codes "key " ++ name ++ 32 ∷ d) (empty digits none);
            named = named;
          })
      | false ↦ λ more found. hex_found line name digits fault (decode_of digits) form named (grind (arith, nat_tests)) refl found
    ] refl e

fields_found : (line : List ℕ) (fields : Option (List ℕ × List ℕ)) (fault : LineFault) → is_ignored line ≡ false → fields_of line ≡ fields → said_by fields ≡ Err fault → HasFault line fault
fields_found line None fault counts is e =
    let same : BadLine ≡ fault = cc in
    subst (λ (f : LineFault). HasFault line f) same (no_fields_found line counts is)
fields_found line (Some fields) fault counts is e =
    elim (is_name fields.0) as (λ b. is_name fields.0 ≡ b → cond b (given fields.0 (secret_of fields.1)) (Err BadName) ≡ Err fault → HasFault line fault) [
      | true ↦ λ named found. secret_found line fields.0 fields.1 fault (fields_spell line fields is) named found
      | false ↦ λ other found.
          let same : BadName ≡ fault = cc in
          subst (λ (f : LineFault). HasFault line f) same (record {
            name = fields.0;
            rest = fields.1;
            form = fields_spell line fields is;
            next = fields_spaceless line fields is;
            bad = λ named. cc;
          })
    ] refl e

pub HasFault-from_line : (line : List ℕ) (fault : LineFault) → line_of line ≡ Err fault → HasFault line fault
HasFault-from_line line fault e =
    elim (is_ignored line) as (λ b. is_ignored line ≡ b → cond b (Ok None) (said_by (fields_of line)) ≡ Err fault → HasFault line fault) [
      | true ↦ λ nothing found. cc
      | false ↦ λ counts found. fields_found line (fields_of line) fault counts refl found
    ] refl e

-- ---- a fault that the line has, is found

counted : (line : List ℕ) → IsBadLine line → is_ignored line ≡ false
counted [] bad = absurd (bad.some refl)
counted (b ∷ rest) bad =
    elim (b == 35) as (λ t. (b == 35) ≡ t → t ≡ false) [
      | true ↦ λ comment. absurd (bad.no_comment rest (ap (λ first. first ∷ rest) (eqb-true b 35 comment)))
      | false ↦ λ other. refl
    ] refl

no_fields : (line : List ℕ) → IsBadLine line → fields_of line ≡ None
no_fields line bad =
    elim (fields_of line) as (λ found. fields_of line ≡ found → found ≡ None) [
      | None ↦ λ none. refl
      | Some fields ↦ λ is. absurd (bad.form fields.0 fields.1 (fields_spell line fields is))
    ] refl

not_true : (b : Bool) → b ≢ true → b ≡ false
not_true true untrue = absurd (untrue refl)
not_true false _ = refl

no_bytes : (digits : List ℕ) (bytes : Result (List ℕ) FromHexError) → ((secret : List ℕ) → bytes ≢ Ok secret) → bytes_or_fault bytes ≡ Err BadHex
no_bytes digits (Ok secret) bad = absurd (bad secret refl)
no_bytes digits (Err why) bad = refl

pub line_of-fault : (line : List ℕ) (fault : LineFault) → HasFault line fault → line_of line ≡ Err fault
line_of-fault line BadLine bad =
    ap (λ b. cond b (Ok None) (said_by (fields_of line))) (counted line bad)
    ∙ ap said_by (no_fields line bad)
line_of-fault line BadName bad =
    ap line_of bad.form
    ∙ ap said_by (parted-space bad.name bad.rest bad.next)
    ∙ ap (λ b. cond b (given bad.name (secret_of bad.rest)) (Err BadName)) (not_true (is_name bad.name) bad.bad)
line_of-fault line EmptySecret bad =
    ap line_of bad.form
    ∙ ap said_by (parted-space bad.name [] (name-spaceless bad.name bad.named))
    ∙ ap (λ b. cond b (given bad.name (secret_of [])) (Err BadName)) bad.named
line_of-fault line BadHex bad =
    let more : (length bad.digits == 0) ≡ false = let some = bad.some in grind (arith, nat_tests) in
    ap line_of bad.form
    ∙ ap said_by (parted-space bad.name bad.digits (name-spaceless bad.name bad.named))
    ∙ ap (λ b. cond b (given bad.name (secret_of bad.digits)) (Err BadName)) bad.named
    ∙ ap (λ b. given bad.name (cond b (Err EmptySecret) (bytes_or_fault (decode_of bad.digits)))) more
    ∙ ap (given bad.name) (no_bytes bad.digits (decode_of bad.digits) bad.bad)
line_of-fault line Twice bad = absurd bad
line_of-fault line TooMany bad = absurd bad
