-- A line that gives a name a secret spells both, and the other way round.
use Rattle.std.proofs.Common.{◌≡◌, ℕ, zero, suc, ◌+◌, ◌<◌, ◌==◌, true, false, not, ◌&&◌, cond, List, [], ◌∷◌, ◌++◌, length, take, drop, codes, Option, Some, None, Result, Ok, Err, option_map, refl, sym, ap, ◌∙◌, arith, length-append}
use Rattle.std.proofs.lemmas.List.{drop_more, take-append-drop}
use Rattle.std.proofs.lemmas.List.Quantifiers.{position-Some}
use Rattle.std.proofs.lemmas.Slice.Eq.{starts_is}
use Rattle.std.proofs.lemmas.Bool.{eqb-true}
use Rattle.std.proofs.lemmas.Bool.Decides.{Decides-eqb, nat_tests}
use Rattle.std.proofs.Math.Seq.{take-append_seam, drop-append-add}
use Rattle.std.specs.Prelude.{position, nat_eq, nat_lt, nat_le}
use Rattle.std.specs.List.{list_all, starts_with, position_or_len, Contains}
use Rattle.hex.specs.Hex.{decode_of}
use Rattle.hex.specs.declared.error.FromHexError.{FromHexError}
use Rattle.mac_keys.specs.declared.line.TheConstants.{NAME_MAX}
use Rattle.mac_keys.specs.declared.fault.LineFault.{LineFault}
use Rattle.mac_keys.specs.declared.fault.LineFault.TheVariants.{BadName, EmptySecret}
use Rattle.mac_keys.specs.Line.{Given, is_ignored, is_name_byte, is_name, parted, fields_of, bytes_or_fault, secret_of, given, said_by, line_of}
use Rattle.mac_keys.specs.Meaning.{Spells}

-- ---- what a line gives, it spells

parted_spells : (rest : List ℕ) (space : Option ℕ) (fields : List ℕ × List ℕ) → position (λ b. b == 32) rest ≡ space
    → option_map {U = List ℕ × List ℕ} (λ at. (take at rest, drop (at + 1) rest)) space ≡ Some fields → rest ≡ fields.0 ++ 32 ∷ fields.1
parted_spells rest None fields is e = cc
parted_spells rest (Some at) fields is e =
    let (within, here, before) = position-Some (λ b. b == 32) rest at 0 is in
    let parts : ◌≡◌ {A = List ℕ × List ℕ} (take at rest, drop (at + 1) rest) fields = cc in
    sym (take-append-drop at rest)
    ∙ ap (λ back. take at rest ++ back) (drop_more rest at 0 within ∙ ap (λ b. b ∷ drop (at + 1) rest) (eqb-true _ _ here))
    ∙ ap (λ p. p.0 ++ 32 ∷ p.1) parts

pub fields_spell : (line : List ℕ) (fields : List ℕ × List ℕ) → fields_of line ≡ Some fields → line ≡ codes "key " ++ fields.0 ++ 32 ∷ fields.1
fields_spell line fields e =
    elim (starts_with nat_eq line (codes "key ")) as (λ b. starts_with nat_eq line (codes "key ") ≡ b → cond b (parted (drop 4 line)) None ≡ Some fields → line ≡ codes "key " ++ fields.0 ++ 32 ∷ fields.1) [
      | true ↦ λ starts found.
          (starts_is Decides-eqb line (codes "key ") (starts_with nat_eq line (codes "key ")) refl).0 starts
          ∙ ap (λ rest. codes "key " ++ rest) (parted_spells (drop 4 line) (position (λ b. b == 32) (drop 4 line)) fields refl found)
      | false ↦ λ other none. cc
    ] refl e

decoded : (digits secret : List ℕ) (bytes : Result (List ℕ) FromHexError) → decode_of digits ≡ bytes → bytes_or_fault bytes ≡ Ok secret → decode_of digits ≡ Ok secret
decoded digits secret (Ok found) is e = is ∙ cc
decoded digits secret (Err why) is e = cc

secret_spelled : (digits secret : List ℕ) → secret_of digits ≡ Ok secret → (0 < length digits) × (decode_of digits ≡ Ok secret)
secret_spelled digits secret e =
    elim (length digits == 0) as (λ b. (length digits == 0) ≡ b → cond b (Err EmptySecret) (bytes_or_fault (decode_of digits)) ≡ Ok secret → (0 < length digits) × (decode_of digits ≡ Ok secret)) [
      | true ↦ λ empty none. cc
      | false ↦ λ some found. (grind (arith, nat_tests), decoded digits secret (decode_of digits) refl found)
    ] refl e

given_spelled : (name : List ℕ) (secret : Result (List ℕ) LineFault) (g : Given) → given name secret ≡ Ok (Some g) → (name ≡ g.name) × (secret ≡ Ok g.secret)
given_spelled name (Ok secret) g e =
    let same : ◌≡◌ {A = Given} (record { name = name; secret = secret }) g = cc in
    (ap (λ h. h.name) same, ap (λ h. Ok h.secret) same)
given_spelled name (Err fault) g e = cc

said_spells : (line : List ℕ) (found : Option (List ℕ × List ℕ)) (g : Given) → fields_of line ≡ found → said_by found ≡ Ok (Some g) → Spells line g
said_spells line None g is e = cc
said_spells line (Some fields) g is e =
    elim (is_name fields.0) as (λ b. is_name fields.0 ≡ b → cond b (given fields.0 (secret_of fields.1)) (Err BadName) ≡ Ok (Some g) → Spells line g) [
      | true ↦ λ named found.
          let (same, secret) = given_spelled fields.0 (secret_of fields.1) g found in
          let (some, bytes) = secret_spelled fields.1 g.secret secret in
          record {
            digits = fields.1;
            form = fields_spell line fields is ∙ ap (λ name. codes "key " ++ name ++ 32 ∷ fields.1) same;
            name = ap is_name (sym same) ∙ named;
            secret = bytes;
            some = some;
          }
      | false ↦ λ other none. cc
    ] refl e

pub Spells-from_line : (line : List ℕ) (g : Given) → line_of line ≡ Ok (Some g) → Spells line g
Spells-from_line line g e =
    elim (is_ignored line) as (λ b. cond b (Ok None) (said_by (fields_of line)) ≡ Ok (Some g) → Spells line g) [
      | true ↦ λ nothing. cc
      | false ↦ λ said. said_spells line (fields_of line) g refl said
    ] e

-- ---- what is spelled so, a line gives

all_named : (b : ℕ) (name : List ℕ) → list_all is_name_byte (b ∷ name) ≡ true → (is_name_byte b ≡ true) × (list_all is_name_byte name ≡ true)
all_named b name named =
    elim (is_name_byte b) as (λ t. (t && list_all is_name_byte name) ≡ true → (t ≡ true) × (list_all is_name_byte name ≡ true)) [
      | true ↦ λ rest. (refl, rest)
      | false ↦ λ no. cc
    ] named

-- no byte of a name is a space
named-spaceless : (name : List ℕ) → list_all is_name_byte name ≡ true → ¬ Contains name 32
named-spaceless [] named (k, within, is) = absurd (omega arith)
named-spaceless (b ∷ name) named (zero, within, is) = let no : is_name_byte 32 ≡ true = ap is_name_byte (sym is) ∙ (all_named b name named).0 in cc
named-spaceless (b ∷ name) named (suc k, within, is) = named-spaceless name (all_named b name named).1 (k, omega arith, is)

rest-spaceless : (b : ℕ) (front : List ℕ) → ¬ Contains (b ∷ front) 32 → ¬ Contains front 32
rest-spaceless b front none (k, within, is) = none (suc k, omega arith, is)

-- the first space is the one behind bytes that are none
first_space : (front back : List ℕ) → ¬ Contains front 32 → position_or_len (λ b. b == 32) (front ++ 32 ∷ back) ≡ length front
first_space [] back none = refl
first_space (b ∷ front) back none =
    elim (b == 32) as (λ t. (b == 32) ≡ t → cond (not t) (1 + position_or_len (λ x. x == 32) (front ++ 32 ∷ back)) 0 ≡ suc (length front)) [
      | true ↦ λ space. absurd (none (0, omega arith, eqb-true b 32 space))
      | false ↦ λ other. omega (arith, first_space front back (rest-spaceless b front none))
    ] refl

pub parted-space : (front back : List ℕ) → ¬ Contains front 32 → parted (front ++ 32 ∷ back) ≡ Some (front, back)
parted-space front back none =
    let text = front ++ 32 ∷ back in
    let at : Option ℕ → Option (List ℕ × List ℕ) = λ found. option_map {U = List ℕ × List ℕ} (λ space. (take space text, drop (space + 1) text)) found in
    let some : List ℕ × List ℕ → Option (List ℕ × List ℕ) = λ parts. Some parts in
    let within : nat_lt (length front) (length text) ≡ true = let longer : length front < length text = omega (arith, length-append front (32 ∷ back)) in grind (arith, nat_tests) in
    ap (λ n. at (cond (nat_lt n (length text)) (Some n) None)) (first_space front back none)
    ∙ ap (λ b. at (cond b (Some (length front)) None)) within
    ∙ ap (λ n. some (n, drop (length front + 1) text)) (take-append_seam front (32 ∷ back))
    ∙ ap (λ d. some (front, d)) (drop-append-add front (32 ∷ back) 1)

pub name-spaceless : (name : List ℕ) → is_name name ≡ true → ¬ Contains name 32
name-spaceless name named =
    elim (nat_le 1 (length name) && nat_le (length name) NAME_MAX) as (λ t. (t && list_all is_name_byte name) ≡ true → ¬ Contains name 32) [
      | true ↦ λ bytes. named-spaceless name bytes
      | false ↦ λ no. cc
    ] named

secret_from_digits : (digits secret : List ℕ) → 0 < length digits → decode_of digits ≡ Ok secret → secret_of digits ≡ Ok secret
secret_from_digits digits secret some bytes =
    let test : (length digits == 0) ≡ false = grind (arith, nat_tests) in
    ap (λ b. cond b (Err EmptySecret) (bytes_or_fault (decode_of digits))) test ∙ ap bytes_or_fault bytes

pub line_of-spelled : (line : List ℕ) (g : Given) → Spells line g → line_of line ≡ Ok (Some g)
line_of-spelled line g s =
    ap line_of s.form
    ∙ ap said_by (parted-space g.name s.digits (name-spaceless g.name s.name))
    ∙ ap (λ b. cond b (given g.name (secret_of s.digits)) (Err BadName)) s.name
    ∙ ap (given g.name) (secret_from_digits s.digits g.secret s.some s.secret)
