-- What the line of a name says as a key file.
use Rattle.std.proofs.Common.{◌≡◌, ℕ, zero, suc, ◌<◌, ◌/◌, ◌%◌, ◌==◌, true, false, ◌&&◌, List, [], ◌∷◌, ◌++◌, length, codes, Some, None, Ok, option_map, refl, sym, ap, ◌∙◌, arith, append_assoc}
use Rattle.std.specs.List.{list_all, AllByRecursion, cons_option, onto_first}
use Rattle.std.specs.Prelude.{slice_index, nat_le}
use Rattle.std.specs.FinMap as map
use Rattle.std.specs.FinMap.{from_entries}
use Rattle.std.proofs.lemmas.Bool.{eqb-true}
use Rattle.std.proofs.lemmas.List.Splits.{slice_split-cons_no}
use Rattle.hex.specs.Hex.{encode_with, encode_lower, lower_digits, IsBytes}
use Rattle.hex.proofs.HexLemmas.{decode_of-encode_lower, length-encode_with}
use Rattle.mac_hmac.specs.Chain.{root_of}
use Rattle.mac_keys.specs.declared.keys.Keys.{Keys}
use Rattle.mac_keys.specs.declared.line.TheConstants.{NAME_MAX}
use Rattle.mac_keys.specs.Change.{IsKeyLine}
use Rattle.mac_keys.specs.Line.{is_name, is_name_byte, line_of}
use Rattle.mac_keys.specs.Table.{is_line_feed, lines_of, first_two, entry_said, keys_of, fault_of_keys, fault_below, faults_of, table_or_first, table_of}
use Rattle.mac_keys.specs.Meaning.{AreFaultless}
use Rattle.mac_keys.proofs.FaultLemmas.{fault_of_keys-room}
use Rattle.mac_keys.proofs.FileMeaning.{made_of_faultless}
use Rattle.mac_keys.proofs.KeyMeaning.{get-keys_of, said_first}
use Rattle.mac_keys.proofs.Names.{order}
use Rattle.mac_keys.proofs.Spelling.{line_of-spelled}
use Rattle.mac_words.specs.KeyLine.{key_text, only_key}

-- ---- no line feed stands in the line

abbrev IsOther : ℕ → Type 0
IsOther b = is_line_feed b ≡ false

others-append : (a b : List ℕ) → AllByRecursion IsOther a → AllByRecursion IsOther b → AllByRecursion IsOther (a ++ b)
others-append [] b none free = free
others-append (x ∷ a) b (here, rest) free = (here, others-append a b rest free)

other-name_byte : (b : ℕ) → is_name_byte b ≡ true → IsOther b
other-name_byte b named =
    elim (b == 10) as (λ t. (b == 10) ≡ t → t ≡ false) [
      | true ↦ λ feed. let no : is_name_byte 10 ≡ true = ap is_name_byte (sym (eqb-true b 10 feed)) ∙ named in cc
      | false ↦ λ other. refl
    ] refl

all_named : (b : ℕ) (name : List ℕ) → list_all is_name_byte (b ∷ name) ≡ true → (is_name_byte b ≡ true) × (list_all is_name_byte name ≡ true)
all_named b name named =
    elim (is_name_byte b) as (λ t. (t && list_all is_name_byte name) ≡ true → (t ≡ true) × (list_all is_name_byte name ≡ true)) [
      | true ↦ λ rest. (refl, rest)
      | false ↦ λ no. cc
    ] named

others-bytes : (name : List ℕ) → list_all is_name_byte name ≡ true → AllByRecursion IsOther name
others-bytes [] named = tt
others-bytes (b ∷ name) named = let parts = all_named b name named in (other-name_byte b parts.0, others-bytes name parts.1)

others-name : (name : List ℕ) → is_name name ≡ true → AllByRecursion IsOther name
others-name name named =
    elim (nat_le 1 (length name) && nat_le (length name) NAME_MAX) as (λ t. (t && list_all is_name_byte name) ≡ true → AllByRecursion IsOther name) [
      | true ↦ λ bytes. others-bytes name bytes
      | false ↦ λ no. cc
    ] named

other-at : (t : List ℕ) (n : ℕ) → AllByRecursion IsOther t → IsOther (slice_index t n)
other-at [] n free = refl
other-at (x ∷ t) zero free = free.0
other-at (x ∷ t) (suc n) free = other-at t n free.1

others-digits : (t secret : List ℕ) → AllByRecursion IsOther t → AllByRecursion IsOther (encode_with t secret)
unfolding encode_with
others-digits t [] free = tt
others-digits t (b ∷ secret) free = (other-at t (b / 16) free, (other-at t (b % 16) free, others-digits t secret free))

others-lower : AllByRecursion IsOther lower_digits
others-lower = (refl, (refl, (refl, (refl, (refl, (refl, (refl, (refl, (refl, (refl, (refl, (refl, (refl, (refl, (refl, (refl, tt))))))))))))))))

-- the line without its feed
abbrev front : List ℕ → List ℕ → List ℕ
front name secret = codes "key " ++ (name ++ 32 ∷ encode_lower secret)

others-front : (name secret : List ℕ) → is_name name ≡ true → AllByRecursion IsOther (front name secret)
others-front name secret named =
    others-append (codes "key ") (name ++ 32 ∷ encode_lower secret) (refl, (refl, (refl, (refl, tt))))
    (others-append name (32 ∷ encode_lower secret) (others-name name named)
    (refl, others-digits lower_digits secret others-lower))

-- ---- so it is one line, and an empty one behind it

lines-one : (line : List ℕ) → AllByRecursion IsOther line → lines_of (line ++ 10 ∷ []) ≡ line ∷ [] ∷ []
lines-one [] free = refl
lines-one (b ∷ line) free =
    slice_split-cons_no is_line_feed b (line ++ 10 ∷ []) free.0 ∙ ap (λ parts. onto_first b parts) (lines-one line free.1)

key_text-front : (name secret : List ℕ) → key_text name secret ≡ front name secret ++ 10 ∷ []
key_text-front name secret =
    ap (λ back. codes "key " ++ back) (sym (append_assoc name (32 ∷ encode_lower secret) (10 ∷ [])))
    ∙ sym (append_assoc (codes "key ") (name ++ 32 ∷ encode_lower secret) (10 ∷ []))

-- ---- which gives the name its secret

said_of : (name secret : List ℕ) → is_name name ≡ true → IsBytes secret → 0 < length secret
    → line_of (front name secret) ≡ Ok (Some (record { name = name; secret = secret }))
said_of name secret named bytes some = line_of-spelled (front name secret) (record { name = name; secret = secret }) (record {
  digits = encode_lower secret;
  form = refl;
  name = named;
  secret = decode_of-encode_lower secret bytes;
  some = omega (arith, length-encode_with lower_digits secret);
})

-- a name that is the first has no fault
new_name : (name : List ℕ) → fault_of_keys (map.len (keys_of [])) (map.get (keys_of []) name) ≡ None
new_name name =
    ap (fault_of_keys (map.len (keys_of []))) (get-keys_of [] name)
    ∙ ap (λ n. fault_of_keys n None) (map.len-empty order Keys) ∙ fault_of_keys-room 0 (omega arith)

module _ (name secret line : List ℕ) (said : line_of line ≡ Ok (Some (record { name = name; secret = secret }))) where
  abbrev both : List (List ℕ)
  both = line ∷ [] ∷ []

  entry : entry_said both (line_of line) ≡ Some (name, record { first = root_of secret; second = None })
  entry =
      ap (entry_said both) said
      ∙ ap (λ keys. option_map (λ k. (name, k)) (first_two keys)) (said_first name secret line [] said)

  keys-one : keys_of both ≡ only_key name (root_of secret)
  keys-one = ap (λ e. from_entries (cons_option e [])) entry

  none-faulty : AreFaultless both
  none-faulty zero l there =
      let same : line ≡ l = cc in
      ap (λ x. fault_below (keys_of []) (line_of x)) (sym same) ∙ ap (fault_below (keys_of [])) said ∙ new_name name
  none-faulty (suc zero) l there =
      let same : [] ≡ l = cc in
      ap (λ x. fault_below (keys_of (line ∷ [])) (line_of x)) (sym same)
  none-faulty (suc (suc place)) l there = cc

  table-one : table_or_first (keys_of both) (faults_of both) ≡ Ok (only_key name (root_of secret))
  table-one = made_of_faultless both (only_key name (root_of secret)) (none-faulty, sym keys-one)

-- as a key file the line gives the name the secret, and says nothing else
pub key_text-table : (name secret : List ℕ) → is_name name ≡ true → IsBytes secret → 0 < length secret
    → table_of (key_text name secret) ≡ Ok (only_key name (root_of secret))
key_text-table name secret named bytes some =
    let line = front name secret in
    let lines : lines_of (key_text name secret) ≡ line ∷ [] ∷ [] = ap lines_of (key_text-front name secret) ∙ lines-one line (others-front name secret named) in
    ap (λ ls. table_or_first (keys_of ls) (faults_of ls)) lines ∙ table-one name secret line (said_of name secret named bytes some)

-- ---- in another file

lines-first : (line rest : List ℕ) → AllByRecursion IsOther line → lines_of ((line ++ 10 ∷ []) ++ rest) ≡ line ∷ lines_of rest
lines-first [] rest free = refl
lines-first (b ∷ line) rest free =
    slice_split-cons_no is_line_feed b ((line ++ 10 ∷ []) ++ rest) free.0 ∙ ap (λ parts. onto_first b parts) (lines-first line rest free.1)

-- the line is one line of any file
pub key_text-line : (name secret : List ℕ) → is_name name ≡ true → IsBytes secret → 0 < length secret → IsKeyLine name secret (key_text name secret)
key_text-line name secret named bytes some = record {
  line = front name secret;
  alone = λ rest. ap (λ text. lines_of (text ++ rest)) (key_text-front name secret) ∙ lines-first (front name secret) rest (others-front name secret named);
  said = said_of name secret named bytes some;
}
