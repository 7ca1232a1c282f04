-- How much of a value fits, and how long fields are.
use Rattle.std.proofs.Common.{◌≡◌, ℕ, zero, suc, ◌+◌, ◌-◌, ◌<◌, ◌≤◌, true, false, cond, List, [], ◌∷◌, ◌++◌, length, take, refl, sym, ap, ◌∙◌, arith, length-append, add-one}
use Rattle.std.specs.Prelude.{nat_lt}
use Rattle.std.proofs.lemmas.List.{take_all}
use Rattle.hex.specs.Hex.{encode_lower, encode_with}
use Rattle.std.proofs.lemmas.Bool.Decides.{nat_tests}
use Rattle.mac_log.specs.declared.fields.TheConstants.{FIELDS_MAX, FIELDS_ROOM}
use Rattle.mac_log.specs.declared.key.Key.{Key}
use Rattle.mac_log.specs.declared.key.Key.TheVariants as key
use Rattle.mac_log.specs.Key.{key_word}
use Rattle.mac_log.specs.Value.{escaped, escaped_byte, is_bare, is_shown, value_text}
use Rattle.mac_log.specs.Fields.{cut_field, field_text, fitting, value_room}

-- a byte fits
pub fits-more : (room b : ℕ) (value : List ℕ) → length (escaped_byte b) < room → fitting room (b ∷ value) ≡ suc (fitting (room - length (escaped_byte b)) value)
fits-more room b value room_left =
    let t : nat_lt (length (escaped_byte b)) room ≡ true = grind (arith, nat_tests) in
    ap (λ t. cond t (suc (fitting (room - length (escaped_byte b)) value)) 0) t

-- none does
pub fits-none : (room b : ℕ) (value : List ℕ) → room ≤ length (escaped_byte b) → fitting room (b ∷ value) ≡ 0
fits-none room b value full =
    let t : nat_lt (length (escaped_byte b)) room ≡ false = grind (arith, nat_tests) in
    ap (λ t. cond t (suc (fitting (room - length (escaped_byte b)) value)) 0) t

escaped-cons : (b : ℕ) (value : List ℕ) → length (escaped (b ∷ value)) ≡ length (escaped_byte b) + length (escaped value)
escaped-cons b value = length-append (escaped_byte b) (escaped value)

-- what fits is shorter than its room
pub fitting-short : (room : ℕ) (value : List ℕ) → 0 < room → length (escaped (take (fitting room value) value)) < room
fitting-short room [] some = some
fitting-short room (b ∷ value) some =
    elim (nat_lt (length (escaped_byte b)) room) as (λ t. nat_lt (length (escaped_byte b)) room ≡ t → length (escaped (take (fitting room (b ∷ value)) (b ∷ value))) < room) [
      | true ↦ λ test.
          let less : length (escaped_byte b) < room = grind (arith, nat_tests) in
          let left : 0 < room - length (escaped_byte b) = omega arith in
          let ih = fitting-short (room - length (escaped_byte b)) value left in
          let size = escaped-cons b (take (fitting (room - length (escaped_byte b)) value) value) in
          let whole : length (escaped (take (suc (fitting (room - length (escaped_byte b)) value)) (b ∷ value))) < room = omega arith in
          rw (fits-more room b value less) whole
      | false ↦ λ test.
          let full : room ≤ length (escaped_byte b) = grind (arith, nat_tests) in
          rw (fits-none room b value full) some
    ] refl

-- and one byte more is not
fitting-next : (room : ℕ) (value : List ℕ) → fitting room value < length value → room ≤ length (escaped (take (suc (fitting room value)) value))
fitting-next room [] less = absurd (omega arith)
fitting-next room (b ∷ value) less =
    elim (nat_lt (length (escaped_byte b)) room) as (λ t. nat_lt (length (escaped_byte b)) room ≡ t → room ≤ length (escaped (take (suc (fitting room (b ∷ value))) (b ∷ value)))) [
      | true ↦ λ test.
          let fits : length (escaped_byte b) < room = grind (arith, nat_tests) in
          let step = fits-more room b value fits in
          let below : fitting (room - length (escaped_byte b)) value < length value = omega arith in
          let ih = fitting-next (room - length (escaped_byte b)) value below in
          let size = escaped-cons b (take (suc (fitting (room - length (escaped_byte b)) value)) value) in
          let whole : room ≤ length (escaped (take (suc (suc (fitting (room - length (escaped_byte b)) value))) (b ∷ value))) = omega arith in
          rw step whole
      | false ↦ λ test.
          let full : room ≤ length (escaped_byte b) = grind (arith, nat_tests) in
          let size = escaped-cons b [] in
          let whole : room ≤ length (escaped (take (suc 0) (b ∷ value))) = omega arith in
          rw (fits-none room b value full) whole
    ] refl

pub fitting-most : (room : ℕ) (value : List ℕ) → fitting room value < length value → room ≤ length (escaped (take (fitting room value + 1) value))
fitting-most room value less = rw add-one (fitting-next room value less)

-- nothing fits no room
front-none : (value : List ℕ) → fitting 0 value ≡ 0
front-none [] = refl
front-none (b ∷ value) = fits-none 0 b value (omega arith)

pub front-short : (room : ℕ) (value : List ℕ) → length (escaped (take (fitting room value) value)) ≤ room
front-short zero value = rw (front-none value) (omega arith)
front-short (suc room) value =
    let short = fitting-short (suc room) value (omega arith) in
    omega arith

-- a byte that isn't shown takes four
pub hidden-size : (b : ℕ) → is_shown b ≡ false → 4 ≡ length (escaped_byte b)
unfolding encode_with
hidden-size b hidden = sym (ap (λ t. length (cond t (b ∷ []) (92 ∷ 120 ∷ encode_lower (b ∷ [])))) hidden)

-- a byte is at least one
shown-size : (b : ℕ) → 1 ≤ length (escaped_byte b)
shown-size b =
    elim (is_shown b) as (λ t. 1 ≤ length (cond t (b ∷ []) (92 ∷ 120 ∷ encode_lower (b ∷ [])))) [
      | true ↦ omega arith
      | false ↦ omega arith
    ]

escaped-long : (value : List ℕ) → length value ≤ length (escaped value)
escaped-long [] = omega arith
escaped-long (b ∷ value) =
    let one = shown-size b in
    let ih = escaped-long value in
    let size = escaped-cons b value in
    omega arith

-- a value is two quotation marks longer than its escaped bytes at most
value-short : (value : List ℕ) → length (value_text value) ≤ length (escaped value) + 2
value-short value =
    elim (is_bare value) as (λ t. length (cond t value (34 ∷ (escaped value ++ 34 ∷ []))) ≤ length (escaped value) + 2) [
      | true ↦ let long = escaped-long value in omega arith
      | false ↦ let size = length-append (escaped value) (34 ∷ []) in omega arith
    ]

key-short : (k : Key) → length (key_word k) ≤ 11
key-short key.Version = omega arith
key-short key.Socket = omega arith
key-short key.File = omega arith
key-short key.Names = omega arith
key-short key.Workers = omega arith
key-short key.Connection = omega arith
key-short key.Connections = omega arith
key-short key.Millis = omega arith
key-short key.Requests = omega arith
key-short key.Fault = omega arith
key-short key.Pid = omega arith
key-short key.Uid = omega arith
key-short key.Kind = omega arith
key-short key.Count = omega arith
key-short key.Limit = omega arith
key-short key.Value = omega arith
key-short key.Cause = omega arith
key-short key.Asks = omega arith
key-short key.Name = omega arith
key-short key.Identifier = omega arith
key-short key.Id = omega arith
key-short key.Verdict = omega arith
key-short key.Code = omega arith
key-short key.Caveat = omega arith
key-short key.Status = omega arith
key-short key.Unsent = omega arith
key-short key.Form = omega arith
key-short key.Memory = omega arith

-- a field that fits stays within the room of all
pub whole-short : (text : List ℕ) (k : Key) (value : List ℕ) → 0 < value_room text k → fitting (value_room text k) value ≡ length value → length (text ++ field_text k value) ≤ FIELDS_ROOM
whole-short text k value some all =
    let short = fitting-short (value_room text k) value some in
    let same : take (fitting (value_room text k) value) value ≡ value = ap (λ n. take n value) all ∙ take_all (length value) value (omega arith) in
    let less : length (escaped value) < value_room text k = rw same at short in
    let valued = value-short value in
    let keyed = length-append (key_word k) (61 ∷ value_text value) in
    let whole = length-append text (field_text k value) in
    omega arith

-- one that is cut stays within the bytes of all
pub cut-short : (text : List ℕ) (k : Key) (value : List ℕ) → length text ≤ FIELDS_ROOM → length (text ++ cut_field k (take (fitting (value_room text k) value) value)) ≤ FIELDS_MAX
cut-short text k value within =
    let front = take (fitting (value_room text k) value) value in
    let named = key-short k in
    let short : length (escaped front) ≤ value_room text k = front-short (value_room text k) value in
    let ended = length-append (escaped front) (34 ∷ 32 ∷ 46 ∷ 46 ∷ 46 ∷ []) in
    let keyed = length-append (key_word k) (61 ∷ 34 ∷ (escaped front ++ 34 ∷ 32 ∷ 46 ∷ 46 ∷ 46 ∷ [])) in
    let whole = length-append text (cut_field k front) in
    omega arith
