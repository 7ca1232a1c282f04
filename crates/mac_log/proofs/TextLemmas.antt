-- No value ends a line or passes for a key.
use Rattle.std.proofs.Common.{◌≡◌, ℕ, zero, suc, ◌+◌, ◌<◌, ◌≤◌, ◌/◌, ◌%◌, ◌==◌, Bool, true, false, not, ◌&&◌, cond, List, [], ◌∷◌, ◌++◌, length, take, refl, ap, ◌∙◌, arith}
use Rattle.std.specs.Prelude.{slice_index, nat_le}
use Rattle.std.specs.List.{All, count_by, list_all}
use Rattle.std.proofs.lemmas.Bool.{and_from, and_parts}
use Rattle.std.proofs.lemmas.Bool.Decides.{nat_tests}
use Rattle.std.proofs.lemmas.List.Elements.{All-head, All-tail, All-weaker}
use Rattle.std.proofs.lemmas.List.Folds.{list_all-append}
use Rattle.std.proofs.lemmas.List.Sums.{AllPass-from_list_all, sum_by-append, sum_by-cons}
use Rattle.hex.specs.Hex.{IsBytes, encode_lower, encode_with, lower_digits}
use Rattle.mac_log.specs.declared.key.Key.{Key}
use Rattle.mac_log.specs.declared.key.Key.TheVariants as key
use Rattle.mac_log.specs.declared.kind.Kind.{Kind}
use Rattle.mac_log.specs.declared.kind.Kind.TheVariants as kind
use Rattle.mac_log.specs.Key.{key_word}
use Rattle.mac_log.specs.Value.{escaped, escaped_byte, is_bare, is_bare_byte, is_shown, value_text}
use Rattle.mac_log.specs.Fields.{Field, FieldsText, cut_text, field_text, fitting, no_fields, told_fields, value_room, whole_text, with_field, with_fields, with_front}
use Rattle.mac_log.specs.Line.{kind_text}
use Rattle.mac_log.specs.Printed.{IsPrinted}
use Rattle.mac_log.proofs.CutLemmas.{each, each-front, told-whole}

abbrev is_printed : ℕ → Bool
is_printed byte = nat_le 32 byte && nat_le byte 126

-- printable, and no equals sign
abbrev is_safe : ℕ → Bool
is_safe byte = is_printed byte && not (byte == 61)

abbrev is_equals : ℕ → Bool
is_equals byte = byte == 61

abbrev AreSafe : List ℕ → Type 0
AreSafe bytes = list_all is_safe bytes ≡ true

abbrev ArePrinted : List ℕ → Type 0
ArePrinted bytes = list_all is_printed bytes ≡ true

safe-append : (a b : List ℕ) → AreSafe a → AreSafe b → AreSafe (a ++ b)
safe-append a b one two = list_all-append is_safe a b ∙ and_from (list_all is_safe a) (list_all is_safe b) one two

printed-append : (a b : List ℕ) → ArePrinted a → ArePrinted b → ArePrinted (a ++ b)
printed-append a b one two = list_all-append is_printed a b ∙ and_from (list_all is_printed a) (list_all is_printed b) one two

safe-shown : (b : ℕ) → is_shown b ≡ true → is_safe b ≡ true
safe-shown b shown =
    let p1 = and_parts (is_printed b && not (b == 34) && not (b == 61)) (not (b == 92)) shown in
    let p2 = and_parts (is_printed b && not (b == 34)) (not (b == 61)) p1.0 in
    let p3 = and_parts (is_printed b) (not (b == 34)) p2.0 in
    and_from (is_printed b) (not (b == 61)) p3.0 p2.1

safe-bare : (value : List ℕ) → list_all is_bare_byte value ≡ true → AreSafe value
safe-bare [] bare = refl
safe-bare (b ∷ value) bare =
    let parts = and_parts (is_bare_byte b) (list_all is_bare_byte value) bare in
    let shown = and_parts (not (b == 32)) (is_shown b) parts.0 in
    and_from (is_safe b) (list_all is_safe value) (safe-shown b shown.1) (safe-bare value parts.1)

safe-at : (t : List ℕ) (n : ℕ) → n < length t → AreSafe t → is_safe (slice_index t n) ≡ true
safe-at [] n within safe = absurd (omega arith)
safe-at (x ∷ t) zero within safe = (and_parts (is_safe x) (list_all is_safe t) safe).0
safe-at (x ∷ t) (suc n) within safe = safe-at t n (omega arith) (and_parts (is_safe x) (list_all is_safe t) safe).1

safe-digits : (b : ℕ) → b < 256 → AreSafe (encode_lower (b ∷ []))
unfolding encode_with
safe-digits b byte =
    let high : b / 16 < 16 = omega arith in
    let low : b % 16 < 16 = omega arith in
    and_from (is_safe (slice_index lower_digits (b / 16))) (is_safe (slice_index lower_digits (b % 16)) && true) (safe-at lower_digits (b / 16) high refl)
    (and_from (is_safe (slice_index lower_digits (b % 16))) true (safe-at lower_digits (b % 16) low refl) refl)

safe-byte : (b : ℕ) → b < 256 → AreSafe (escaped_byte b)
safe-byte b byte =
    elim (is_shown b) as (λ t. is_shown b ≡ t → AreSafe (cond t (b ∷ []) (92 ∷ 120 ∷ encode_lower (b ∷ [])))) [
      | true ↦ λ shown. and_from (is_safe b) true (safe-shown b shown) refl
      | false ↦ λ other. safe-digits b byte
    ] refl

safe-escaped : (value : List ℕ) → IsBytes value → AreSafe (escaped value)
safe-escaped [] bytes = refl
safe-escaped (b ∷ value) bytes =
    safe-append (escaped_byte b) (escaped value) (safe-byte b (bytes 0)) (safe-escaped value (λ i. bytes (suc i)))

safe-value : (value : List ℕ) → IsBytes value → AreSafe (value_text value)
safe-value value bytes =
    elim (is_bare value) as (λ t. is_bare value ≡ t → AreSafe (cond t value (34 ∷ (escaped value ++ 34 ∷ [])))) [
      | true ↦ λ bare. safe-bare value (and_parts (nat_le 1 (length value)) (list_all is_bare_byte value) bare).1
      | false ↦ λ other. safe-append (escaped value) (34 ∷ []) (safe-escaped value bytes) refl
    ] refl

safe-key : (k : Key) → AreSafe (key_word k)
safe-key key.Version = refl
safe-key key.Socket = refl
safe-key key.File = refl
safe-key key.Names = refl
safe-key key.Workers = refl
safe-key key.Connection = refl
safe-key key.Connections = refl
safe-key key.Millis = refl
safe-key key.Requests = refl
safe-key key.Fault = refl
safe-key key.Pid = refl
safe-key key.Uid = refl
safe-key key.Kind = refl
safe-key key.Count = refl
safe-key key.Limit = refl
safe-key key.Value = refl
safe-key key.Cause = refl
safe-key key.Asks = refl
safe-key key.Name = refl
safe-key key.Identifier = refl
safe-key key.Id = refl
safe-key key.Verdict = refl
safe-key key.Code = refl
safe-key key.Caveat = refl
safe-key key.Status = refl
safe-key key.Unsent = refl
safe-key key.Form = refl
safe-key key.Memory = refl

pub printed-kind_bytes : (k : Kind) → ArePrinted (kind_text k)
printed-kind_bytes kind.Start = refl
printed-kind_bytes kind.KeysRead = refl
printed-kind_bytes kind.KeysRefused = refl
printed-kind_bytes kind.RevokedRead = refl
printed-kind_bytes kind.RevokedRefused = refl
printed-kind_bytes kind.KeysEmpty = refl
printed-kind_bytes kind.ConnectionFault = refl
printed-kind_bytes kind.ConnectionIdle = refl
printed-kind_bytes kind.ConnectionDropped = refl
printed-kind_bytes kind.LimitReached = refl
printed-kind_bytes kind.LimitLow = refl
printed-kind_bytes kind.AcceptFault = refl
printed-kind_bytes kind.SystemFault = refl
printed-kind_bytes kind.Request = refl
printed-kind_bytes kind.Mint = refl
printed-kind_bytes kind.Replaced = refl
printed-kind_bytes kind.Drain = refl
printed-kind_bytes kind.End = refl
printed-kind_bytes kind.LeftOut = refl

printed-safe : (bytes : List ℕ) → AreSafe bytes → ArePrinted bytes
printed-safe [] safe = refl
printed-safe (b ∷ bytes) safe =
    let parts = and_parts (is_safe b) (list_all is_safe bytes) safe in
    let here = and_parts (is_printed b) (not (b == 61)) parts.0 in
    and_from (is_printed b) (list_all is_printed bytes) here.0 (printed-safe bytes parts.1)

printed-field : (field : Field) → IsBytes field.1 → ArePrinted (field_text field.0 field.1)
printed-field field bytes =
    printed-append (key_word field.0) (61 ∷ value_text field.1) (printed-safe (key_word field.0) (safe-key field.0))
    (printed-safe (value_text field.1) (safe-value field.1 bytes))

safe-front : (n : ℕ) (value : List ℕ) → IsBytes value → AreSafe (escaped (take n value))
safe-front zero value bytes = refl
safe-front (suc n) [] bytes = refl
safe-front (suc n) (b ∷ value) bytes =
    safe-append (escaped_byte b) (escaped (take n value)) (safe-byte b (bytes 0)) (safe-front n value (λ i. bytes (suc i)))

safe-cut : (n : ℕ) (value : List ℕ) → IsBytes value → AreSafe (34 ∷ (escaped (take n value) ++ 34 ∷ 32 ∷ 46 ∷ 46 ∷ 46 ∷ []))
safe-cut n value bytes = safe-append (34 ∷ escaped (take n value)) (34 ∷ 32 ∷ 46 ∷ 46 ∷ 46 ∷ []) (safe-front n value bytes) refl

printed-cut : (room : ℕ) (field : Field) → IsBytes field.1 → ArePrinted (cut_text room field.0 field.1)
printed-cut room field bytes =
    let n = fitting room field.1 in
    printed-append (key_word field.0) (61 ∷ 34 ∷ (escaped (take n field.1) ++ 34 ∷ 32 ∷ 46 ∷ 46 ∷ 46 ∷ [])) (printed-safe (key_word field.0) (safe-key field.0))
    (printed-safe (34 ∷ (escaped (take n field.1) ++ 34 ∷ 32 ∷ 46 ∷ 46 ∷ 46 ∷ [])) (safe-cut n field.1 bytes))

abbrev TextPrinted : FieldsText → Type 0
TextPrinted fields = ArePrinted fields.text

printed-behind : (before : FieldsText) (fields : List Field) → All (λ field. IsBytes field.1) fields → TextPrinted before → TextPrinted (with_fields before fields)
printed-behind before [] bytes is = is
printed-behind before (f ∷ fields) bytes is =
    let here = All-head (λ (field : Field). IsBytes field.1) f fields bytes in
    printed-behind (with_field before f.0 f.1) fields (All-tail (λ (field : Field). IsBytes field.1) f fields bytes)
    (each TextPrinted before f.0 f.1 is
    (λ uncut. printed-append before.text (field_text f.0 f.1) is (printed-field f here))
    (λ uncut. printed-append before.text (cut_text (value_room before.text f.0) f.0 f.1) is (printed-cut (value_room before.text f.0) f here)))

printed-byte : (b : ℕ) → is_printed b ≡ true → IsPrinted b
printed-byte b printed = (grind (arith, nat_tests), grind (arith, nat_tests))

all_printed : (bytes : List ℕ) → ArePrinted bytes → All IsPrinted bytes
all_printed bytes printed =
    All-weaker (λ b. is_printed b ≡ true) IsPrinted printed-byte bytes (AllPass-from_list_all is_printed bytes printed)

pub printed-fields : (fields : List Field) → All (λ field. IsBytes field.1) fields → All IsPrinted (told_fields fields).text
printed-fields fields bytes = all_printed (told_fields fields).text (printed-behind no_fields fields bytes refl)

bytes-front : (n : ℕ) (value : List ℕ) → IsBytes value → IsBytes (take n value)
bytes-front zero value bytes i = omega arith
bytes-front (suc n) [] bytes i = omega arith
bytes-front (suc n) (b ∷ value) bytes zero = bytes 0
bytes-front (suc n) (b ∷ value) bytes (suc i) = bytes-front n value (λ j. bytes (suc j)) i

pub printed-front : (fields : List Field) (k : Key) (most : ℕ) (value : List ℕ) → All (λ field. IsBytes field.1) fields → IsBytes value
    → All IsPrinted (with_front (told_fields fields) k most value).text
printed-front fields k most value bytes own =
    let before = told_fields fields in
    let is = printed-behind no_fields fields bytes refl in
    let short = take most value in
    all_printed (with_front before k most value).text
    (each-front TextPrinted before k most value
    (each TextPrinted before k value is
    (λ uncut. printed-append before.text (field_text k value) is (printed-field (k, value) own))
    (λ uncut. printed-append before.text (cut_text (value_room before.text k) k value) is (printed-cut (value_room before.text k) (k, value) own)))
    (printed-append before.text (cut_text (value_room before.text k) k short) is (printed-cut (value_room before.text k) (k, short) (bytes-front most value own))))

pub printed-kind : (k : Kind) → All IsPrinted (kind_text k)
printed-kind k = all_printed (kind_text k) (printed-kind_bytes k)

other : (b : ℕ) → is_safe b ≡ true → is_equals b ≡ false
other b safe =
    let no = (and_parts (is_printed b) (not (b == 61)) safe).1 in
    elim (b == 61) as (λ t. not t ≡ true → t ≡ false) [ true ↦ λ bad. cc | false ↦ λ ok. refl ] no

abbrev one : ℕ → ℕ
one b = cond (is_equals b) 1 0

count-safe : (bytes : List ℕ) → AreSafe bytes → count_by is_equals bytes ≡ 0
count-safe [] safe = refl
count-safe (b ∷ bytes) safe =
    let parts = and_parts (is_safe b) (list_all is_safe bytes) safe in
    let here : one b ≡ 0 = ap (λ t. cond t 1 0) (other b parts.0) in
    let rest : count_by is_equals bytes ≡ 0 = count-safe bytes parts.1 in
    let step : count_by is_equals (b ∷ bytes) ≡ one b + count_by is_equals bytes = sum_by-cons one b bytes in
    omega arith

count-field : (field : Field) → IsBytes field.1 → count_by is_equals (field_text field.0 field.1) ≡ 1
count-field field bytes =
    let k : count_by is_equals (key_word field.0) ≡ 0 = count-safe (key_word field.0) (safe-key field.0) in
    let v : count_by is_equals (value_text field.1) ≡ 0 = count-safe (value_text field.1) (safe-value field.1 bytes) in
    let both : count_by is_equals (key_word field.0 ++ 61 ∷ value_text field.1) ≡ count_by is_equals (key_word field.0) + count_by is_equals (61 ∷ value_text field.1)
    = sum_by-append one (key_word field.0) (61 ∷ value_text field.1) in
    let sign : count_by is_equals (61 ∷ value_text field.1) ≡ 1 + count_by is_equals (value_text field.1) = sum_by-cons one 61 (value_text field.1) in
    let space : count_by is_equals (field_text field.0 field.1) ≡ 0 + count_by is_equals (key_word field.0 ++ 61 ∷ value_text field.1) = sum_by-cons one 32 (key_word field.0 ++ 61 ∷ value_text field.1) in
    omega arith

count-cut : (room : ℕ) (field : Field) → IsBytes field.1 → count_by is_equals (cut_text room field.0 field.1) ≡ 1
count-cut room field bytes =
    let n = fitting room field.1 in
    let value = 34 ∷ (escaped (take n field.1) ++ 34 ∷ 32 ∷ 46 ∷ 46 ∷ 46 ∷ []) in
    let k : count_by is_equals (key_word field.0) ≡ 0 = count-safe (key_word field.0) (safe-key field.0) in
    let v : count_by is_equals value ≡ 0 = count-safe value (safe-cut n field.1 bytes) in
    let both : count_by is_equals (key_word field.0 ++ 61 ∷ value) ≡ count_by is_equals (key_word field.0) + count_by is_equals (61 ∷ value)
    = sum_by-append one (key_word field.0) (61 ∷ value) in
    let sign : count_by is_equals (61 ∷ value) ≡ 1 + count_by is_equals value = sum_by-cons one 61 value in
    let space : count_by is_equals (cut_text room field.0 field.1) ≡ 0 + count_by is_equals (key_word field.0 ++ 61 ∷ value) = sum_by-cons one 32 (key_word field.0 ++ 61 ∷ value) in
    omega arith

-- no more equals signs than so many
abbrev HasAtMost : ℕ → FieldsText → Type 0
HasAtMost n fields = count_by is_equals fields.text ≤ n

count-behind : (n : ℕ) (before : FieldsText) (fields : List Field) → All (λ field. IsBytes field.1) fields → HasAtMost n before → HasAtMost (n + length fields) (with_fields before fields)
count-behind n before [] bytes is = omega arith
count-behind n before (f ∷ fields) bytes is =
    let here = All-head (λ (field : Field). IsBytes field.1) f fields bytes in
    let next = each (HasAtMost (n + 1)) before f.0 f.1 (omega arith)
    (λ uncut. let more = sum_by-append one before.text (field_text f.0 f.1) in let this = count-field f here in omega arith)
    (λ uncut. let more = sum_by-append one before.text (cut_text (value_room before.text f.0) f.0 f.1) in let this = count-cut (value_room before.text f.0) f here in omega arith) in
    let ih = count-behind (n + 1) (with_field before f.0 f.1) fields (All-tail (λ (field : Field). IsBytes field.1) f fields bytes) next in
    omega arith

pub count-told : (fields : List Field) → All (λ field. IsBytes field.1) fields → count_by is_equals (told_fields fields).text ≤ length fields
count-told fields bytes = let at = count-behind 0 no_fields fields bytes (omega arith) in omega arith

pub count-front : (fields : List Field) (k : Key) (most : ℕ) (value : List ℕ) → All (λ field. IsBytes field.1) fields → IsBytes value
    → count_by is_equals (with_front (told_fields fields) k most value).text ≤ length fields + 1
count-front fields k most value bytes own =
    let before = told_fields fields in
    let is = count-told fields bytes in
    let short = take most value in
    each-front (HasAtMost (length fields + 1)) before k most value
    (each (HasAtMost (length fields + 1)) before k value (omega arith)
    (λ uncut. let more = sum_by-append one before.text (field_text k value) in let this = count-field (k, value) own in omega arith)
    (λ uncut. let more = sum_by-append one before.text (cut_text (value_room before.text k) k value) in let this = count-cut (value_room before.text k) (k, value) own in omega arith))
    (let more = sum_by-append one before.text (cut_text (value_room before.text k) k short) in let this = count-cut (value_room before.text k) (k, short) (bytes-front most value own) in omega arith)

count-each : (fields : List Field) → All (λ field. IsBytes field.1) fields → count_by is_equals (whole_text fields) ≡ length fields
count-each [] bytes = refl
count-each (f ∷ fields) bytes =
    let here : count_by is_equals (field_text f.0 f.1) ≡ 1 = count-field f (All-head (λ (field : Field). IsBytes field.1) f fields bytes) in
    let rest : count_by is_equals (whole_text fields) ≡ length fields = count-each fields (All-tail (λ (field : Field). IsBytes field.1) f fields bytes) in
    let both : count_by is_equals (field_text f.0 f.1 ++ whole_text fields) ≡ count_by is_equals (field_text f.0 f.1) + count_by is_equals (whole_text fields)
    = sum_by-append one (field_text f.0 f.1) (whole_text fields) in
    let step : count_by is_equals (whole_text (f ∷ fields)) ≡ count_by is_equals (field_text f.0 f.1 ++ whole_text fields) = refl in
    let longer : length (f ∷ fields) ≡ 1 + length fields = omega arith in
    omega arith

pub count-whole : (fields : List Field) → All (λ field. IsBytes field.1) fields → (told_fields fields).is_cut ≡ false → count_by is_equals (told_fields fields).text ≡ length fields
count-whole fields bytes uncut = rw (told-whole fields uncut) (count-each fields bytes)
