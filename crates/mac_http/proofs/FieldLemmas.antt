-- What is escaped can be the value of a field.
use Rattle.std.proofs.Common.{◌≡◌, ℕ, ◌+◌, ◌%◌, ◌^◌, ◌<◌, ◌≤◌, true, false, ◌==◌, ◌||◌, List, [], ◌∷◌, ◌++◌, refl, sym, ap, ◌∙◌, arith, All, IsTrue}
use Rattle.std.specs.Prelude.{nat_lt, codes}
use Rattle.std.specs.Fmt.{decimal}
use Rattle.std.proofs.lemmas.Fmt.{decimal_by_steps}
use Rattle.std.proofs.lemmas.List.Elements.{All-nil, All-cons, All-push}
use Rattle.std.proofs.lemmas.Bool.{agree_below, agree_below_at}
use Rattle.std.proofs.lemmas.Bool.Decides.{nat_tests}
use Rattle.http_header.specs.FieldValue.{FieldValue, IsFieldValue, plain_value}
use Rattle.http_header.specs.Token.{is_value_byte}
use Rattle.http1.specs.Fields.{Header}
use Rattle.mac_http.specs.Escaped.{escaped}
use Rattle.mac_http.specs.declared.escaped.TheConstants.{ESCAPED}
use Rattle.percent_encoding.specs.AsciiSet.{contains, should_percent_encode}
use Rattle.percent_encoding.proofs.AsciiSetLemmas.{ascii_from_kept, outside_from_kept}
use Rattle.percent_encoding.proofs.PercentLemmas.{All-percent_encode, IsEscapeByte}

-- the set has the controls, the blank and `%`
set_is : agree_below (contains ESCAPED) (λ b. nat_lt b 33 || (b == 37 || b == 127)) 128 ≡ true
set_is = refl

kept_is_visible : (b : ℕ) → should_percent_encode ESCAPED b ≡ false → IsTrue (is_value_byte b)
kept_is_visible b kept =
    let below = ascii_from_kept ESCAPED b kept in
    let out = sym (agree_below_at (contains ESCAPED) (λ b. nat_lt b 33 || (b == 37 || b == 127)) 128 b set_is below) ∙ outside_from_kept ESCAPED b kept in
    grind (arith, nat_tests)

escape_is_visible : (b : ℕ) → IsEscapeByte b → IsTrue (is_value_byte b)
escape_is_visible b h = grind (arith, nat_tests)

pub escaped_is_value : (bytes : List ℕ) → IsFieldValue (escaped bytes)
escaped_is_value bytes =
    All-percent_encode (λ b. IsTrue (is_value_byte b)) ESCAPED bytes kept_is_visible escape_is_visible

digit_is_value : (b : ℕ) → 32 ≤ b → b ≤ 126 → IsTrue (is_value_byte b)
digit_is_value b low high = grind (arith, nat_tests)

-- a field of this name and these bytes
abbrev pub field_of : List ℕ → List ℕ → Header
field_of name bytes = (name, bytes)

-- the name and the bytes of a field, by what they stand for
pub field_is : (name is : List ℕ) (v : FieldValue) (told bytes : List ℕ) → name ≡ is → v ≡ plain_value (escaped told) → told ≡ bytes
    → field_of name v.bytes ≡ field_of is (escaped bytes)
field_is name is v told bytes a b c =
    ap (λ n. field_of n v.bytes) a ∙ ap (λ (w : FieldValue). field_of is w.bytes) b ∙ ap (λ t. field_of is (escaped t)) c

-- a byte that the value of a field may hold
abbrev pub IsValueByte : ℕ → Type 0
IsValueByte b = IsTrue (is_value_byte b)

digits_are_value : (n : ℕ) → n < 2 ^ 64 → All IsValueByte (decimal n)
digits_are_value =
    decimal_by_steps
    (λ n ds. All IsValueByte ds)
    (λ n small. All-cons IsValueByte (48 + n) [] (digit_is_value (48 + n) (omega arith) (omega arith)) (All-nil IsValueByte))
    (λ n ds large earlier. All-push IsValueByte ds (48 + n % 10) earlier (digit_is_value (48 + n % 10) (omega arith) (omega arith)))

pub reason_is_value : (n : ℕ) → n < 2 ^ 64 → IsFieldValue (codes "24 " ++ decimal n)
reason_is_value n small =
    All-cons IsValueByte 50 (52 ∷ 32 ∷ decimal n) (digit_is_value 50 (omega arith) (omega arith))
    (All-cons IsValueByte 52 (32 ∷ decimal n) (digit_is_value 52 (omega arith) (omega arith))
    (All-cons IsValueByte 32 (decimal n) (digit_is_value 32 (omega arith) (omega arith)) (digits_are_value n small)))
