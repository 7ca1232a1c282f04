-- The bytes that a base64 text is read as are those that it spells.
use Rattle.std.proofs.Common.{◌≡◌, ℕ, ◌<◌, ◌-◌, Bool, true, false, List, length, slice_get, Option, Some, None, ◌∙◌, ap, subst, refl, arith, inl, inr, All}
use Rattle.std.specs.Prelude.{nat_lt}
use Rattle.std.specs.Bool.{Decides}
use Rattle.std.specs.List.{list_all}
use Rattle.std.specs.declared.result.Result.{Result}
use Rattle.std.specs.declared.result.Result.TheVariants.{Ok, Err}
use Rattle.std.proofs.lemmas.Bool.{cases_lt}
use Rattle.std.proofs.lemmas.Bool.Decides.{Decides-ltb, Decides-by_and}
use Rattle.std.proofs.lemmas.List.{get_or_past, get_or_default}
use Rattle.base64.specs.declared.decode.DecodeError.{DecodeError}
use Rattle.base64.specs.declared.engine.general_purpose.GeneralPurpose.{GeneralPurpose}
use Rattle.base64.specs.GeneralPurpose.{IsBytes, IsStrict, decode_of, encode_of}
use Rattle.base64.proofs.EngineFacts.{decode_of-encode_of, decode_of_strict, IsAscii-encode_of}
use Rattle.mac_token.specs.Base64Text.{IsBase64Of}
use Rattle.mac_token.specs.Base64Reading.{is_no_url_letter, is_padding, engine_for, are_bytes, decoded_bytes, base64_bytes}
use Rattle.mac_token.proofs.Steps.{kept, went_on}
use Rattle.mac_token.proofs.Base64Spelling.{lacks_url_letters_iff, padding_iff, consistent_for, encoded_by_engine_for}

pub bytes_test : (bytes : List ℕ) → Decides (are_bytes bytes) (All (λ b. b < 256) bytes)
bytes_test bytes = Decides-by_and (λ (b : ℕ). nat_lt b 256) (λ b. b < 256) (list_all (λ b. nat_lt b 256)) (λ b. Decides-ltb b 256) refl (λ b bs. refl) bytes

pub bytes_from_all : (bytes : List ℕ) → All (λ b. b < 256) bytes → IsBytes bytes
bytes_from_all bytes all i = elim (cases_lt i (length bytes)) [
  | inl within ↦ all i 0 within
  | inr past ↦ rw (get_or_past bytes i 0 past) (omega arith)
]

all_from_bytes : (bytes : List ℕ) → IsBytes bytes → All (λ b. b < 256) bytes
all_from_bytes bytes is i d below = rw (get_or_default bytes i d 0 below) (is i)

strict_for : (plain padded : Bool) → IsStrict (engine_for plain padded)
strict_for true true = (refl, refl)
strict_for true false = (refl, refl)
strict_for false true = (refl, refl)
strict_for false false = (refl, refl)

spelled_by : (plain padded : Bool) (text bytes : List ℕ) → IsBytes bytes → text ≡ encode_of (engine_for plain padded) bytes → IsBase64Of text bytes
spelled_by true true text bytes is e = (is, inl e)
spelled_by true false text bytes is e = (is, inr (inl e))
spelled_by false true text bytes is e = (is, inr (inr (inl e)))
spelled_by false false text bytes is e = (is, inr (inr (inr e)))

decoded_is : (decoded : Result (List ℕ) DecodeError) (bytes : List ℕ) → decoded_bytes decoded ≡ Some bytes → (decoded ≡ Ok bytes) × IsBytes bytes
decoded_is (Ok b) bytes e =
    let k = kept (are_bytes b) b bytes e in
    (ap (λ (x : List ℕ). Ok x) k.1, subst IsBytes k.1 (bytes_from_all b ((bytes_test b).0 k.0)))
decoded_is (Err error) bytes e = absurd cc

-- what the engine for a text decodes is spelled so
pub decoded_spells : (plain padded : Bool) (text bytes : List ℕ) → IsBytes text → IsBytes bytes → decode_of (engine_for plain padded) text ≡ Ok bytes → IsBase64Of text bytes
decoded_spells plain padded text bytes is_text is_bytes e =
    spelled_by plain padded text bytes is_bytes (decode_of_strict (engine_for plain padded) text bytes (strict_for plain padded) is_text e)

-- what is read is spelled so
pub base64_takes : (text bytes : List ℕ) → base64_bytes text ≡ Some bytes → IsBase64Of text bytes
unfolding base64_bytes
base64_takes text bytes e =
    let plain = list_all is_no_url_letter text in
    let padded = is_padding (slice_get text (length text - 1)) in
    let on = went_on (are_bytes text) (decoded_bytes (decode_of (engine_for plain padded) text)) bytes e in
    let d = decoded_is (decode_of (engine_for plain padded) text) bytes on.1 in
    let is = bytes_from_all text ((bytes_test text).0 on.0) in
    spelled_by plain padded text bytes d.1 (decode_of_strict (engine_for plain padded) text bytes (strict_for plain padded) is d.0)

-- an encoding has letters alone
encoding_is_bytes : (engine : GeneralPurpose) (text bytes : List ℕ) → text ≡ encode_of engine bytes → IsBytes text
encoding_is_bytes engine text bytes e i = let letter = IsAscii-encode_of engine bytes i in rw e (omega (arith, letter))

-- what is spelled is read
pub base64_again : (text bytes : List ℕ) → IsBase64Of text bytes → base64_bytes text ≡ Some bytes
unfolding base64_bytes
base64_again text bytes spelled =
    let plain = list_all is_no_url_letter text in
    let padded = is_padding (slice_get text (length text - 1)) in
    let encoded = encoded_by_engine_for text bytes plain padded spelled (lacks_url_letters_iff text) (padding_iff (slice_get text (length text - 1))) in
    let decoded : decode_of (engine_for plain padded) text ≡ Ok bytes = ap (decode_of (engine_for plain padded)) encoded ∙ decode_of-encode_of (engine_for plain padded) bytes (consistent_for plain padded) spelled.0 in
    let letters = (bytes_test text).1 (all_from_bytes text (encoding_is_bytes (engine_for plain padded) text bytes encoded)) in
    rw (letters, decoded, (bytes_test bytes).1 (all_from_bytes bytes spelled.0)) refl

-- where no bytes are spelled none are read
pub base64_nothing : (text : List ℕ) → ((bytes : List ℕ) → ¬ (IsBase64Of text bytes)) → base64_bytes text ≡ None
base64_nothing text never = none_of (base64_bytes text) (λ bytes e. never bytes (base64_takes text bytes e))
  where
    none_of : (o : Option (List ℕ)) → ((bytes : List ℕ) → o ≡ Some bytes → ⊥) → o ≡ None
    none_of None refuses = refl
    none_of (Some bytes) refuses = absurd (refuses bytes refl)
