-- When bytes are a text.
use Rattle.std.proofs.Common.{◌≡◌, ℕ, List, [], ◌∷◌, Bool, true, false, Option, Some, None, option_map, cond, refl, sym, ◌∙◌}
use Rattle.std.specs.Str.{IsUtf8, is_utf8}
use Rattle.std.proofs.lemmas.Str.{IsUtf8-from_is_utf8, is_utf8-from_IsUtf8}
use Rattle.mac_token.specs.Location.{text_at, location_at}
use Rattle.mac_token.specs.RawToken.{CaveatParts}
use Rattle.mac_token.specs.Section.{SectionParts, location_bytes, caveat_said}

abbrev caveat_with : SectionParts → Option (List ℕ) → CaveatParts
caveat_with s location = record { id = s.identifier; vid = s.vid; location = location }

-- bytes that are UTF-8 are read as a text
pub text_at-IsUtf8 : (bytes : List ℕ) → IsUtf8 bytes → text_at bytes ≡ Some bytes
text_at-IsUtf8 bytes utf8 = rw (is_utf8-from_IsUtf8 bytes utf8)

refused : {X : Type 0} {P : Type 0} (test : Bool) (x : X) → (test ≡ true → P) → ¬ P → cond test (Some x) None ≡ None
refused true x holds fails = absurd (fails (holds refl))
refused false x holds fails = refl

-- others are not
pub text_at-no_text : (bytes : List ℕ) → ¬ (IsUtf8 bytes) → text_at bytes ≡ None
text_at-no_text bytes fails = refused (is_utf8 bytes) bytes (IsUtf8-from_is_utf8 bytes) fails

taken : {X : Type 0} {P : Type 0} (test : Bool) (x y : X) → (test ≡ true → P) → cond test (Some x) None ≡ Some y → (y ≡ x) × P
taken true x y holds e = (cc, holds refl)
taken false x y holds e = cc

-- what is read as a text is these bytes, and UTF-8
pub text_at-Some : (bytes text : List ℕ) → text_at bytes ≡ Some text → (text ≡ bytes) × IsUtf8 bytes
text_at-Some bytes text e = taken (is_utf8 bytes) bytes text (IsUtf8-from_is_utf8 bytes) e

unsaid : (location : Bool) (s : SectionParts) (bytes : List ℕ) → cond location (Some bytes) None ≡ None
    → option_map (λ location. caveat_with s location) (cond location (Some (Some bytes)) None) ≡ None
unsaid true s bytes e = absurd cc
unsaid false s bytes e = refl

unsaid_at : (s : SectionParts) (bytes : List ℕ) → text_at bytes ≡ None → option_map (λ location. caveat_with s location) (location_at bytes) ≡ None
unsaid_at s [] e =
    let empty : is_utf8 [] ≡ true = is_utf8-from_IsUtf8 [] ([], (refl, refl)) in
    let text : text_at [] ≡ Some [] = rw empty refl in
    let no = sym text ∙ e in
    absurd cc
unsaid_at s (b ∷ bytes) e = unsaid (is_utf8 (b ∷ bytes)) s (b ∷ bytes) e

-- fields whose location is no text are no caveat's
pub unsaid_location : (s : SectionParts) → text_at (location_bytes s) ≡ None → caveat_said s ≡ None
unsaid_location s none = unsaid_at s (location_bytes s) none
