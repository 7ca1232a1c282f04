-- Warnings of caveats, as they are put together.
use Rattle.std.proofs.Common.{◌≡◌, ◌∙◌, ℕ, ◌+◌, ◌<◌, Bool, List, [], ◌∷◌, ◌++◌, length, get_or, take, Option, refl, sym, ap, subst, add-one, string_bytes}
use Rattle.std.specs.List.{list_any}
use Rattle.std.specs.Str.{bytes_eq}
use Rattle.std.specs.declared.alloc.Global.{Global}
use Rattle.std.specs.declared.string.String.{String}
use Rattle.std.proofs.lemmas.List.{take-map, get_or-map}
use Rattle.mac_words.specs.Payload.{texts_of}
use Rattle.mac_decide.specs.Doubt.{doubt_of}
use Rattle.mac_decide.specs.declared.doubts.Doubt.{Doubt}
use Rattle.mac_words.specs.Warned.{warning_at, warning_of, warnings_to}

-- a test of the texts is one of their bytes
any_text : (p : List ℕ → Bool) (texts : List (String Global)) → list_any (λ text. p (string_bytes text)) texts ≡ list_any p (texts_of texts)
any_text p [] = refl
any_text p (t ∷ texts) = rw (any_text p texts) refl

-- the texts before a place
pub among_before : (caveat : List ℕ) (texts : List (String Global)) (place : ℕ)
    → list_any (λ text. bytes_eq caveat (string_bytes text)) (take place texts) ≡ list_any (bytes_eq caveat) (take place (texts_of texts))
among_before caveat texts place =
    any_text (bytes_eq caveat) (take place texts)
    ∙ ap (list_any (bytes_eq caveat)) (sym (take-map (λ (t : String Global). string_bytes t) place texts))

-- the warning of the caveat at a place
pub one_told : (caveats : List (String Global)) (caveat : String Global) (bytes : List ℕ) (place moment : ℕ) (again : Bool) (doubt : Option Doubt)
    → place < length caveats → caveat ≡ get_or caveats place caveat → bytes ≡ string_bytes caveat
    → again ≡ list_any (λ text. bytes_eq bytes (string_bytes text)) (take place caveats) → doubt ≡ doubt_of bytes again moment
    → warning_of doubt bytes ≡ warning_at (texts_of caveats) moment place
one_told caveats caveat bytes place moment again doubt below is same repeated found =
    let texts = texts_of caveats in
    let at : get_or texts place [] ≡ bytes =
    get_or-map (λ (t : String Global). string_bytes t) caveats place caveat [] below ∙ ap (λ (t : String Global). string_bytes t) (sym is) ∙ sym same in
    subst (λ b. warning_of doubt bytes ≡ warning_of (doubt_of b (list_any (bytes_eq b) (take place texts)) moment) b) (sym at)
    (ap (λ d. warning_of d bytes) (found ∙ ap (λ r. doubt_of bytes r moment) (repeated ∙ among_before bytes caveats place)))

-- one warning more
pub one_more : (n : ℕ) (caveats : List (List ℕ)) (moment : ℕ) (now before : List ℕ)
    → before ≡ warnings_to n caveats moment → now ≡ before ++ warning_at caveats moment n → now ≡ warnings_to (n + 1) caveats moment
one_more n caveats moment now before was grown =
    grown ∙ ap (λ b. b ++ warning_at caveats moment n) was ∙ ap (λ m. warnings_to m caveats moment) (sym (add-one n))
