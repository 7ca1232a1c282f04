-- Warnings of caveats, as they are put together.
use Rattle.std.proofs.Common.{◌≡◌, ◌∙◌, ℕ, ◌+◌, ◌<◌, Bool, Option, List, [], ◌++◌, length, get_or, take, sym, ap, subst, add-one}
use Rattle.std.specs.List.{list_any}
use Rattle.std.specs.Str.{bytes_eq}
use Rattle.std.specs.declared.alloc.Global.{Global}
use Rattle.std.specs.declared.vec.Vec.{Vec}
use Rattle.std.proofs.lemmas.List.{take-map, get_or-map}
use Rattle.mac_token.specs.RawToken.{byte_lists}
use Rattle.mac_decide.specs.Doubt.{doubt_of}
use Rattle.mac_decide.specs.declared.doubts.Doubt.{Doubt}
use Rattle.mac_calls.specs.Warned.{warning_at, warning_of, warnings_to}
use Rattle.mac_calls.proofs.ListLemmas.{any_mapped}

-- the caveats before a place
pub among_before : (caveat : List ℕ) (caveats : List (Vec ℕ Global)) (place : ℕ)
    → list_any (λ other. bytes_eq caveat other.items) (take place caveats) ≡ list_any (bytes_eq caveat) (take place (byte_lists caveats))
among_before caveat caveats place =
    any_mapped (λ (c : Vec ℕ Global). c.items) (bytes_eq caveat) (take place caveats)
    ∙ ap (list_any (bytes_eq caveat)) (sym (take-map (λ (c : Vec ℕ Global). c.items) place caveats))

-- what is told of the caveat at a place
pub one_told : (caveats : List (Vec ℕ Global)) (caveat : Vec ℕ Global) (place moment : ℕ) (again : Bool) (doubt : Option Doubt)
    → place < length caveats → caveat ≡ get_or caveats place caveat
    → again ≡ list_any (λ other. bytes_eq caveat.items other.items) (take place caveats) → doubt ≡ doubt_of caveat.items again moment
    → warning_of doubt place ≡ warning_at (byte_lists caveats) moment place
one_told caveats caveat place moment again doubt below is repeated found =
    let texts = byte_lists caveats in
    let at : get_or texts place [] ≡ caveat.items =
    get_or-map (λ (c : Vec ℕ Global). c.items) caveats place caveat [] below ∙ ap (λ (c : Vec ℕ Global). c.items) (sym is) in
    subst (λ b. warning_of doubt place ≡ warning_of (doubt_of b (list_any (bytes_eq b) (take place texts)) moment) place) (sym at)
    (ap (λ d. warning_of d place) (found ∙ ap (λ r. doubt_of caveat.items r moment) (repeated ∙ among_before caveat.items caveats place)))

-- one warning more
pub one_more : (n : ℕ) (caveats : List (List ℕ)) (moment : ℕ) (now before : List ℕ)
    → before ≡ warnings_to n caveats moment → now ≡ before ++ warning_at caveats moment n → now ≡ warnings_to (n + 1) caveats moment
one_more n caveats moment now before was grown =
    grown ∙ ap (λ b. b ++ warning_at caveats moment n) was ∙ ap (λ m. warnings_to m caveats moment) (sym (add-one n))
