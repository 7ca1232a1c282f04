-- Paths from a place on, and their steps up to one.
use Rattle.std.proofs.Common.{◌≡◌, ℕ, suc, ◌+◌, ◌-◌, ◌<◌, ◌≤◌, Bool, true, false, List, ◌++◌, length, take, drop, map, refl, ap, sym, ◌∙◌, append_assoc, append-nil, add-one, length-drop, arith}
use Rattle.std.proofs.Math.Seq.{drop-cons}
use Rattle.std.proofs.lemmas.List.{map-append, drop_all, take_all}
use Rattle.mac_http.specs.Path.{begins_unsafe, has_unsafe, step_of, steps_within}

-- what begins at a place isn't unsafe: then what is from there on is from the next on
pub unsafe_later : (strict : Bool) (path : List ℕ) (i : ℕ) → i < length path → begins_unsafe strict (drop i path) ≡ false → has_unsafe strict (drop (i + 1) path) ≡ has_unsafe strict (drop i path)
unfolding has_unsafe
unsafe_later strict path i below none =
    let e = drop-cons path i 0 below in
    rw (add-one i, e, simp e at none) refl

-- what begins at a place is unsafe
pub unsafe_here : (strict : Bool) (path : List ℕ) (i : ℕ) → i < length path → begins_unsafe strict (drop i path) ≡ true → has_unsafe strict (drop i path) ≡ true
unfolding has_unsafe
unsafe_here strict path i below some =
    let e = drop-cons path i 0 below in
    rw (e, simp e at some) refl

-- a slice to the end is what is behind its begin
pub tail_is : (path : List ℕ) (i : ℕ) → take (length path - i) (drop i path) ≡ drop i path
tail_is path i = take_all (length path - i) (drop i path) (omega (arith, length-drop i path))

-- behind the end nothing is
pub unsafe_none : (strict : Bool) (path : List ℕ) (i : ℕ) → length path ≤ i → has_unsafe strict (drop i path) ≡ false
unfolding has_unsafe
unsafe_none strict path i past = rw (drop_all i path past) refl

-- before the first place there is no step
pub steps_none : (f : List ℕ → List ℕ) (path : List ℕ) (base : List (List ℕ)) → base ≡ base ++ map f (steps_within path 0)
unfolding steps_within
steps_none f path base = sym (append-nil base)

-- one more step, if there is one
pub steps_more : (f : List ℕ → List ℕ) (path : List ℕ) (n : ℕ) (base old new : List (List ℕ)) → old ≡ base ++ map f (steps_within path n)
    → new ≡ old ++ map f (step_of path (n + 1)) → new ≡ base ++ map f (steps_within path (n + 1))
unfolding steps_within
steps_more f path n base old new e more =
    let here = step_of path (suc n) in
    let last : new ≡ old ++ map f here = rw (add-one n) at more in
    rw (add-one n)
    (last ∙ ap (λ t. t ++ map f here) e ∙ append_assoc base (map f (steps_within path n)) (map f here)
    ∙ ap (λ t. base ++ t) (sym (map-append f (steps_within path n) here)))
