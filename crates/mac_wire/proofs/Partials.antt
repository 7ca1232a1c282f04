-- The parts of an unfinished frame, joined.
use Rattle.std.proofs.Common.{◌≡◌, ℕ, ◌+◌, ◌<◌, ◌≤◌, inl, inr, List, [], ◌++◌, length, take, refl, sym, ap, subst, arith, ◌∙◌}
use Rattle.std.specs.Int.{w32, from_be_bytes}
use Rattle.std.proofs.lemmas.Bool.{cases_eq}
use Rattle.std.proofs.lemmas.List.{take_all, take_at, length-append, length-take}
use Rattle.mac_wire.specs.declared.arrival.TheConstants.{FRAME_MAX}
use Rattle.mac_wire.specs.declared.arrival.Ending.TheVariants as ending
use Rattle.mac_wire.specs.Frame.{told_length, frames_of, IsUnfinished}
use Rattle.mac_wire.specs.Partial.{IsPartial}
use Rattle.mac_wire.proofs.Frames.{frames_of-nothing, frames_of-unfinished}

-- the length that a list tells is that of its first four bytes
pub told_length-front : (told payload : List ℕ) → length told ≡ 4 → told_length (told ++ payload) ≡ from_be_bytes w32 told
told_length-front told payload four = ap (from_be_bytes w32) (take_at told payload 4 four)

-- nothing is wrong with a length, and a part of the payload is missing
abbrev Lacks : List ℕ → Type 0
Lacks bytes = (told_length bytes ≤ FRAME_MAX) × (length bytes < 4 + told_length bytes)

lacks : (told payload : List ℕ) → length told ≡ 4 → from_be_bytes w32 told ≤ FRAME_MAX → length payload < from_be_bytes w32 told → Lacks (told ++ payload)
lacks told payload four allowed missing =
    let P : ℕ → Type 0 = λ n. (n ≤ FRAME_MAX) × (length (told ++ payload) < 4 + n) in
    subst P (sym (told_length-front told payload four)) (allowed, omega (arith, length-append told payload))

is_unfinished : (told : List ℕ) (have : ℕ) (payload : List ℕ) → IsPartial told have payload → IsUnfinished (take have told ++ payload)
is_unfinished told have payload parts long =
    elim (cases_eq have 4) [
      | inl whole ↦
          let all : take have told ≡ told = take_all have told (omega (arith, parts.four)) in
          subst Lacks (ap (λ front. front ++ payload) (sym all)) (lacks told payload parts.four (parts.allowed whole) (parts.missing whole))
      | inr cut ↦ absurd (omega (arith, length-append (take have told) payload, length-take have told, ap length (parts.none_before (omega (arith, parts.have_fits)))))
    ]

-- how a stream ends that ends inside these parts
pub ends_clean : (told : List ℕ) (have : ℕ) (payload : List ℕ) → IsPartial told have payload → have ≡ 0
    → frames_of (take have told ++ payload) ≡ record { arrived = []; ending = ending.Clean }
ends_clean told have payload parts none =
    let empty : take have told ++ payload ≡ [] = rw (none, parts.none_before (omega arith)) refl in
    ap frames_of empty ∙ frames_of-nothing

pub ends_torn : (told : List ℕ) (have : ℕ) (payload : List ℕ) → IsPartial told have payload → (have ≡ 0 → ⊥)
    → frames_of (take have told ++ payload) ≡ record { arrived = []; ending = ending.Torn }
ends_torn told have payload parts some =
    frames_of-unfinished (take have told ++ payload)
    (omega (arith, parts.have_fits, parts.four, length-append (take have told) payload, length-take have told))
    (is_unfinished told have payload parts)
