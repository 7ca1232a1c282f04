-- A walk over a token's caveats.
use Rattle.std.proofs.Common.{◌≡◌, ℕ, zero, suc, arith, drop, ◌+◌, ◌≤◌, List, [], ◌∷◌, take, length, get_or, Option, Some, None, MatchOption, ap, ◌∙◌}
use Rattle.std.specs.List.{All, slice_get}
use Rattle.std.proofs.lemmas.List.{take_all, length-drop}
use Rattle.std.proofs.lemmas.List.Elements.{All-more}
use Rattle.std.proofs.lemmas.Option.{slice_get_within, get_or_from_slice_get}
use Rattle.mac_decide.specs.declared.context.Context.{Context}
use Rattle.mac_token.specs.RawToken.{TokenParts}
use Rattle.mac_decide.specs.Minted.{Minted}
use Rattle.mac_decide.specs.Verdict.{Satisfied, IsFirstUnsatisfied, IsVerdict, found_verdict}

-- one more caveat is satisfied
pub satisfied-next : (x : Context) (caveats : List (List ℕ)) (i : ℕ) (caveat : List ℕ) → slice_get caveats i ≡ Some caveat → All (λ c. Satisfied c x) (take i caveats) → Satisfied caveat x → All (λ c. Satisfied c x) (take (i + 1) caveats)
satisfied-next x caveats i caveat here before now =
    let same : get_or caveats i caveat ≡ caveat = get_or_from_slice_get caveats i caveat caveat here in
    All-more (λ c. Satisfied c x) caveats i caveat (slice_get_within caveats i caveat here) before (rw same now)

-- the first that isn't
pub first-here : (x : Context) (caveats : List (List ℕ)) (i : ℕ) (caveat : List ℕ) → slice_get caveats i ≡ Some caveat → All (λ c. Satisfied c x) (take i caveats) → ¬ (Satisfied caveat x) → IsFirstUnsatisfied caveats x i
first-here x caveats i caveat here before none = record { before = before; here = rw here none }

-- where a key gives the signature, what a walk over all caveats finds is the verdict
pub found-verdict : (keys : List (List ℕ)) (t : TokenParts) (x : Context) (found : Option ℕ) → Minted keys t
    → MatchOption found (All (λ c. Satisfied c x) t.caveats) (IsFirstUnsatisfied t.caveats x) → IsVerdict keys t x (found_verdict found)
found-verdict keys t x None minted each = record { minted = minted; satisfied = each }
found-verdict keys t x (Some index) minted first = (minted, first)

-- the caveats up to their end are all
pub satisfied-all : (x : Context) (caveats : List (List ℕ)) (i : ℕ) → length caveats ≤ i → All (λ c. Satisfied c x) (take i caveats) → All (λ c. Satisfied c x) caveats
satisfied-all x caveats i end each = rw (take_all i caveats end) at each

-- the first of the caveats from an index on
first_dropped : (caveats : List (List ℕ)) (i : ℕ) (caveat : List ℕ) (rest : List (List ℕ)) → drop i caveats ≡ caveat ∷ rest → (slice_get caveats i ≡ Some caveat) × (drop (suc i) caveats ≡ rest)
first_dropped [] zero caveat rest e = absurd cc
first_dropped [] (suc i) caveat rest e = absurd cc
first_dropped (c ∷ cs) zero caveat rest e = (cc, cc)
first_dropped (c ∷ cs) (suc i) caveat rest e = first_dropped cs i caveat rest e

pub first-of-drop : (caveats : List (List ℕ)) (i : ℕ) (caveat : List ℕ) (rest : List (List ℕ)) → drop i caveats ≡ caveat ∷ rest → (slice_get caveats i ≡ Some caveat) × (drop (i + 1) caveats ≡ rest)
first-of-drop caveats i caveat rest e =
    let found = first_dropped caveats i caveat rest e in
    let next : i + 1 ≡ suc i = omega arith in
    (found.0, ap (λ n. drop n caveats) next ∙ found.1)

-- none from an index on
pub end-of-drop : (caveats : List (List ℕ)) (i : ℕ) → drop i caveats ≡ [] → length caveats ≤ i
end-of-drop caveats i e = omega (arith, length-drop i caveats, ap length e)
