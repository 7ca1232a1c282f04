-- What a name's keys accept (NDSS 2014): the chain of signatures, and caveats that hold in a
-- context.
use Rattle.std.specs.Prelude.{◌⊎◌, ℕ, ℤ, pos, ◌<ℤ◌, ◌≤ℤ◌, List, take, slice_get, Option, Some, None, IsSomeAnd, Contains, All}
use Rattle.mac_token.specs.RawToken.{TokenParts}
use Rattle.mac_decide.specs.Minted.{Minted}
use Rattle.mac_decide.specs.Time.{IsTimeLimit, IsLowerBound}
use Rattle.mac_decide.specs.declared.context.Context.{Context}
use Rattle.mac_decide.specs.declared.verdict.Verdict.{Verdict}
use Rattle.mac_decide.specs.declared.verdict.Verdict.TheVariants.{Granted, BadSignature, Unsatisfied}

-- the caveat is a time limit, and the moment is below it
abbrev pub IsBefore : ℕ → List ℕ → Type 0
IsBefore moment caveat = (limit : ℤ) × IsTimeLimit caveat limit × (pos moment <ℤ limit)

-- the caveat is a lower bound of time, and the moment isn't below it
abbrev pub IsSince : ℕ → List ℕ → Type 0
IsSince moment caveat = (bound : ℤ) × IsLowerBound caveat bound × (bound ≤ℤ pos moment)

-- the caveat is one of the facts, a time limit that isn't reached, or a lower bound that is
abbrev pub Satisfied : List ℕ → Context → Type 0
Satisfied caveat x =
    Contains x.facts caveat ⊎ IsBefore x.moment caveat ⊎ IsSince x.moment caveat

-- each of these is one of the facts
abbrev pub AreAmong : List (List ℕ) → List (List ℕ) → Type 0
AreAmong some facts = All (Contains facts) some

-- the keys grant the token in the context: one of them gives the signature, and each caveat is
-- satisfied
pub record Accepts (keys : List (List ℕ)) (t : TokenParts) (x : Context) : Type 0 where
  pub minted : Minted keys t
  pub satisfied : All (λ caveat. Satisfied caveat x) t.caveats

-- the caveat at the index isn't satisfied, and each before it is
pub record IsFirstUnsatisfied (caveats : List (List ℕ)) (x : Context) (index : ℕ) : Type 0 where
  pub before : All (λ caveat. Satisfied caveat x) (take index caveats)
  pub here : IsSomeAnd (slice_get caveats index) (λ caveat. ¬ (Satisfied caveat x))

-- the verdict on a token: the signature is looked at first, then the caveats in order
abbrev pub IsVerdict : List (List ℕ) → TokenParts → Context → Verdict → Type 0
IsVerdict keys t x Granted = Accepts keys t x
IsVerdict keys t x BadSignature = ¬ (Minted keys t)
IsVerdict keys t x (Unsatisfied index) = Minted keys t × IsFirstUnsatisfied t.caveats x index

-- the verdict where a key gives the signature, by the first caveat that was found unsatisfied
abbrev pub found_verdict : Option ℕ → Verdict
found_verdict None = Granted
found_verdict (Some index) = Unsatisfied index
