-- A reader that answers by the grammar answers what a reading of lists gives.
use Rattle.std.proofs.Common.{◌≡◌, Option, Some, None, Result, Ok, Err, refl}
use Rattle.mac_token.specs.declared.fault.TokenFault.{TokenFault}
use Rattle.mac_token.specs.declared.fault.TokenFault.TheVariants.{Refused, Memory}
use Rattle.mac_token.specs.RawToken.{RawParts}
use Rattle.mac_token.specs.Reads.{Reads, Answers}

-- the reading gives exactly what the grammar spells
pub answers_from_reads : (Spelled : RawParts → Type 0) (reading : Option RawParts) → ((r : RawParts) → Spelled r → reading ≡ Some r) → ((r : RawParts) → reading ≡ Some r → Spelled r)
    → (result : Result RawParts TokenFault) → Reads (λ r. r) Spelled result → Answers (λ r. r) result reading
answers_from_reads Spelled reading again takes (Ok r) reads = again r reads
answers_from_reads Spelled reading again takes (Err (Refused reason)) reads = (reads.0, none_of reading (λ r e. reads.1 r (takes r e)))
  where
    none_of : (o : Option RawParts) → ((r : RawParts) → o ≡ Some r → ⊥) → o ≡ None
    none_of None never = refl
    none_of (Some r) never = absurd (never r refl)
answers_from_reads Spelled reading again takes (Err Memory) reads = tt
