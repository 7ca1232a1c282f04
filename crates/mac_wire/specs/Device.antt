-- What one call does to a device that gives or takes bytes.
use Rattle.std.specs.Prelude.{◌≡◌, ℕ, ◌+◌, List, ◌++◌, take}
use Rattle.std.specs.Prelude.{Result, Ok, Err}

-- the count of faults rises by one exactly where the call answers a fault
abbrev pub CountsFault : {T E : Type 0} → Result T E → ℕ → ℕ → Type 0
CountsFault (Ok x) old new = new ≡ old
CountsFault (Err e) old new = new ≡ old + 1

-- the bytes passed so far grow by the first n of the buffer where the call passed n, and not at all
-- where it failed
abbrev pub PassesFront : {E : Type 0} → Result ℕ E → List ℕ → List ℕ → List ℕ → Type 0
PassesFront (Ok n) buffer old new = new ≡ old ++ take n buffer
PassesFront (Err e) buffer old new = new ≡ old
