-- How long requests took, by bounds of time.
use Rattle.std.specs.Prelude.{ℕ, ◌+◌, nat_lt, min, List, take, sum, count_by}
use Rattle.mac_count.specs.declared.snapshot.Snapshot.{Snapshot}
use Rattle.mac_count.specs.declared.times.TheConstants.{BOUND_MICROS}

-- how many of these bounds are passed
abbrev pub count_passed : List ℕ → ℕ → ℕ
count_passed bounds micros = count_by (λ bound. nat_lt bound micros) bounds

-- the bucket of what took so long: as many stand before it as there are bounds that it passes
abbrev pub bucket_of : ℕ → ℕ
bucket_of micros = count_passed BOUND_MICROS micros

-- how many requests took no longer than this: those in the buckets up to its own, of which 64 bits are counted
unfoldable pub within : Snapshot → ℕ → ℕ
within s micros = min (sum (take (1 + bucket_of micros) s.times)) 18_446_744_073_709_551_615

-- how many requests there were, by the time that each took
abbrev pub timed : Snapshot → ℕ
timed s = min (sum s.times) 18_446_744_073_709_551_615
