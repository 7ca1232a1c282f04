-- How many jobs of a connection may be out, and how many bytes.
use Rattle.std.specs.Prelude.{◌≡◌, ℕ, ◌+◌, ◌-◌, ◌^◌, ◌≤◌, ◌<◌, ◌⊎◌, length}
use Rattle.mac_decide.specs.declared.job.Job.{Job}
use Rattle.mac_wire.specs.declared.arrival.Arrival.{Arrival}
use Rattle.mac_wire.specs.declared.arrival.Arrival.TheVariants.{Payload, Oversize}
use Rattle.mac_serve.specs.declared.outstanding.Outstanding.{Outstanding}
use Rattle.mac_serve.specs.declared.outstanding.TheConstants.{PLACES}

-- the bytes of a job's payload
abbrev pub arrival_size : Arrival → ℕ
arrival_size (Payload bytes) = length bytes
arrival_size Oversize = 0

abbrev pub payload_size : Job → ℕ
payload_size job = arrival_size job.arrival

-- there is room for one more job of this length: no job is out, or few jobs and few bytes
abbrev pub HasRoom : Outstanding → ℕ → Type 0
HasRoom out length =
    (out.first ≡ out.next)
    ⊎ ((out.next - out.first < PLACES) × (out.bytes + length ≤ out.most))

-- no job below this place is out any more, and nothing else was forgotten
pub record IsFreed (done : ℕ) (before after : Outstanding) : Type 0 where
  pub next_is : after.next ≡ before.next
  pub most_is : after.most ≡ before.most
  pub first_up : before.first ≤ after.first
  pub first_is : (after.first ≡ before.first) ⊎ (after.first ≤ done)
  pub bytes_are : after.first ≡ before.first → after.bytes ≡ before.bytes

-- the number is that many, or as many as can be counted
abbrev pub Counts : ℕ → ℕ → Type 0
Counts many number = (number ≡ many) ⊎ (number ≡ 2 ^ 64 - 1)

-- one more job of this length is out
pub record HasOneMore (length : ℕ) (before after : Outstanding) : Type 0 where
  pub first_is : after.first ≡ before.first
  pub most_is : after.most ≡ before.most
  pub next_is : Counts (before.next + 1) after.next
  pub bytes_are : Counts (before.bytes + length) after.bytes

-- a job of this length was counted where there was room for it
abbrev pub IsCounted : ℕ → Outstanding → Type 0
IsCounted length after =
    (before : Outstanding) × HasRoom before length × HasOneMore length before after

-- the same, where it was counted beside those that were out and still are
abbrev pub IsCountedBeside : ℕ → Outstanding → Outstanding → Type 0
IsCountedBeside length start after =
    (done : ℕ) × (before : Outstanding) × IsFreed done start before × HasRoom before length
    × HasOneMore length before after
