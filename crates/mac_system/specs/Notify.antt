-- The address of a service manager's socket (`unix(7)`, `sd_notify(3)`).
use Rattle.std.specs.Prelude.{◌≡◌, ℕ, ◌+◌, ◌<◌, ◌≤◌, ◌==◌, ◌⊎◌, if◌then◌else◌, List, codes, length, slice_index}
use Rattle.mac_system.specs.declared.notify.State.{State}
use Rattle.mac_system.specs.declared.notify.State.TheVariants.{Ready, Stopping}
use Rattle.mac_system.specs.declared.notify.TheConstants.{NOTIFY_PATH_MAX}

-- what the service manager reads
abbrev pub state_text : State → List ℕ
state_text Ready = codes "READY=1"
state_text Stopping = codes "STOPPING=1"

-- a path from the root, or an abstract name behind an @, that an address has room for
abbrev pub IsNotifyPath : List ℕ → Type 0
IsNotifyPath path =
    (0 < length path) × (length path ≤ NOTIFY_PATH_MAX)
    × ((slice_index path 0 ≡ 47) ⊎ (slice_index path 0 ≡ 64))

-- AF_UNIX in two bytes, then the path, in which a first @ is a 0
pub record IsAddress (path address : List ℕ) (count : ℕ) : Type 0 where
  pub family : slice_index address 0 ≡ 1
  pub family_high : slice_index address 1 ≡ 0
  pub first : slice_index address 2 ≡ (if slice_index path 0 == 64 then 0 else slice_index path 0)
  pub others : (k : ℕ) → 0 < k → k < length path → slice_index address (k + 2) ≡ slice_index path k
  pub counted : count ≡ length path + 2
