-- Who may use a key file.
use Rattle.std.specs.Prelude.{◌≡◌, ◌⊎◌, ◌||◌, ◌==◌, ◌/◌, ◌%◌, ℕ, if◌then◌else◌}
use Rattle.mac_board.specs.declared.access.Access.{Access}
use Rattle.mac_board.specs.declared.access.Exposure.{Exposure}
use Rattle.mac_board.specs.declared.access.Exposure.TheVariants as exposure
use Rattle.mac_board.specs.declared.access.Reader.{Reader}

-- the last two digits of a mode in base eight: what others may do with a file, and what its group
abbrev pub others_digit : ℕ → ℕ
others_digit mode = mode % 8

abbrev pub group_digit : ℕ → ℕ
group_digit mode = mode / 8 % 8

-- it belongs to root or to its reader
abbrev pub IsOwn : Access → Reader → Type 0
IsOwn access reader = (access.owner ≡ 0) ⊎ (access.owner ≡ reader.user)

-- its group may do nothing with it, or read it (4) where that is its reader's
abbrev pub IsForGroup : Access → Reader → Type 0
IsForGroup access reader = (group_digit access.mode ≡ 0)
    ⊎ ((group_digit access.mode ≡ 4) × (access.group ≡ reader.group))

-- nobody but root, its reader and, to read it, its reader's group may use the file
pub record IsPrivate (access : Access) (reader : Reader) : Type 0 where
  pub own : IsOwn access reader
  pub others : others_digit access.mode ≡ 0
  pub group : IsForGroup access reader

-- why a file isn't private; with the mode that is told it would be
abbrev pub IsExposed : Access → Reader → Exposure → Type 0
IsExposed access reader (exposure.Owner owner user) =
    (owner ≡ access.owner) × (user ≡ reader.user) × (¬ IsOwn access reader)
IsExposed access reader (exposure.Mode mode mended) =
    (mode ≡ access.mode) × (¬ IsPrivate access reader)
    × IsPrivate (record access { mode = mended }) reader

-- who reads a file that a process of this user and group could open
abbrev pub reader_of : Access → ℕ → ℕ → Reader
reader_of access user group = if user == 0 || user == access.owner
    then record { user = user; group = group } else record { user = user; group = access.group }
