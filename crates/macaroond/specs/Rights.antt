-- What the sockets of `listen` allow, as its options say.
use Rattle.std.specs.Prelude.{◌≡◌, ℕ, ◌==◌, Bool, false, List, [], ◌∷◌, Option, Some, None, map, option_map, string_bytes}
use Rattle.std.specs.Arc.{arc_value}
use Rattle.std.specs.List.{slice_split}
use Rattle.std.specs.declared.alloc.Global.{Global}
use Rattle.std.specs.declared.sync.Arc.{Arc}
use Rattle.std.specs.declared.string.String.{String}
use Rattle.mac_daemon.specs.declared.door.SideSocket.{SideSocket}
use Rattle.mac_decide.specs.declared.rights.Rights.{Rights}
use Rattle.mac_commands.specs.CommandLine.{permissions}
use Rattle.mac_commands.specs.declared.choices.ListenOptions.{ListenOptions}
use Rattle.mac_sockets.specs.Entrance.{gift_of}
use Rattle.mac_sockets.specs.declared.door.Door.{Door}

abbrev pub is_comma : ℕ → Bool
is_comma b = b == 44

-- the names between the commas of a list, where one is given
abbrev pub listed_names : Option (String Global) → Option (List (List ℕ))
listed_names list = option_map (λ text. slice_split is_comma (string_bytes text)) list

-- to mint is allowed or not, under the names of this list, or under all where there is none
abbrev pub IsRights : Bool → Option (String Global) → Rights → Type 0
IsRights may_mint names rights =
    (rights.may_mint ≡ may_mint) × (rights.names ≡ listed_names names)

-- nothing is allowed: to mint isn't, and no name is there whose keys may be used
abbrev pub AreNone : Rights → Type 0
AreNone rights = (rights.may_mint ≡ false) × (rights.names ≡ Some [])

-- the second socket, where a path is given for it: it has its own mode and names, and nothing may
-- be minted there
abbrev pub IsSideSocket : ListenOptions → Option SideSocket → Type 0
IsSideSocket options None = options.verify_socket ≡ None
IsSideSocket options (Some side) =
    (option_map string_bytes options.verify_socket ≡ Some side.path.now)
    × (side.permissions ≡ permissions options.verify_mode)
    × IsRights false options.verify_names side.rights

-- what is allowed at the second socket, where there is one
abbrev pub side_rights : Option SideSocket → List Rights
side_rights None = []
side_rights (Some side) = side.rights ∷ []

-- the connections of each door are given what is allowed at its socket: the daemon's own comes first
abbrev pub GiveInOrder : {Z : Type 0} → Rights → Option SideSocket → List (Door (Arc Rights Z)) → Type 0
GiveInOrder rights side doors = map arc_value (map gift_of doors) ≡ rights ∷ side_rights side
