-- What the connections of a door are given.
use Rattle.std.specs.Prelude.{◌≡◌, ℕ, List, MatchOption, slice_get}
use Rattle.std.specs.Arc.{arc_value}
use Rattle.std.specs.declared.sync.Arc.{Arc}
use Rattle.mac_decide.specs.declared.rights.Rights.{Rights}
use Rattle.mac_sockets.specs.Entrance.{gift_of}
use Rattle.mac_sockets.specs.declared.door.Door.{Door}

-- the door of this number gives its connections these rights
abbrev pub GivesAt : {Z : Type 0} → List (Door (Arc Rights Z)) → ℕ → Rights → Type 0
GivesAt doors number rights =
    MatchOption (slice_get doors number) ⊥ (λ door. arc_value (gift_of door) ≡ rights)
