-- The streams that clients send, and their arrivals. The format is this project's own.
use Rattle.std.specs.Prelude.{ℕ, List, [], ◌∷◌, Option, Some, None, ◌==◌, if◌then◌else◌}
use Rattle.mac_wire.specs.declared.arrival.Arrival.{Arrival}
use Rattle.mac_wire.specs.declared.arrival.Ending.{Ending}
use Rattle.mac_wire.specs.declared.version.Version.{Version}
use Rattle.mac_wire.specs.declared.version.Version.TheVariants as version
use Rattle.mac_wire.specs.declared.version.TheConstants.{HELLO}
use Rattle.mac_wire.specs.Frame.{Frames, frames_of}

-- a stream's version, its arrivals in order, and how it ended
pub record Arrivals : Type 0 where
  pub version : Version
  pub arrived : List Arrival
  pub ending : Ending

-- frames that came in a stream of this version
abbrev pub in_version : Version → Frames → Arrivals
in_version v frames = record { version = v; arrived = frames.arrived; ending = frames.ending }

-- The arrivals of a whole stream: one that begins with the hello is of version two, and its frames
-- are what follows; any other is of version one, and nothing but frames.
unfoldable pub arrivals_of : List ℕ → Arrivals
arrivals_of [] = in_version version.One (frames_of [])
arrivals_of (first ∷ rest) =
    if first == HELLO then in_version version.Two (frames_of rest)
    else in_version version.One (frames_of (first ∷ rest))

-- the version that the bytes of a stream tell, once there is one
abbrev pub version_told : List ℕ → Option Version
version_told [] = None
version_told (first ∷ rest) = Some (arrivals_of (first ∷ rest)).version

-- the version of a stream that told this much: one that tells nothing is of version one
abbrev pub version_or_one : Option Version → Version
version_or_one None = version.One
version_or_one (Some v) = v
