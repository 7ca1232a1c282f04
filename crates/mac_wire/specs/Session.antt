-- A connection between two requests: what has come of it, and what has gone out.
use Rattle.std.specs.Prelude.{◌≡◌, ℕ, List, [], ◌++◌, length, Option, Some, None}
use Rattle.mac_wire.specs.declared.arrival.Arrival.{Arrival}
use Rattle.mac_wire.specs.declared.reply.Reply.{Reply}
use Rattle.mac_wire.specs.declared.session.Session.{Session}
use Rattle.mac_wire.specs.declared.version.Version.{Version}
use Rattle.mac_wire.specs.Frame.{frames_of, followed_by}
use Rattle.mac_wire.specs.Stream.{arrivals_of, in_version, version_told, version_or_one}
use Rattle.mac_wire.specs.Reply.{reply_text}

-- Of a stream of this version, none as long as nothing has come, so much was read: however the
-- stream goes on, its arrivals are these, and then those of the rest and of what comes.
abbrev pub HasCome : Option Version → List ℕ → List Arrival → List ℕ → Type 0
HasCome None read arrived rest = (read ≡ []) × (arrived ≡ []) × (rest ≡ [])
HasCome (Some v) read arrived rest =
    (version_told read ≡ Some v)
    × ((more : List ℕ) → arrivals_of (read ++ more)
    ≡ in_version v (followed_by arrived (frames_of (rest ++ more))))

-- what stands in front of all that arrived, and the version that it was told in
pub record Fronts (v : Option Version) (read : List ℕ) (front : List Arrival) : Type 0 where
  pub told : v ≡ version_told read
  pub lost : List Arrival
  pub came : (arrivals_of read).arrived ≡ front ++ lost

-- These arrivals of what was read have their replies, the others are in the rest; what was written
-- and what is unsent are together the frames of the replies, in order, each at its place.
pub record HasAnswered (session : Session) (rest read written : List ℕ)
    (arrived : List Arrival) (replies : List Reply) : Type 0 where
  pub came : HasCome session.version read arrived rest
  pub went : written ++ session.unsent ≡ reply_text (version_or_one session.version) replies
  pub each : length replies ≡ length arrived
  pub counted : session.answered ≡ length replies

-- all that was read is answered, but for what is carried
abbrev pub Stands : Session → (read written : List ℕ) → List Arrival → List Reply → Type 0
Stands session read written arrived replies =
    HasAnswered session session.carried.items read written arrived replies
