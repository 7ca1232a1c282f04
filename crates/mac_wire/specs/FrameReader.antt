-- What a reader of a stream was fed, and what it handed out.
use Rattle.std.specs.Prelude.{◌≡◌, ◌≢◌, ℕ, List, [], ◌∷◌, ◌++◌, Option, Some, None}
use Rattle.mac_wire.specs.declared.arrival.Arrival.{Arrival}
use Rattle.mac_wire.specs.declared.arrival.Ending.TheVariants as ending
use Rattle.mac_wire.specs.declared.frame.FrameReader.{FrameReader}
use Rattle.mac_wire.specs.declared.frame.Stage.{Stage}
use Rattle.mac_wire.specs.declared.frame.Stage.TheVariants as stage
use Rattle.mac_wire.specs.declared.version.Version.{Version}
use Rattle.mac_wire.specs.declared.version.Version.TheVariants as version
use Rattle.mac_wire.specs.declared.version.TheConstants.{HELLO}
use Rattle.mac_wire.specs.Frame.{frames_of, followed_by, IsUnfinished}

-- At this stage a reader was fed these frames and handed out the arrivals: less than a frame is
-- held, and however the frames go on, their arrivals are these, and then those of the bytes that
-- are held and of what comes. After an Oversize nothing comes.
abbrev pub HasReadTo : Stage → List ℕ → List Arrival → Type 0
HasReadTo (stage.Open held) frames handed =
    IsUnfinished held
    × ((more : List ℕ)
    → frames_of (frames ++ more) ≡ followed_by handed (frames_of (held ++ more)))
HasReadTo stage.Oversize frames handed =
    (more : List ℕ)
    → frames_of (frames ++ more) ≡ record { arrived = handed; ending = ending.Oversize }
HasReadTo stage.Broken frames handed = ⊥

-- Of a stream of this version, none as long as nothing has come, a reader at this stage was fed so
-- much and handed out the arrivals: a hello is no part of the frames.
abbrev pub HasReadIn : Option Version → Stage → List ℕ → List Arrival → Type 0
HasReadIn None stage stream handed = (stream ≡ []) × HasReadTo stage [] handed
HasReadIn (Some version.One) stage stream handed =
    (first : ℕ) × (rest : List ℕ) × (stream ≡ first ∷ rest) × (first ≢ HELLO)
    × HasReadTo stage stream handed
HasReadIn (Some version.Two) stage stream handed =
    (rest : List ℕ) × (stream ≡ HELLO ∷ rest) × HasReadTo stage rest handed

-- the reader was fed this stream and handed out these arrivals, and no feed failed
abbrev pub HasRead : FrameReader → List ℕ → List Arrival → Type 0
HasRead reader stream handed = HasReadIn reader.version reader.stage stream handed

-- the version that the reader's stream has told, if any
abbrev pub version_of : FrameReader → Option Version
version_of reader = reader.version

-- each further feed answers Ended
abbrev pub HasEndedAt : Stage → Type 0
HasEndedAt (stage.Open held) = ⊥
HasEndedAt stage.Oversize = Unit {0}
HasEndedAt stage.Broken = Unit {0}

abbrev pub HasEnded : FrameReader → Type 0
HasEnded reader = HasEndedAt reader.stage

-- a feed answered want of memory
abbrev pub IsBroken : FrameReader → Type 0
IsBroken reader = reader.stage ≡ stage.Broken
