-- What one call does to a device that doesn't wait.
use Rattle.std.specs.Prelude.{◌≡◌, ℕ, ◌≤◌, List, [], ◌++◌, take}
use Rattle.mac_plain.specs.declared.port.Came.{Came}
use Rattle.mac_plain.specs.declared.port.Came.TheVariants as came
use Rattle.mac_plain.specs.declared.port.Went.{Went}
use Rattle.mac_plain.specs.declared.port.Went.TheVariants as went

-- no more came than there is room for
abbrev pub FitsCame : Came → ℕ → Type 0
FitsCame (came.Bytes n) room = n ≤ room
FitsCame came.Later room = Unit {0}
FitsCame came.End room = Unit {0}
FitsCame came.Fault room = Unit {0}

-- no more went than there was
abbrev pub FitsWent : Went → ℕ → Type 0
FitsWent (went.Bytes n) offered = n ≤ offered
FitsWent went.Later offered = Unit {0}
FitsWent went.Fault offered = Unit {0}

-- the bytes that came: the first n of the buffer, and else none
abbrev pub came_of : Came → List ℕ → List ℕ
came_of (came.Bytes n) buffer = take n buffer
came_of came.Later buffer = []
came_of came.End buffer = []
came_of came.Fault buffer = []

-- the bytes that went: the first n of the buffer, and else none
abbrev pub went_of : Went → List ℕ → List ℕ
went_of (went.Bytes n) buffer = take n buffer
went_of went.Later buffer = []
went_of went.Fault buffer = []

-- the bytes taken so far grow by those that came
abbrev pub Takes : Came → List ℕ → List ℕ → List ℕ → Type 0
Takes answer buffer old new = new ≡ old ++ came_of answer buffer

-- the bytes written so far grow by those that went
abbrev pub Gives : Went → List ℕ → List ℕ → List ℕ → Type 0
Gives answer buffer old new = new ≡ old ++ went_of answer buffer
