-- Moments, as RFC 3339 writes them.
use Rattle.std.specs.Prelude.{◌≡◌, ℕ, ◌*◌, ◌++◌, min, List, pos, false, Some, codes}
use Rattle.jiff.specs.Types.{DateTime}
use Rattle.jiff.specs.Words.{civil_nanos, datetime_text}
use Rattle.mac_log.specs.declared.moment.TheConstants.{MOMENT_MAX}

-- what a clock in UTC shows so many milliseconds from 1970, with three places of a second and a Z
abbrev pub IsMoment : ℕ → List ℕ → Type 0
IsMoment millis text =
    (shown : DateTime) × (civil_nanos shown ≡ pos (min millis MOMENT_MAX * 1_000_000))
    × (text ≡ datetime_text false 84 (Some 3) shown ++ codes "Z")

-- that moment behind what was there
abbrev pub AddsMoment : ℕ → List ℕ → List ℕ → Type 0
AddsMoment millis old new = (text : List ℕ) × IsMoment millis text × (new ≡ old ++ text)
