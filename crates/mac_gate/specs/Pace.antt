-- When what a peer sends in pieces is looked at.
use Rattle.std.specs.Prelude.{ℕ, ◌+◌, ◌-◌, ◌*◌, ◌||◌, ◌&&◌, nat_le, nat_lt, min, Bool}
use Rattle.mac_gate.specs.declared.pace.Pace.{Pace}
use Rattle.mac_gate.specs.declared.pace.TheConstants.{LOOKS_FREE, LOOK_EACH, LOOK_MICROS, LOOK_SHARE}

-- Behind the last response nothing was looked at.
abbrev pub new_pace : Pace
new_pace = record { looks = 0; seen = 0; looked = 0 }

-- so many bytes are looked at now: at the first looks, once they are an eighth of what was seen, or
-- behind a pause, which grows with what was seen
abbrev pub is_due : Pace → ℕ → ℕ → Bool
is_due pace fresh now =
    nat_lt pace.looks LOOKS_FREE || nat_le (pace.seen) (min (fresh * LOOK_SHARE) 18_446_744_073_709_551_615)
    || (nat_le LOOK_MICROS (now - pace.looked)
    && nat_le (min (pace.seen * LOOK_EACH) 18_446_744_073_709_551_615) (now - pace.looked))

-- they were looked at; counts end at 64 bits
abbrev pub looked_at : Pace → ℕ → ℕ → Pace
looked_at pace fresh now =
    record {
      looks = min (pace.looks + 1) 18_446_744_073_709_551_615;
      seen = min (pace.seen + fresh) 18_446_744_073_709_551_615;
      looked = now;
    }
