-- How many bytes may be taken, how many are, and who lacks some.
use Rattle.std.specs.Prelude.{ℕ, Bool, Option, Some, None, ◌+◌, ◌-◌, ◌*◌, ◌==◌}
use Rattle.std.specs.Prelude.{min, max, nat_le, nat_lt, if◌then◌else◌}

-- the bytes that there are, those of them that are taken, those that connections hold, and the most
-- that anybody wants who lacks it
pub record Funds : Type 0 where
  pub most : ℕ
  pub taken : ℕ
  pub held : ℕ
  pub wanted : ℕ

-- so many, none of which are taken
abbrev pub no_bytes_of : ℕ → Funds
no_bytes_of most = record { most = most; taken = 0; held = 0; wanted = 0 }

-- the same, of which so many are taken, or held, or wanted
abbrev pub with_taken : Funds → ℕ → Funds
with_taken funds taken = record funds { taken = taken }

abbrev pub with_held : Funds → ℕ → Funds
with_held funds held = record funds { held = held }

abbrev pub with_wanted : Funds → ℕ → Funds
with_wanted funds wanted = record funds { wanted = wanted }

-- so much more, as far as a count of 64 bits goes
abbrev pub plus_more : ℕ → ℕ → ℕ
plus_more held more = min (held + more) 18_446_744_073_709_551_615

-- what connections hold together, of which one held so much before and holds so much now
abbrev pub counted : ℕ → ℕ → ℕ → ℕ
counted held before now = plus_more (held - before) now

-- the most that is wanted, once somebody wants so much who wanted so much before: where that was
-- the most, nobody else's is known until he asks again
abbrev pub most_wanted : ℕ → ℕ → ℕ → ℕ
most_wanted wanted before now = max (if wanted == before then 0 else wanted) now

-- what connections hold, where that leaves less than is wanted, whatever turns have beside it
abbrev pub held_in_want : Funds → Option ℕ
held_in_want funds =
    if nat_lt funds.most (plus_more funds.held funds.wanted) then Some funds.held else None

-- what a loop wants that has asked for so much: nothing where it has that, or lacks it a first time
abbrev pub wanted_behind : Bool → Bool → ℕ → ℕ
wanted_behind has_it lacked more = if has_it then 0 else if lacked then more else 0

-- a loop's connections hold at least half of what each of so many loops has in the mean
abbrev pub is_much : ℕ → ℕ → ℕ → Bool
is_much held loops all = nat_le all (held * 2 * loops)
