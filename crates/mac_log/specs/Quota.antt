-- How many lines of a kind are printed in a second.
use Rattle.std.specs.Prelude.{ℕ, ◌+◌, ◌-◌, ◌&&◌, nat_le, nat_lt, min, is_some, unwrap_or, Bool, if◌then◌else◌, List, [], ◌∷◌, Option, Some, None}
use Rattle.mac_log.specs.declared.quota.Quota.{Quota}
use Rattle.mac_log.specs.declared.quota.TheConstants.{LINES_MAX, SECOND}

-- nothing was printed or left out
abbrev pub new_quota : Quota
new_quota = record { start = 0; printed = 0; left_out = 0 }

-- the second that runs is over
abbrev pub is_over : Quota → ℕ → Bool
is_over q now = nat_le SECOND (now - q.start)

-- lines were left out of which nobody was told
abbrev pub is_owing : Quota → Bool
is_owing q = nat_lt 0 q.left_out

-- so many more lines were left out, of which 64 bits are counted
abbrev pub with_left_out : Quota → ℕ → Quota
with_left_out q count = record q { left_out = min (q.left_out + count) 18_446_744_073_709_551_615 }

-- A line at this moment. The first one of a second is printed behind the count of those that were
-- left out before it, up to ten are printed in all, and every other one is left out and counted.
abbrev pub admitted : Quota → ℕ → Option ℕ × Quota
admitted q now =
    if is_over q now then (Some q.left_out, record { start = now; printed = 1; left_out = 0 })
    else (if nat_lt q.printed LINES_MAX then (Some 0, record q { printed = q.printed + 1 })
    else (None, with_left_out q 1))

-- What is told though no line comes: the count of those that were left out, once their second is
-- over.
abbrev pub settled : Quota → ℕ → ℕ × Quota
settled q now =
    if is_owing q && is_over q now then (q.left_out, record { start = now; printed = 0; left_out = 0 })
    else (0, q)

-- the quota behind lines at these moments
abbrev pub after : Quota → List ℕ → Quota
after q [] = q
after q (now ∷ later) = after (admitted q now).1 later

-- how many of the lines at these moments are printed
abbrev pub printed_count : Quota → List ℕ → ℕ
printed_count q [] = 0
printed_count q (now ∷ later) =
    (if is_some (admitted q now).0 then 1 else 0) + printed_count (admitted q now).1 later

-- how many lines are told to be left out at these moments
abbrev pub told_count : Quota → List ℕ → ℕ
told_count q [] = 0
told_count q (now ∷ later) = unwrap_or (admitted q now).0 0 + told_count (admitted q now).1 later
