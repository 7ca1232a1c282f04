-- How long requests took, as it is written.
use Rattle.std.specs.Prelude.{ℕ, ◌+◌, ◌/◌, ◌%◌, List, [], ◌∷◌, ◌++◌, codes, drop}
use Rattle.std.specs.Fmt.{decimal}
use Rattle.std.specs.List.{flat_map}
use Rattle.mac_count.specs.Texts.{value_text}
use Rattle.mac_count.specs.Times.{within, timed}
use Rattle.mac_count.specs.declared.snapshot.Snapshot.{Snapshot}
use Rattle.mac_count.specs.declared.times.TheConstants.{BOUND_MICROS}

-- so many microseconds, in seconds with six digits behind the point: those behind the 1 of a million more
unfoldable pub seconds_text : ℕ → List ℕ
seconds_text micros = decimal (micros / 1_000_000) ++ 46 ∷ drop 1 (decimal (1_000_000 + micros % 1_000_000))

-- so many, with these words in front
abbrev pub count_text : List ℕ → ℕ → List ℕ
count_text front count = front ++ value_text count

-- so many microseconds in seconds, with these words in front
abbrev pub time_text : List ℕ → ℕ → List ℕ
time_text front micros = front ++ seconds_text micros

-- how many requests took no longer than a bound, with the bound between these words
unfoldable pub bound_line : List ℕ → List ℕ → Snapshot → ℕ → List ℕ
bound_line front middle s bound = time_text front bound ++ count_text middle (within s bound)

-- the same for each bound of time
unfoldable pub all_bounds : List ℕ → List ℕ → Snapshot → List ℕ
all_bounds front middle s = flat_map (bound_line front middle s) BOUND_MICROS

-- what all of them took, with these words in front
unfoldable pub sum_line : List ℕ → Snapshot → List ℕ
sum_line front s = time_text front s.micros ++ 10 ∷ []

-- `requests_within seconds value` for each bound, and `requests_seconds seconds`
abbrev pub times_lines : Snapshot → List ℕ
times_lines s = all_bounds (codes "requests_within ") (codes " ") s ++ sum_line (codes "requests_seconds ") s

-- how many there were, as the bucket without a bound
unfoldable pub all_line : Snapshot → List ℕ
all_line s = count_text (codes "macaroond_request_seconds_bucket{le=\"+Inf\"} ") (timed s)

-- how many there were, as a histogram ends
unfoldable pub timed_line : Snapshot → List ℕ
timed_line s = count_text (codes "macaroond_request_seconds_count ") (timed s)

-- Prometheus's histogram
abbrev pub times_text : Snapshot → List ℕ
times_text s =
    codes "# TYPE macaroond_request_seconds histogram\n"
    ++ (all_bounds (codes "macaroond_request_seconds_bucket{le=\"") (codes "\"} ") s
    ++ (all_line s ++ (sum_line (codes "macaroond_request_seconds_sum ") s ++ timed_line s)))
