-- What operators are told of numbers.
use Rattle.std.specs.Prelude.{ℕ, List, ◌++◌, codes, Option}
use Rattle.mac_count.specs.Pages.{metrics_text, status_text}
use Rattle.mac_count.specs.Texts.{version_line}
use Rattle.mac_count.specs.declared.snapshot.Snapshot.{Snapshot}
use Rattle.mac_decide.specs.declared.uses.NameCounts.{NameCounts}
use Rattle.mac_keys.specs.KeyTable.{Table}
use Rattle.mac_gate.specs.KeyLines.{told_lines}
use Rattle.mac_gate.specs.KeyUses.{use_lines}

-- what stands in front of the version for Prometheus, and behind it: a metric whose value is 1, with a
-- label
abbrev pub version_front : List ℕ
version_front = codes "# TYPE macaroond_build_info gauge\nmacaroond_build_info{version=\""

abbrev pub version_back : List ℕ
version_back = codes "\"} 1\n"

-- the version in Prometheus's text form
abbrev pub version_metric : List ℕ → List ℕ
version_metric version = version_front ++ (version ++ version_back)

-- the page of numbers: the version, then all that is counted
abbrev pub numbers_text : List ℕ → Snapshot → List ℕ
numbers_text version numbers = version_metric version ++ metrics_text numbers

-- the page of a daemon's status: the version, all that is counted, how keys are used, and the keys
-- that may be told
abbrev pub status_page : List ℕ → Snapshot → List NameCounts → Option Table → List ℕ
status_page version numbers uses keys =
    version_line version ++ (status_text numbers ++ (use_lines uses ++ told_lines keys))
