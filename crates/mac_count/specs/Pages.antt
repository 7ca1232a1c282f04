-- All that a snapshot shows, in its two forms.
use Rattle.std.specs.Prelude.{ℕ, List, ◌++◌, codes}
use Rattle.std.specs.List.{flat_map}
use Rattle.mac_count.specs.Number.{all_asked, all_numbers}
use Rattle.mac_count.specs.Texts.{lines_of, metric_text, metrics_of, status_line}
use Rattle.mac_count.specs.TimeTexts.{times_lines, times_text}
use Rattle.mac_count.specs.declared.snapshot.Snapshot.{Snapshot}

-- a line for each number, then one for each kind of request and answer, then how long they took
abbrev pub status_text : Snapshot → List ℕ
status_text s = flat_map (status_line s) all_numbers ++ (flat_map (lines_of s) all_asked ++ times_lines s)

-- all numbers in Prometheus's text form
abbrev pub metrics_text : Snapshot → List ℕ
metrics_text s =
    flat_map (metric_text s) all_numbers
    ++ (codes "# TYPE macaroond_requests_total counter\n" ++ (flat_map (metrics_of s) all_asked ++ times_text s))
