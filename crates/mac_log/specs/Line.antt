-- A line, as it is printed.
use Rattle.std.specs.Prelude.{◌≡◌, ℕ, Bool, if◌then◌else◌, List, [], ◌∷◌, ◌++◌}
use Rattle.mac_log.specs.declared.kind.Kind.{Kind}
use Rattle.mac_log.specs.declared.level.Level.{Level}
use Rattle.mac_log.specs.declared.line.Line.{Line}
use Rattle.mac_log.specs.Level.{level_word, priority_text}
use Rattle.mac_log.specs.Kind.{kind_level, kind_word}
use Rattle.mac_log.specs.Moment.{IsMoment}

-- what stands in front of a line for systemd's journal, where that is asked for
abbrev pub front_text : Bool → Level → List ℕ
front_text has_priority level = if has_priority then priority_text level else []

-- the words of a kind, each behind a space: how grave it is, and what it is
abbrev pub kind_text : Kind → List ℕ
kind_text kind = 32 ∷ level_word (kind_level kind) ++ 32 ∷ kind_word kind

-- `time level what key=value ..` and a line feed
abbrev pub IsLineText : Bool → Line → List ℕ → Type 0
IsLineText has_priority line text =
    (time : List ℕ) × IsMoment line.millis time
    × (text ≡ front_text has_priority (kind_level line.kind) ++ (time ++ (kind_text line.kind ++ (line.fields.text ++ 10 ∷ []))))

-- the line behind what was there
abbrev pub AddsLine : Bool → Line → List ℕ → List ℕ → Type 0
AddsLine has_priority line old new =
    (text : List ℕ) × IsLineText has_priority line text × (new ≡ old ++ text)
