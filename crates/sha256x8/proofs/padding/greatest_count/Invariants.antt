use Rattle.std.proofs.Common.{ℕ, ◌*◌, ◌<◌, ◌≤◌, length}
use Rattle.sha256x8.specs.Padded.{padded_text}
use Rattle.sha256x8.proofs.LaneWise.{text_of}
use Rattle.sha256x8.proofs.padding.greatest_count.Given as goal

abbrev pub invariant-loop-text : goal.invariant-loop-text
invariant-loop-text l = (k : ℕ) → k < l.text-index
    → length (padded_text (text_of l.texts k)) ≤ 64 * l.greatest
