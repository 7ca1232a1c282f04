use Rattle.std.proofs.Common.{◌≡◌, ◌++◌, length, map}
use Rattle.std.specs.Prelude.{IsTrue}
use Rattle.mac_decide.specs.Answer.{full_answer}
use Rattle.mac_commands.specs.Arrived.{arrival_of}
use Rattle.mac_commands.specs.Lines.{lines}
use Rattle.mac_commands.specs.PipeText.{answers}
use Rattle.mac_commands.proofs.OutputLemmas.{Remains}
use Rattle.mac_commands.proofs.piping.write_answers.Given as goal

abbrev pub invariant-loop-line : goal.invariant-loop-line
invariant-loop-line g l =
    (IsTrue g.W.Sink.tells → Remains (answers (full_answer l.moment l.table) (map arrival_of (lines l.requests)))
    (g.W.Sink.written l.initial.sink) (g.W.Sink.written l.sink)
    (l.gathered.items ++ answers (full_answer l.moment l.table) (map arrival_of (lines l.rest))))
    × (g.W.Sink.faults l.sink ≡ g.W.Sink.faults l.initial.sink)

abbrev pub decreases-loop-line : goal.decreases-loop-line
decreases-loop-line g l = length l.rest
