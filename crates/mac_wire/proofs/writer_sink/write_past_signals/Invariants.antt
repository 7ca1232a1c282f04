use Rattle.std.specs.Io.KnownBytes.{Keeps}
use Rattle.mac_wire.proofs.writer_sink.write_past_signals.Given as goal

-- nothing was written
abbrev pub invariant-loop : goal.invariant-loop
invariant-loop g l = Keeps (g.W.Write.contents l.initial.writer) (g.W.Write.contents l.writer)
