use Rattle.std.specs.Io.KnownBytes.{Keeps}
use Rattle.mac_wire.proofs.reader_source.read_past_signals.Given as goal

-- nothing was read
abbrev pub invariant-loop : goal.invariant-loop
invariant-loop g l = Keeps (g.R.Read.remaining l.initial.reader) (g.R.Read.remaining l.reader)
