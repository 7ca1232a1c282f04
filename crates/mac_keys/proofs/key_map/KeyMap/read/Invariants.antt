use Rattle.std.proofs.Common.{length}
use Rattle.mac_keys.specs.Table.{lines_of}
use Rattle.mac_keys.proofs.Lines.{SoFar}
use Rattle.mac_keys.proofs.key_map.KeyMap.read.Given as goal

abbrev pub invariant-loop-index : goal.invariant-loop-index
invariant-loop-index l = SoFar (lines_of l.text) (length l.yielded) l.table
