use Rattle.std.proofs.Common.{length}
use Rattle.mac_keys.specs.Filter.{AdmitsAll}
use Rattle.mac_keys.specs.Table.{lines_of}
use Rattle.mac_keys.proofs.RevokedLemmas.{LeadsOn}
use Rattle.mac_keys.proofs.revoked.read_filtered.Given as goal

abbrev pub invariant-loop-index : goal.invariant-loop-index
invariant-loop-index l = LeadsOn (lines_of l.text) (length l.yielded) l.lists × AdmitsAll l.lists l.filter
