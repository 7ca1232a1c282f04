use Rattle.std.proofs.Common.{◌≡◌, ◌≤◌, length}
use Rattle.mac_words.specs.Inspected.{AreLines}
use Rattle.mac_words.proofs.InspectedLemmas.{Adds}
use Rattle.mac_words.proofs.caveat_lines.append_caveats.Given as goal

abbrev pub invariant-loop-caveat : goal.invariant-loop-caveat
invariant-loop-caveat l = record {
  place : l.place ≡ l.caveat-index;
  within : l.caveat-index ≤ length l.caveats;
  lines : Adds (AreLines l.caveat-index l.caveats) l.fn.out.items l.out.items;
}
