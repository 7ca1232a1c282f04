use Rattle.std.proofs.Common.{◌≡◌, ◌-◌, ◌≤◌, [], length}
use Rattle.crossbeam_queue.specs.Passes.{view, IsPassOf}
use Rattle.mac_queue.specs.Balance.{account}
use Rattle.mac_queue.specs.Pass.{AreFresh}
use Rattle.mac_queue.specs.declared.queue.TheConstants.{PASSES}
use Rattle.mac_queue.proofs.queue.passes_of.Given as goal

abbrev pub invariant-loop-number : goal.invariant-loop-number
invariant-loop-number g l = record {
  seat : IsPassOf l.cells l.rest;
  rest : view l.rest ≡ account (PASSES - l.number) [] [];
  count : length l.passes.items ≡ l.number;
  below : l.number ≤ PASSES - 1;
  fresh : AreFresh l.cells.table.shared.table_id l.passes.items;
}
