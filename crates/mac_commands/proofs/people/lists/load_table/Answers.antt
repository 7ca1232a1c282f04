use Rattle.std.proofs.Common.{refl}
use Rattle.mac_commands.proofs.people.lists.load_table.Goals as goal

pub returns-in_ok-take_back-in-Some : goal.returns-in_ok-take_back-in-Some
returns-in_ok-take_back-in-Some g c = (
  c.in_ok-table.table,
  c.in_ok-table.ensures,
  rw c.in-Some.is (c.in_ok-list-in-Some.list, c.in_ok-list-in-Some.ensures, c.in_ok-take_back-in-Some.ensures),
)

pub returns-in-None : goal.returns-in-None
returns-in-None g c = (c.in_ok-table.table, c.in_ok-table.ensures, rw c.in-None.is refl)
