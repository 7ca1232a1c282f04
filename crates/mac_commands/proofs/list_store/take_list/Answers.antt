use Rattle.mac_commands.proofs.list_store.take_list.Goals as goal

pub returns-in-Ok : goal.returns-in-Ok
returns-in-Ok g c =
    rw c.in-Some.is (c.in_ok-first.first.list, c.in_ok-first.ensures, c.in-Ok.ensures)
