use Rattle.mac_commands.proofs.people.checking.check_list.Goals as goal

pub returns-in-Ok : goal.returns-in-Ok
returns-in-Ok g c =
    (c.as_slice-bytes.result.now, c.in-Ok._list, c.in-Ok.ensures, c.in_ok-told-in-Ok.ensures)
