use Rattle.mac_commands.proofs.people.checking.tell_names.Goals as goal

pub returns-in_ok-said-in-Some : goal.returns-in_ok-said-in-Some
returns-in_ok-said-in-Some g c =
    let e = c.in_ok-said-in-Some.ensures in
    rw c.in-Some.is (e.0, e.1.0, e.1.1, e.1.2)
