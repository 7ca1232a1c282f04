use Rattle.mac_host.proofs.requested.with_identifier.Goals as goal

pub returns-in-Some : goal.returns-in-Some
returns-in-Some c = rw (c.in-Some.is, ← c.as_slice.ensures.value) c.with_front.ensures
