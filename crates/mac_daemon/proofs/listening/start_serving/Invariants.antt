use Rattle.mac_loop.specs.Ledger.{name_of}
use Rattle.mac_daemon.proofs.listening.start_serving.Given as goal

-- the connections are in the ledger that was opened
abbrev pub ghosts-start_with_ledger : goal.ghosts-start_with_ledger
ghosts-start_with_ledger g a = record { ledger = name_of a.ledger.0.value }
