-- Whom a daemon admitted, and who has gone.
use Rattle.std.specs.Prelude.{List}
use Rattle.mac_loop.specs.Ledger.{entered_of, gone_of}
use Rattle.mac_loop.specs.declared.register.Admitted.{Admitted}
use Rattle.mac_loop.specs.declared.register.Settled.{Settled}

-- all that were admitted
abbrev pub all_admitted : Settled → List Admitted
all_admitted settled = entered_of settled.book.value

-- those of them that have gone
abbrev pub all_gone : Settled → List Admitted
all_gone settled = gone_of settled.book.value
