-- The loops of a daemon before they have threads.
use Rattle.std.specs.Prelude.{ℕ, length}
use Rattle.mac_loop.specs.declared.register.Origin.{Ghosts}
use Rattle.mac_daemon.specs.declared.unstarted.Unstarted.{Unstarted}

-- how many there are
abbrev pub count_unstarted : {O : Type 0} {origin : Ghosts O} → Unstarted O origin → ℕ
count_unstarted unstarted = length unstarted.made.items
