-- How the memory of a daemon is shared out.
use Rattle.std.specs.Prelude.{ℕ, ◌/◌, min}
use Rattle.mac_daemon.specs.declared.running.Shape.{Shape}

-- the bytes that tokens are remembered in: those that were asked for, and half of the memory at most
abbrev pub tokens_memory : Shape → ℕ
tokens_memory shape = min shape.remembered (shape.memory / 2)
