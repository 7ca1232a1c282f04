-- How many lines wait to be printed.
use Rattle.std.specs.Prelude.{ℕ}
use Rattle.mac_log.specs.declared.kind.Kind.{Kind}
use Rattle.mac_log.specs.declared.kind.Kind.TheVariants as kind
use Rattle.mac_log.specs.declared.log.TheConstants.{REQUESTS_WAITING_MAX, WAITING_MAX}

-- a line of this kind is let in only while fewer lines than that wait
abbrev pub waiting_max : Kind → ℕ
waiting_max kind.Request = REQUESTS_WAITING_MAX
waiting_max kind.Mint = REQUESTS_WAITING_MAX
waiting_max _ = WAITING_MAX
