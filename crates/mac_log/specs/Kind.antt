-- What lines tell of: the word of each kind, and how grave it is.
use Rattle.std.specs.Prelude.{ℕ, Bool, List, codes, false, true}
use Rattle.mac_log.specs.declared.kind.Kind.{Kind}
use Rattle.mac_log.specs.declared.kind.Kind.TheVariants as kind
use Rattle.mac_log.specs.declared.level.Level.{Level}
use Rattle.mac_log.specs.declared.level.Level.TheVariants.{Error, Warning, Info}

-- the word of a kind
abbrev pub kind_word : Kind → List ℕ
kind_word kind.Start = codes "start"
kind_word kind.KeysRead = codes "keys_read"
kind_word kind.KeysRefused = codes "keys_refused"
kind_word kind.KeysEmpty = codes "keys_empty"
kind_word kind.RevokedRead = codes "revoked_read"
kind_word kind.RevokedRefused = codes "revoked_refused"
kind_word kind.ConnectionFault = codes "connection_fault"
kind_word kind.ConnectionIdle = codes "connection_idle"
kind_word kind.ConnectionDropped = codes "connection_dropped"
kind_word kind.LimitReached = codes "limit_reached"
kind_word kind.LimitLow = codes "limit_low"
kind_word kind.AcceptFault = codes "accept_fault"
kind_word kind.SystemFault = codes "system_fault"
kind_word kind.Request = codes "request"
kind_word kind.Mint = codes "mint"
kind_word kind.Replaced = codes "replaced"
kind_word kind.Drain = codes "drain"
kind_word kind.End = codes "end"
kind_word kind.LeftOut = codes "left_out"

-- What the daemon can't do is an error, what somebody should look at a warning. A connection that
-- ends in a fault is its peer's doing, and no error of the daemon's.
abbrev pub kind_level : Kind → Level
kind_level kind.Start = Info
kind_level kind.KeysRead = Info
kind_level kind.KeysRefused = Error
kind_level kind.KeysEmpty = Warning
kind_level kind.RevokedRead = Info
kind_level kind.RevokedRefused = Error
kind_level kind.ConnectionFault = Warning
kind_level kind.ConnectionIdle = Info
kind_level kind.ConnectionDropped = Warning
kind_level kind.LimitReached = Warning
kind_level kind.LimitLow = Warning
kind_level kind.AcceptFault = Error
kind_level kind.SystemFault = Error
kind_level kind.Request = Info
kind_level kind.Mint = Info
kind_level kind.Replaced = Info
kind_level kind.Drain = Info
kind_level kind.End = Info
kind_level kind.LeftOut = Warning

-- whether few of its lines are printed in a second
abbrev pub is_bounded : Kind → Bool
is_bounded kind.Request = false
is_bounded kind.Mint = false
is_bounded _ = true

-- the place of a kind among all
abbrev pub kind_place : Kind → ℕ
kind_place kind.Start = 0
kind_place kind.KeysRead = 1
kind_place kind.KeysRefused = 2
kind_place kind.KeysEmpty = 3
kind_place kind.RevokedRead = 4
kind_place kind.RevokedRefused = 5
kind_place kind.ConnectionFault = 6
kind_place kind.ConnectionIdle = 7
kind_place kind.ConnectionDropped = 8
kind_place kind.LimitReached = 9
kind_place kind.LimitLow = 10
kind_place kind.AcceptFault = 11
kind_place kind.SystemFault = 12
kind_place kind.Request = 13
kind_place kind.Mint = 14
kind_place kind.Replaced = 15
kind_place kind.Drain = 16
kind_place kind.End = 17
kind_place kind.LeftOut = 18
