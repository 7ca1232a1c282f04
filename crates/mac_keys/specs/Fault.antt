-- The numbers of the faults that a line of a key file may have.
use Rattle.std.specs.Prelude.{ℕ}
use Rattle.mac_keys.specs.declared.fault.LineFault.{LineFault}
use Rattle.mac_keys.specs.declared.fault.LineFault.TheVariants.{BadName, BadHex, EmptySecret, Twice, TooMany, BadLine}

-- each kind's number, as the project fixed it for good
abbrev pub code_of : LineFault → ℕ
code_of BadName = 1
code_of BadHex = 2
code_of EmptySecret = 3
code_of Twice = 4
code_of TooMany = 5
code_of BadLine = 6
