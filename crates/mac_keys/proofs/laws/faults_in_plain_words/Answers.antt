use Rattle.std.proofs.Common.{take}
use Rattle.mac_keys.specs.declared.fault.LineFault.TheVariants.{BadName, BadHex, EmptySecret, BadLine}
use Rattle.mac_keys.specs.Table.{keys_of}
use Rattle.mac_keys.proofs.Above.{has_fault_below, IsTwice-from_fault, fault_from_IsTwice, IsTooMany-from_fault, fault_from_IsTooMany}
use Rattle.mac_keys.proofs.laws.faults_in_plain_words.Goals as goal

pub returns-clause-bad_line : goal.returns-clause-bad_line
returns-clause-bad_line c lines place line = has_fault_below (keys_of (take place lines)) line BadLine

pub returns-clause-bad_name : goal.returns-clause-bad_name
returns-clause-bad_name c lines place line = has_fault_below (keys_of (take place lines)) line BadName

pub returns-clause-empty_secret : goal.returns-clause-empty_secret
returns-clause-empty_secret c lines place line = has_fault_below (keys_of (take place lines)) line EmptySecret

pub returns-clause-bad_hex : goal.returns-clause-bad_hex
returns-clause-bad_hex c lines place line = has_fault_below (keys_of (take place lines)) line BadHex

pub returns-clause-twice : goal.returns-clause-twice
returns-clause-twice c lines place line = (IsTwice-from_fault (take place lines) line, fault_from_IsTwice (take place lines) line)

pub returns-clause-too_many : goal.returns-clause-too_many
returns-clause-too_many c lines place line = (IsTooMany-from_fault (take place lines) line, fault_from_IsTooMany (take place lines) line)
