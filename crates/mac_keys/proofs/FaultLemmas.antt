-- Which fault a name has, by what the table above it holds.
use Rattle.std.proofs.Common.{◌≡◌, ℕ, ◌<◌, ◌≤◌, nat_le, cond, true, false, Some, None, ap, arith}
use Rattle.std.proofs.lemmas.Bool.Decides.{nat_tests}
use Rattle.mac_keys.specs.declared.fault.LineFault.TheVariants.{TooMany}
use Rattle.mac_keys.specs.declared.key_map.TheConstants.{NAMES_MAX}
use Rattle.mac_keys.specs.Table.{fault_of_keys}

full : (n : ℕ) → NAMES_MAX ≤ n → nat_le NAMES_MAX n ≡ true
full n h = grind (arith, nat_tests)

room : (n : ℕ) → n < NAMES_MAX → nat_le NAMES_MAX n ≡ false
room n h = grind (arith, nat_tests)

pub fault_of_keys-full : (names : ℕ) → NAMES_MAX ≤ names → fault_of_keys names None ≡ Some TooMany
fault_of_keys-full names h = ap (λ b. cond b (Some TooMany) None) (full names h)

pub fault_of_keys-room : (names : ℕ) → names < NAMES_MAX → fault_of_keys names None ≡ None
fault_of_keys-room names h = ap (λ b. cond b (Some TooMany) None) (room names h)
