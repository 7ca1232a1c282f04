-- What a call that takes memory gives: what its definition gives, or want of memory.
use Rattle.std.specs.Prelude.{◌≡◌, Result, Ok, Err}
use Rattle.mac_calls.specs.declared.fault.CallFault.{CallFault}
use Rattle.mac_calls.specs.declared.fault.CallFault.TheVariants.{Refused, Memory}
use Rattle.mac_calls.specs.Steps.{Step}

-- the fault is the refusal that is the answer, or want of memory
abbrev pub IsFault : {Y : Type 0} → CallFault → Step Y → Type 0
IsFault (Refused why) answer = answer ≡ Err why
IsFault Memory answer = Unit {0}

-- what was returned, seen by view, is the answer, or there was want of memory
abbrev pub Gives : {X Y : Type 0} → (X → Y) → Result X CallFault → Step Y → Type 0
Gives view (Ok x) answer = answer ≡ Ok (view x)
Gives view (Err fault) answer = IsFault fault answer
