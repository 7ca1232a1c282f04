-- What a call that takes memory answers: what a function on lists gives, or want of memory.
use Rattle.std.specs.Prelude.{◌≡◌, Result, Ok, Err}
use Rattle.mac_token.specs.declared.fault.TokenFault.{TokenFault}
use Rattle.mac_token.specs.declared.fault.TokenFault.TheVariants.{Refused, Memory}
use Rattle.mac_token.specs.declared.fault.TokenRefusal.{TokenRefusal}

-- the fault is the refusal that is the answer, or want of memory
abbrev pub IsFault : {Y : Type 0} → TokenFault → Result Y TokenRefusal → Type 0
IsFault (Refused refusal) answer = answer ≡ Err refusal
IsFault Memory answer = Unit {0}

-- what was returned, seen by view, is the answer, or there was want of memory
abbrev pub Answers : {X Y : Type 0} → (X → Y) → Result X TokenFault → Result Y TokenRefusal → Type 0
Answers view (Ok x) answer = answer ≡ Ok (view x)
Answers view (Err fault) answer = IsFault fault answer

-- what was returned, seen by view, is an end that this relation has, or there was want of memory
abbrev pub Ends : {X Y : Type 0} → (X → Y) → Result X TokenFault → (Result Y TokenRefusal → Type 0)
    → Type 0
Ends view (Ok x) IsEnd = IsEnd (Ok (view x))
Ends view (Err (Refused refusal)) IsEnd = IsEnd (Err refusal)
Ends view (Err Memory) IsEnd = Unit {0}
