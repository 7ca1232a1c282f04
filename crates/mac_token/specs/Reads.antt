-- For proofs: what the answer of a form's reader says against its grammar.
use Rattle.std.specs.Prelude.{◌≡◌, Result, Ok, Err, Option, Some, None}
use Rattle.mac_token.specs.declared.fault.TokenFault.{TokenFault}
use Rattle.mac_token.specs.declared.fault.TokenFault.TheVariants.{Refused, Memory}
use Rattle.mac_token.specs.declared.fault.TokenRefusal.TheVariants.{Malformed}

-- no refusal but Malformed, only where nothing of this kind is spelled
abbrev pub Refuses : {X : Type 0} → (X → Type 0) → TokenFault → Type 0
Refuses {X} Spelled (Refused reason) = (reason ≡ Malformed) × ((x : X) → Spelled x → ⊥)
Refuses Spelled Memory = Unit {0}

-- what is read is spelled so; what is refused is spelled by nothing, want of memory aside
abbrev pub Reads : {X Y : Type 0} → (X → Y) → (Y → Type 0) → Result X TokenFault → Type 0
Reads view Spelled (Ok x) = Spelled (view x)
Reads view Spelled (Err fault) = Refuses Spelled fault

-- no refusal but Malformed, only where a reading of lists gives nothing
abbrev pub Fails : {Y : Type 0} → TokenFault → Option Y → Type 0
Fails (Refused reason) reading = (reason ≡ Malformed) × (reading ≡ None)
Fails Memory reading = Unit {0}

-- what is read, seen by view, is what a reading of lists gives
abbrev pub Answers : {X Y : Type 0} → (X → Y) → Result X TokenFault → Option Y → Type 0
Answers view (Ok x) reading = reading ≡ Some (view x)
Answers view (Err fault) reading = Fails fault reading
