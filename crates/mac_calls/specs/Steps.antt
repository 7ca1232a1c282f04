-- Reading step by step: each step gives a value, or the refusal.
use Rattle.std.specs.Prelude.{Option, Some, None, Result, Ok, Err}
use Rattle.mac_token.specs.declared.fault.TokenRefusal.{TokenRefusal}
use Rattle.mac_decide.specs.Answer.{refusal_of}
use Rattle.mac_calls.specs.declared.fault.BodyFault.{BodyFault}
use Rattle.mac_calls.specs.declared.fault.CallRefusal.{CallRefusal}
use Rattle.mac_calls.specs.declared.fault.CallRefusal.TheVariants.{Body, Token}

-- what a step gives, or is refused with
abbrev pub Step : Type 0 → Type 0
Step X = Result X CallRefusal

infixl 10 ◌>>=◌
abbrev pub ◌>>=◌ : {X Y : Type 0} → Step X → (X → Step Y) → Step Y
(Err why) >>= f = Err why
(Ok x) >>= f = f x

-- the value, or this fault of the body
abbrev pub or_fault : {X : Type 0} → BodyFault → Option X → Step X
or_fault why None = Err (Body why)
or_fault why (Some x) = Ok x

-- what is told of a token
abbrev pub of_token : {X : Type 0} → Result X TokenRefusal → Step X
of_token (Ok x) = Ok x
of_token (Err why) = Err (Token (refusal_of why))
