-- A refusal of a part is one of the whole.
use Rattle.mac_token.specs.Reads.{Refuses}
use Rattle.mac_token.specs.declared.fault.TokenFault.{TokenFault}
use Rattle.mac_token.specs.declared.fault.TokenFault.TheVariants.{Refused, Memory}

-- where the whole spells a part, a refusal of the part is one of the whole
pub refuses_through : {Y Z : Type 0} (fault : TokenFault) (Part : Y → Type 0) (Spelled : Z → Type 0) → Refuses Part fault → ((z : Z) → Spelled z → (y : Y) × Part y) → Refuses Spelled fault
refuses_through (Refused reason) Part Spelled nothing part = (nothing.0, λ z whole. let p = part z whole in nothing.1 p.0 p.1)
refuses_through Memory Part Spelled nothing part = tt

-- where each whole has a part, what refuses the part refuses the whole
pub Refuses-whole : {X Y : Type 0} (Part : X → Type 0) (Whole : Y → Type 0) → ((y : Y) → Whole y → (x : X) × Part x)
    → (fault : TokenFault) → Refuses Part fault → Refuses Whole fault
Refuses-whole Part Whole part fault refused = refuses_through fault Part Whole refused part
