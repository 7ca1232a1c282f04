-- How an answer of the code is compared with what a definition gives.
use Rattle.std.specs.Prelude.{◌≡◌, Result, Ok, Err}
use Rattle.mac_keys.specs.declared.fault.LineFault.{LineFault}
use Rattle.mac_keys.specs.declared.line.KeyLine.{KeyLine}
use Rattle.mac_keys.specs.declared.line.Refusal.{Refusal}
use Rattle.mac_keys.specs.declared.line.Refusal.TheVariants.{Line, Memory}
use Rattle.mac_keys.specs.Line.{Given}

-- a refusal for want of memory says nothing; any other is the fault that the definition gives
abbrev pub Refuses : {Y : Type 0} → Refusal → Result Y LineFault → Type 0
Refuses (Line fault) said = said ≡ Err fault
Refuses Memory said = Unit {0}

-- the answer, seen by view, is what the definition gives, unless memory runs out
abbrev pub Answers : {X Y : Type 0} → (X → Y) → Result X Refusal → Result Y LineFault → Type 0
Answers view (Ok x) said = said ≡ Ok (view x)
Answers view (Err refusal) said = Refuses refusal said

-- what a line gives, apart from where its bytes lie
abbrev pub seen : KeyLine → Given
seen line = record { name = line.name.now; secret = line.secret.items }
