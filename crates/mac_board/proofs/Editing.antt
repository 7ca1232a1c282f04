-- What an editor puts up, and tells.
use Rattle.std.proofs.Common.{◌≡◌, List, [], ◌∷◌, ◌++◌, refl}
use Rattle.std.specs.Prelude.{Option, Some, None, Result, Ok, Err, MatchResult}
use Rattle.std.specs.List.{last_or}
use Rattle.mac_keys.specs.KeyTable.{Table}

last-snoc : (o : Option Table) (ts : List Table) (t : Table) → last_or o (ts ++ t ∷ []) ≡ Some t
last-snoc o [] t = refl
last-snoc o (u ∷ us) t = last-snoc (Some u) us t

-- the table that was put up last is the last one
pub last-put : (ts : List Table) (t : Table) → last_or None (ts ++ t ∷ []) ≡ Some t
last-put ts t = last-snoc None ts t

-- what holds of both outcomes gives what follows of each
pub both : {X Y : Type 0} (A C : X → Type 0) (B D : Y → Type 0) (r : Result X Y) → ((x : X) → A x → C x) → ((y : Y) → B y → D y) → MatchResult r A B → MatchResult r C D
both A C B D (Ok x) one two h = one x h
both A C B D (Err y) one two h = two y h
