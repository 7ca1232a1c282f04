-- Lists of byte lists, element by element.
use Rattle.std.proofs.Common.{◌≡◌, ℕ, ◌<◌, ◌^◌, Bool, ◌||◌, List, [], ◌∷◌, length, map, get_or, refl, ap}
use Rattle.std.specs.List.{list_any}
use Rattle.std.specs.declared.alloc.Global.{Global}
use Rattle.std.specs.declared.vec.Vec.{Vec}
use Rattle.std.proofs.lemmas.List.{length-map, get_or-map}
use Rattle.mac_wire.specs.Request.{AreFields}
use Rattle.mac_token.specs.RawToken.{byte_lists}

-- to look at what elements stand for is to look at the elements
pub any_mapped : {X Y : Type 0} (f : X → Y) (p : Y → Bool) (xs : List X) → list_any (λ x. p (f x)) xs ≡ list_any p (map f xs)
any_mapped f p [] = refl
any_mapped f p (x ∷ xs) = ap (λ b. p (f x) || b) (any_mapped f p xs)

-- a buffer among fields is one
pub short_at : (facts : List (Vec ℕ Global)) (i : ℕ) (fact : Vec ℕ Global) → i < length facts → fact ≡ get_or facts i fact → AreFields (byte_lists facts) → length fact.items < 2 ^ 16
short_at facts i fact below is fields =
    let bound = fields i fact.items (rw (length-map facts (λ (f : Vec ℕ Global). f.items)) below) in
    let same : get_or (byte_lists facts) i fact.items ≡ (get_or facts i fact).items = get_or-map (λ (f : Vec ℕ Global). f.items) facts i fact fact.items below in
    rw (is, ← same) bound
