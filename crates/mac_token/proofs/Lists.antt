-- Lists seen through a function of their elements.
use Rattle.std.proofs.Common.{◌≡◌, ℕ, ◌+◌, ◌<◌, List, [], ◌∷◌, ◌++◌, map, take, get_or, length, All, sym, subst, ap, ◌∙◌}
use Rattle.std.specs.declared.alloc.Global.{Global}
use Rattle.std.specs.declared.vec.Vec.{Vec}
use Rattle.std.proofs.lemmas.List.{get_or-map, length-map, map_more, take_at, take-map}
use Rattle.mac_token.specs.RawToken.{byte_lists}

-- what holds of each element seen through f holds of f of each element
pub All_of_map : {X Y : Type 0} (P : X → Type 0) (f : Y → X) (ys : List Y) → All P (map f ys) → All (λ y. P (f y)) ys
All_of_map P f ys all k d below =
    subst P (get_or-map f ys k d (f d) below) (all k (f d) (subst (λ n. k < n) (sym (length-map ys f)) below))

-- what was pushed is cut off again
pub cut_back : (old new : List (Vec ℕ Global)) (more : List (List ℕ)) (n : ℕ) → n ≡ length old → byte_lists new ≡ byte_lists old ++ more → byte_lists (take n new) ≡ byte_lists old
cut_back old new more n n-is grown =
    sym (take-map (λ (b : Vec ℕ Global). b.items) n new) ∙ ap (take n) grown ∙ take_at (byte_lists old) more n (length-map old (λ (b : Vec ℕ Global). b.items) ∙ sym n-is)

-- one buffer more
pub byte_lists_more : (buffers : List (Vec ℕ Global)) (i : ℕ) (buffer : Vec ℕ Global) → i < length buffers → buffer ≡ get_or buffers i buffer
    → byte_lists (take (i + 1) buffers) ≡ byte_lists (take i buffers) ++ buffer.items ∷ []
byte_lists_more buffers i buffer below is =
    map_more (λ (b : Vec ℕ Global). b.items) buffers i buffer below ∙ ap (λ (b : Vec ℕ Global). byte_lists (take i buffers) ++ b.items ∷ []) (sym is)

pub length-byte_lists : (buffers : List (Vec ℕ Global)) → length (byte_lists buffers) ≡ length buffers
length-byte_lists buffers = length-map buffers (λ (b : Vec ℕ Global). b.items)
