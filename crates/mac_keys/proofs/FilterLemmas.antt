-- What a filter of a list lets pass: all that the list has.
use Rattle.std.proofs.Common.{◌≡◌, ◌⊎◌, inl, inr, ℕ, ◌||◌, ◌&&◌, Bool, true, false, List, Some, refl, sym, ap, ◌∙◌}
use Rattle.std.specs.Ordering.{eq_by_cmp}
use Rattle.std.proofs.lemmas.Bool.{and_parts, false≢true}
use Rattle.mac_keys.specs.Filter.{AdmitsAll, hash_of, may_have}
use Rattle.mac_keys.specs.Revoked.{Revoked, TakenBack, is_listed, nothing, with_said}
use Rattle.mac_keys.proofs.KeyMeaning.{same_name}
use Rattle.mac_keys.proofs.Names.{order}
use Rattle.mac_keys.proofs.RevokedLemmas.{listed-nothing}
use Rattle.mac_keys.proofs.RevokedMeaning.{with_one}

-- a list of nothing has none
pub admits-nothing : (list : Revoked) (bytes : List ℕ) → list ≡ nothing → AdmitsAll list bytes
admits-nothing list bytes none name identifier is = absurd (false≢true (sym (listed-nothing list name identifier none) ∙ is))

either : (a b : Bool) → (a || b) ≡ true → (a ≡ true) ⊎ (b ≡ true)
either true b is = inl refl
either false b is = inr is

-- one more that was noted
pub admits-with : (list : Revoked) (t : TakenBack) (old new : List ℕ) → AdmitsAll list old → may_have new (hash_of t.identifier) ≡ true
    → ((other : ℕ) → may_have old other ≡ true → may_have new other ≡ true) → AdmitsAll (with_said list (Some t)) new
admits-with list t old new all this others name identifier is = admits (either _ _ (sym (with_one list name identifier t) ∙ is))
  where
    admits : ◌⊎◌ ((eq_by_cmp order name t.name && eq_by_cmp order identifier t.identifier) ≡ true) (is_listed list name identifier ≡ true) → may_have new (hash_of identifier) ≡ true
    admits (inl both) = ap (λ i. may_have new (hash_of i)) (same_name identifier t.identifier (and_parts (eq_by_cmp order name t.name) _ both).1) ∙ this
    admits (inr before) = others (hash_of identifier) (all name identifier before)
