-- What a set has once a place is inserted.
use Rattle.std.proofs.Common.{◌≡◌, ◌≢◌, ℕ, true, ◌∙◌, refl}
use Rattle.std.specs.FinSet.{FinSet, contains, insert, contains-insert}
use Rattle.std.specs.Ordering.{nat_cmp}
use Rattle.std.proofs.lemmas.Cmp.{nat_cmp_total}
use Rattle.mac_order.proofs.Waiting.{tied, untied}

module _ (places : FinSet nat_cmp) where
  pub contains-insert_same : (place other : ℕ) → other ≡ place → contains (insert places place) other ≡ true
  contains-insert_same place other same = contains-insert nat_cmp_total places place other ∙ rw (tied other place same) refl

  pub contains-insert_other : (place other : ℕ) → other ≢ place → contains (insert places place) other ≡ contains places other
  contains-insert_other place other apart = contains-insert nat_cmp_total places place other ∙ rw (untied other place apart) refl
