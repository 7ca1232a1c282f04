-- What contracts see of the slots, by how they are laid out.
use Rattle.std.proofs.Common.{◌≡◌, ◌≢◌, ℕ, zero, suc, ◌<◌, List, [], ◌∷◌, length, Option, None, Some, map, not, is_some, count_by, slice_index_or, slice_set, refl, ap, sym, ◌∙◌, cond, false, OnSome, arith}
use Rattle.std.proofs.lemmas.List.{get_or-set_other, map-set}
use Rattle.std.proofs.lemmas.List.Sums.{sum_by-cons}
use Rattle.std.proofs.lemmas.Option.{none-some}
use Rattle.mac_slots.specs.Slots.{Slot, Slots, Free, is_free, held, with_held, Becomes}
use Rattle.mac_slots.specs.Owned.{slot_of, lent_or_held}
use Rattle.mac_slots.specs.declared.slots.Owned.{Owned}

module _ {C : Type 0} where
  -- what a slot is, by what it is laid out as
  pub at_view : (xs : List (Option (Owned C))) (n : ℕ) → slice_index_or (map slot_of xs) n Free ≡ slot_of (slice_index_or xs n None)
  at_view [] n = refl
  at_view (x ∷ xs) zero = refl
  at_view (x ∷ xs) (suc n) = at_view xs n

  -- somebody's slot is one of those that are laid out
  pub owned-within : (xs : List (Option (Owned C))) (n : ℕ) (o : Owned C) → slice_index_or xs n None ≡ Some o → n < length xs
  owned-within [] n o is = absurd (none-some o is)
  owned-within (x ∷ xs) zero o is = omega arith
  owned-within (x ∷ xs) (suc n) o is = omega (arith, owned-within xs n o is)

  -- somebody's slot is read as it was written
  pub owned-set : (xs : List (Option (Owned C))) (n : ℕ) (o : Owned C) (p : Option (Owned C)) → slice_index_or xs n None ≡ Some o → slice_index_or (slice_set xs n p) n None ≡ p
  owned-set [] n o p is = absurd (none-some o is)
  owned-set (x ∷ xs) zero o p is = refl
  owned-set (x ∷ xs) (suc n) o p is = owned-set xs n o p is

  held_owned : (o : Owned C) → held (slot_of (Some o)) ≡ o.connection
  held_owned o = elim o.connection as (λ c. held (lent_or_held c) ≡ c) [ None ↦ refl | Some connection ↦ refl ]

  -- the connection that a slot of somebody's holds
  pub held_view : (xs : List (Option (Owned C))) (n : ℕ) (o : Owned C) → slice_index_or xs n None ≡ Some o → held (slice_index_or (map slot_of xs) n Free) ≡ o.connection
  held_view xs n o is = ap held (at_view xs n ∙ ap slot_of is) ∙ held_owned o

  -- one slot became another, as contracts see it
  pub becomes : (xs ys : List (Option (Owned C))) (n : ℕ) (o : Option (Owned C)) (before after ready : List ℕ) → slice_index_or ys n None ≡ o → ((other : ℕ) → other ≢ n → slice_index_or ys other None ≡ slice_index_or xs other None) → after ≡ ready
      → Becomes (record { slots = map slot_of xs; ready = before }) (record { slots = map slot_of ys; ready = after }) n (slot_of o) ready
  becomes xs ys n o before after ready this others listed = record {
    this = at_view ys n ∙ ap slot_of this;
    others = λ other apart. at_view ys other ∙ ap slot_of (others other apart) ∙ sym (at_view xs other);
    listed = listed;
  }

  -- the same where that slot was written
  pub becomes-set : (xs : List (Option (Owned C))) (n : ℕ) (o : Owned C) (p : Option (Owned C)) (ready : List ℕ) → slice_index_or xs n None ≡ Some o
      → Becomes (record { slots = map slot_of xs; ready = ready }) (record { slots = map slot_of (slice_set xs n p); ready = ready }) n (slot_of p) ready
  becomes-set xs n o p ready is = becomes xs (slice_set xs n p) n p ready ready ready (owned-set xs n o p is) (λ other apart. get_or-set_other xs n other p None apart) refl

  -- a mark is not seen
  pub same_view : (xs : List (Option (Owned C))) (n : ℕ) (o p : Owned C) → slice_index_or xs n None ≡ Some o → p.connection ≡ o.connection → map slot_of (slice_set xs n (Some p)) ≡ map slot_of xs
  same_view [] n o p is same = refl
  same_view (x ∷ xs) zero o p is same = ap (λ (s : Slot C). s ∷ map slot_of xs) (ap lent_or_held same ∙ sym (ap slot_of is))
  same_view (x ∷ xs) (suc n) o p is same = ap (λ (ss : List (Slot C)). slot_of x ∷ ss) (same_view xs n o p is same)

  pub owned_is_not_free : (o : Owned C) → is_free (lent_or_held o.connection) ≡ false
  owned_is_not_free o = elim o.connection as (λ c. is_free (lent_or_held c) ≡ false) [ None ↦ refl | Some connection ↦ refl ]

  taken : (x : Option (Owned C)) → not (is_free (slot_of x)) ≡ is_some x
  taken None = refl
  taken (Some o) = ap not (owned_is_not_free o)

  -- the slots that are not free are those that are somebody's
  pub count_taken : (xs : List (Option (Owned C))) → count_by (λ (s : Slot C). not (is_free s)) (map slot_of xs) ≡ count_by is_some xs
  count_taken [] = refl
  count_taken (x ∷ xs) =
      rw (sum_by-cons (λ (s : Slot C). cond (not (is_free s)) 1 0) (slot_of x) (map slot_of xs), sum_by-cons (λ (o : Option (Owned C)). cond (is_some o) 1 0) x xs, taken x, count_taken xs) refl

  -- what is lent ends as contracts say, whichever way lending is written
  pub lends_view : {Z : Type 0} (lends : (C → Slots C) → Slots C → Z) (xs : List (Option (Owned C))) (ready : List ℕ) (n : ℕ) (o : Owned C) → slice_index_or xs n None ≡ Some o
      → lends (λ w. record { slots = map slot_of (slice_set xs n (Some (record { connection = Some w; is_listed = o.is_listed }))); ready = ready }) (record { slots = map slot_of (slice_set xs n (Some o)); ready = ready })
      ≡ lends (with_held (record { slots = map slot_of xs; ready = ready }) n) (record { slots = map slot_of xs; ready = ready })
  lends_view lends xs ready n o is = λ i. lends
      (λ w. record { slots = map-set slot_of xs n (Some (record { connection = Some w; is_listed = o.is_listed })) i; ready = ready })
      (record { slots = same_view xs n o o is refl i; ready = ready })

-- what holds anyway holds on a value
pub on_some : {T P : Type 0} (found : Option T) → P → OnSome found P
on_some None holds = tt
on_some (Some x) holds = holds
