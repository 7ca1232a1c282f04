-- Connections that stay alike, behind what is done to a slot.
use Rattle.std.proofs.Common.{◌≡◌, ℕ, zero, suc, List, [], ◌∷◌, ◌++◌, true, false, ◌||◌, nat_lt, cond, Option, None, Some, inl, inr, slice_index_or, slice_set, ap, refl, subst, sym}
use Rattle.std.proofs.lemmas.Bool.Decides.{eqb_tells}
use Rattle.std.proofs.lemmas.List.{get_or-set_other}
use Rattle.mac_slots.specs.Slots.{Slot, Slots, Free, Held, at, held, is_free, times, with_held, with_listed}
use Rattle.mac_sockets.specs.Connections.{IsStillAlike, StayAlike}

module _ {C : Type 0} (alike : C → C → Type 0) where
  still : (one : Option C) → IsStillAlike alike one one
  still None = tt
  still (Some one) = λ other is. is

  still-then : (a b c : Option C) → IsStillAlike alike a b → IsStillAlike alike b c → IsStillAlike alike a c
  still-then None None c one two = two
  still-then None (Some b) c one two = absurd one
  still-then (Some a) None c one two = absurd one
  still-then (Some a) (Some b) None one two = absurd two
  still-then (Some a) (Some b) (Some c) one two = λ other is. two other (one other is)

  -- slots that are left as they were, and one step behind the other
  pub alike-same : (slots : Slots C) → StayAlike alike slots slots
  alike-same slots slot = still (held (at slots slot))

  pub alike-then : (a b c : Slots C) → StayAlike alike a b → StayAlike alike b c → StayAlike alike a c
  alike-then a b c one two slot = still-then (held (at a slot)) (held (at b slot)) (held (at c slot)) (one slot) (two slot)

  -- a slot is listed
  pub alike-with_listed : (slots : Slots C) (slot : ℕ) → StayAlike alike slots (with_listed slots slot)
  alike-with_listed slots slot =
      elim (is_free (at slots slot) || nat_lt 0 (times slot slots.ready)) as (λ is. StayAlike alike slots (cond is slots (record slots { ready = slots.ready ++ slot ∷ [] }))) [
        | true ↦ alike-same slots
        | false ↦ alike-same slots
      ]

  set-there : (slots : List (Slot C)) (slot : ℕ) (before after : C) → held (slice_index_or slots slot Free) ≡ Some before
      → slice_index_or (slice_set slots slot (Held after)) slot Free ≡ Held after
  set-there [] slot before after is = absurd cc
  set-there (one ∷ slots) zero before after is = refl
  set-there (one ∷ slots) (suc slot) before after is = set-there slots slot before after is

  -- a connection is changed in its place, and is like whatever it was like
  pub alike-with_held : (slots : Slots C) (slot : ℕ) (before after : C) → held (at slots slot) ≡ Some before
      → ((one : C) → alike one before → alike one after) → StayAlike alike slots (with_held slots slot after)
  alike-with_held slots slot before after is same other =
      let new = with_held slots slot after in
      elim (eqb_tells other slot) [
        | inl here ↦
            let there : held (at new slot) ≡ Some after = ap held (set-there slots.slots slot before after is) in
            subst (λ (k : ℕ). IsStillAlike alike (held (at slots k)) (held (at new k))) (sym here.1)
            (subst (λ (o : Option C). IsStillAlike alike o (held (at new slot))) (sym is)
            (subst (λ (o : Option C). IsStillAlike alike (Some before) o) (sym there) same))
        | inr apart ↦
            subst (λ (s : Slot C). IsStillAlike alike (held (at slots other)) (held s))
            (sym (get_or-set_other slots.slots slot other (Held after) Free apart.1)) (still (held (at slots other)))
      ]
