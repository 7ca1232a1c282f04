use Rattle.std.proofs.Common.{◌≡◌, ◌∙◌, ℕ, ◌⊎◌, IfSome, Option, None, Some, ap, arith, inl, inr, subst, sym}
use Rattle.std.proofs.lemmas.Bool.{cases_lt}
use Rattle.mac_host.specs.declared.badge.Socket.{Socket}
use Rattle.mac_slots.specs.Slots.{Slots}
use Rattle.mac_loop.specs.declared.members.Member.{Member}
use Rattle.mac_loop.specs.declared.register.Origin.{Ghosts}
use Rattle.mac_loop.specs.declared.resting.Resting.{Resting}
use Rattle.mac_loop.specs.Resting.{rested_at, RestedSince}
use Rattle.mac_loop.proofs.resting.stalest.Goals as goal

-- what holds of whatever an option brings holds of what it is known to bring
brought : (since : Option ℕ) (found : Option Resting) (then : ℕ) → IfSome since (λ s. RestedSince found s) → since ≡ Some then → RestedSince found then
brought since found then all is = subst (λ (o : Option ℕ). IfSome o (λ s. RestedSince found s)) is all

-- the one of the slots so far, or of this slot
one_of : {O : Type 0} {origin : Ghosts O} (socket : Socket) (slots : Slots (Member O origin)) (slot : ℕ) (since : Option ℕ) (found : Option Resting) (next : Option Resting)
    → since ≡ rested_at socket slots slot
    → IfSome found (λ one. rested_at socket slots one.slot ≡ Some one.since)
    → IfSome next (λ one. (found ≡ Some one) ⊎ ((one.slot ≡ slot) × (since ≡ Some one.since)))
    → IfSome next (λ one. rested_at socket slots one.slot ≡ Some one.since)
one_of socket slots slot since found None told was is = is
one_of socket slots slot since found (Some one) told was (inl same) = subst (λ (o : Option Resting). IfSome o (λ one. rested_at socket slots one.slot ≡ Some one.since)) same was
one_of socket slots slot since found (Some one) told was (inr (here, rests)) = ap (λ (s : ℕ). rested_at socket slots s) here ∙ sym told ∙ rests

pub loop-slot-preserved : goal.loop-slot-preserved
loop-slot-preserved g c = record {
  one = one_of c.args.socket c.args.slots.now c.loop-slot.slot _ _ _ c.since_of.ensures c.loop-slot.invariant.one c.staler-found.ensures.one;
  longest = λ slot since below is. elim (cases_lt slot c.loop-slot.slot) [
    | inl before ↦ c.staler-found.ensures.found since (c.loop-slot.invariant.longest slot since before is)
    | inr last ↦
        let here : slot ≡ c.loop-slot.slot = omega (arith, below, last) in
        brought _ _ since c.staler-found.ensures.since (c.since_of.ensures ∙ ap (λ (s : ℕ). rested_at c.args.socket c.args.slots.now s) (sym here) ∙ is)
  ];
}
