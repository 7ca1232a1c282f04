-- That a reorder buffer stays bounded.
use Rattle.std.proofs.Common.{◌≡◌, ℕ, ◌<◌, inl, inr, Bool, List, [], ◌∷◌, length, Option, None, IsSome, sym, ◌∙◌, ap, refl, subst, arith, length-append, length-drop, drop}
use Rattle.std.proofs.lemmas.Bool.{false≢true}
use Rattle.std.proofs.lemmas.Bool.Decides.{eqb_tells}
use Rattle.std.specs.FinMap.{get, get-empty, remove}
use Rattle.std.specs.Ordering.{nat_cmp}
use Rattle.mac_order.specs.Buffer.{Buffer, IsBounded, open_fault, settle_fault, opened, settled, sent_off, closed_off}
use Rattle.mac_order.specs.Slots.{IsLaidOut, answers_in, lies_as}
use Rattle.mac_order.proofs.Waiting.{outside, within, position, get-answers_in-outside, answers_in-empty, get-insert_other, get-remove_same, get-remove_other}
use Rattle.mac_order.proofs.Faults.{open_fault-none, settle_fault-none}

pub no_length : {Item : Type 0} (items : List Item) → length items ≡ 0 → items ≡ []
no_length [] e = refl
no_length (item ∷ items) e = absurd (omega arith)

pub not_some : {Item : Type 0} (item : Option Item) → item ≡ None → IsSome item → ⊥
not_some {Item} item e is = false≢true (subst (λ (o : Option Item). IsSome o) e is)

-- a buffer that is laid out in its slots
pub bounded : {Job : Type 0} (next : ℕ) (slips : List Job) (room : ℕ) (slots : List (Option Job)) (closed : Bool) → IsLaidOut next slips room slots closed → IsBounded (lies_as next slips slots closed)
bounded next slips room slots closed laid = record {
  slips = laid.slips_fit;
  places = laid.places_fit;
  answers = λ place is. elim (position next place) [
    | outside out ↦ absurd (not_some _ (get-answers_in-outside slots next place out) is)
    | within above under ↦ (above, under)
  ];
  closed = λ shut. (laid.closed_is_empty shut, ap (answers_in next) (no_length slots (laid.slots_fit ∙ rw shut refl)) ∙ answers_in-empty next);
}

module _ {Job : Type 0} {buffer : Buffer Job} (old : IsBounded buffer) where
  pub bounded-opened : (job : Job) → open_fault buffer ≡ None → IsBounded (opened buffer job)
  bounded-opened job none =
      let openable = open_fault-none buffer old.places none in
      record {
        slips = simp length-append (omega arith);
        places = simp length-append (omega arith);
        answers = old.answers;
        closed = λ shut. absurd (false≢true (sym openable.live ∙ shut));
      }

  pub bounded-settled : (place : ℕ) (answer : Job) → settle_fault buffer place ≡ None → IsBounded (settled buffer place answer)
  bounded-settled place answer none =
      let settleable = settle_fault-none buffer place none in
      record {
        slips = old.slips;
        places = old.places;
        answers = λ other is. elim (eqb_tells other place) [
          | inl at ↦ (omega arith, omega arith)
          | inr at ↦ old.answers other (subst (λ (o : Option Job). IsSome o) (get-insert_other buffer.answers place answer other at.1) is)
        ];
        closed = λ shut. absurd (false≢true (sym settleable.live ∙ shut));
      }

  pub bounded-sent_off : 0 < length buffer.slips → IsBounded (sent_off buffer (drop 1 buffer.slips))
  bounded-sent_off some = record {
    slips = simp length-drop (omega arith);
    places = simp length-drop (omega arith);
    answers = λ other is. elim (eqb_tells other buffer.next) [
      | inl at ↦ absurd (not_some _ (subst (λ here. get (remove buffer.answers buffer.next) here ≡ None) (sym at.1) (get-remove_same buffer.answers buffer.next)) is)
      | inr at ↦
          let was = old.answers other (subst (λ (o : Option Job). IsSome o) (get-remove_other buffer.answers buffer.next other at.1) is) in
          (omega arith, omega arith)
    ];
    closed = λ shut. absurd (false≢true shut);
  }

  pub bounded-closed_off : IsBounded (closed_off buffer)
  bounded-closed_off = record {
    slips = omega arith;
    places = omega arith;
    answers = λ place is. absurd (not_some _ (get-empty nat_cmp place) is);
    closed = λ shut. (refl, refl);
  }
