-- Lemmas about the answers that wait in a reorder buffer's slots.
use Rattle.std.proofs.Common.{◌≡◌, ◌≢◌, ℕ, zero, suc, ◌+◌, ◌%◌, ◌<◌, ◌≤◌, ◌⊎◌, inl, inr, true, false, List, [], length, get_or, set, replicate, Option, None, Some, sym, ◌∙◌, ap, refl, subst, arith}
use Rattle.std.specs.FinMap.{FinMap, empty, get, insert, remove, get-empty, get-insert, get-remove, same_map, nat_cmp-IsAntisymmetric}
use Rattle.std.specs.Ordering.{nat_cmp, eq_by_cmp}
use Rattle.std.specs.Cmp.{unsigned_tied}
use Rattle.std.proofs.lemmas.List.{get_or-set_same, get_or-set_other, get_or-replicate, get_or_default}
use Rattle.std.proofs.lemmas.Cmp.{nat_cmp_total}
use Rattle.std.proofs.lemmas.Bool.{cases_lt}
use Rattle.std.proofs.lemmas.Bool.Decides.{eqb_tells}
use Rattle.mac_order.specs.Slots.{answers_from, answers_in, in_slot, put_some}
use Rattle.mac_order.specs.declared.reorder.TheConstants.{SLOTS}

pub tied : (other place : ℕ) → other ≡ place → eq_by_cmp nat_cmp other place ≡ true
tied other place e = rw unsigned_tied (grind (arith, eqb_tells other place))

pub untied : (other place : ℕ) → other ≢ place → eq_by_cmp nat_cmp other place ≡ false
untied other place e = rw unsigned_tied (grind (arith, eqb_tells other place))

module _ {Job : Type 0} (answers : FinMap nat_cmp Job) where
  pub get-insert_same : (place : ℕ) (answer : Job) → get (insert answers place answer) place ≡ Some answer
  get-insert_same place answer = get-insert nat_cmp_total answers place answer place ∙ rw (tied place place refl)

  pub get-insert_other : (place : ℕ) (answer : Job) (other : ℕ) → other ≢ place → get (insert answers place answer) other ≡ get answers other
  get-insert_other place answer other apart = get-insert nat_cmp_total answers place answer other ∙ rw (untied other place apart)

  pub get-remove_same : (place : ℕ) → get (remove answers place) place ≡ None
  get-remove_same place = get-remove nat_cmp_total answers place place ∙ rw (tied place place refl)

  pub get-remove_other : (place other : ℕ) → other ≢ place → get (remove answers place) other ≡ get answers other
  get-remove_other place other apart = get-remove nat_cmp_total answers place other ∙ rw (untied other place apart)

module _ {Job : Type 0} (slots : List (Option Job)) where
  below : (count place other : ℕ) → other < place → get (answers_from count place slots) other ≡ None
  unfolding answers_from
  below zero place other lower = get-empty nat_cmp other
  below (suc count) place other lower =
      let rest = below count (place + 1) other (omega arith) in
      elim (in_slot slots place) as (λ answer. get (put_some place answer (answers_from count (place + 1) slots)) other ≡ None) [
        | None ↦ rest
        | Some answer ↦ get-insert_other _ place answer other (omega arith) ∙ rest
      ]

  beyond : (count place other : ℕ) → place + count ≤ other → get (answers_from count place slots) other ≡ None
  unfolding answers_from
  beyond zero place other higher = get-empty nat_cmp other
  beyond (suc count) place other higher =
      let rest = beyond count (place + 1) other (omega arith) in
      elim (in_slot slots place) as (λ answer. get (put_some place answer (answers_from count (place + 1) slots)) other ≡ None) [
        | None ↦ rest
        | Some answer ↦ get-insert_other _ place answer other (omega arith) ∙ rest
      ]

  here : (count place : ℕ) → get (answers_from (suc count) place slots) place ≡ in_slot slots place
  unfolding answers_from
  here count place =
      elim (in_slot slots place) as (λ answer. get (put_some place answer (answers_from count (place + 1) slots)) place ≡ answer) [
        | None ↦ below count (place + 1) place (omega arith)
        | Some answer ↦ get-insert_same _ place answer
      ]

  among : (count place other : ℕ) → place ≤ other → other < place + count → get (answers_from count place slots) other ≡ in_slot slots other
  unfolding answers_from
  among zero place other from to = absurd (omega arith)
  among (suc count) place other from to = elim (cases_lt place other) [
    | inl later ↦
        let rest = among count (place + 1) other (omega arith) (omega arith) in
        elim (in_slot slots place) as (λ answer. get (put_some place answer (answers_from count (place + 1) slots)) other ≡ in_slot slots other) [
          | None ↦ rest
          | Some answer ↦ get-insert_other _ place answer other (omega arith) ∙ rest
        ]
    | inr same ↦ let e : place ≡ other = omega arith in subst (λ at. get (answers_from (suc count) place slots) at ≡ in_slot slots at) e (here count place)
  ]

  -- an answer that waits within 128 places lies in its slot
  pub get-answers_in : (next place : ℕ) → next ≤ place → place < next + SLOTS → get (answers_in next slots) place ≡ in_slot slots place
  unfolding answers_in
  get-answers_in next place from to = among SLOTS next place from to

  -- no answer waits below the next place, nor 128 or more above it
  pub get-answers_in-outside : (next place : ℕ) → (place < next) ⊎ (next + SLOTS ≤ place) → get (answers_in next slots) place ≡ None
  unfolding answers_in
  get-answers_in-outside next place (inl lower) = below SLOTS next place lower
  get-answers_in-outside next place (inr higher) = beyond SLOTS next place higher

-- where a place is, as seen from the next one to send
pub data Position (next place : ℕ) : Type 0 where
  outside : (place < next) ⊎ (next + SLOTS ≤ place) → Position next place
  within : next ≤ place → place < next + SLOTS → Position next place

pub position : (next place : ℕ) → Position next place
position next place = elim (cases_lt place next) [
  | inl lower ↦ outside (inl lower)
  | inr from ↦ elim (cases_lt place (next + SLOTS)) [ inl to ↦ within from to | inr higher ↦ outside (inr higher) ]
]

-- two places of the window share no slot
slots_apart : (next place other : ℕ) → next ≤ place → place < next + SLOTS → next ≤ other → other < next + SLOTS → other ≢ place → other % SLOTS ≢ place % SLOTS
slots_apart next place other from to above under apart e = omega arith

module _ {Job : Type 0} (slots : List (Option Job)) (next : ℕ) (full : length slots ≡ SLOTS) where
  -- to write the slot of a place is to insert its answer
  pub answers_in-set : (place : ℕ) (answer : Job) → next ≤ place → place < next + SLOTS → answers_in next (set slots (place % SLOTS) (Some answer)) ≡ insert (answers_in next slots) place answer
  answers_in-set place answer from to = same_map nat_cmp_total nat_cmp-IsAntisymmetric _ _ (λ other. elim (eqb_tells other place) [
    | inl is ↦
        subst (λ at. get (answers_in next (set slots (place % SLOTS) (Some answer))) at ≡ get (insert (answers_in next slots) place answer) at) (sym is.1)
        (get-answers_in _ next place from to ∙ get_or-set_same slots (place % SLOTS) (Some answer) None (omega arith) ∙ sym (get-insert_same _ place answer))
    | inr is ↦ elim (position next other) [
      | outside out ↦ get-answers_in-outside _ next other out ∙ sym (get-insert_other _ place answer other is.1 ∙ get-answers_in-outside slots next other out)
      | within above under ↦
          get-answers_in _ next other above under
          ∙ get_or-set_other slots (place % SLOTS) (other % SLOTS) (Some answer) None (slots_apart next place other from to above under is.1)
          ∙ sym (get-insert_other _ place answer other is.1 ∙ get-answers_in slots next other above under)
    ]
  ])

  -- to empty the slot of the next place, and to go on to the one after it, is to remove its answer
  pub answers_in-next : answers_in (next + 1) (set slots (next % SLOTS) None) ≡ remove (answers_in next slots) next
  answers_in-next = same_map nat_cmp_total nat_cmp-IsAntisymmetric _ _ (λ other. elim (eqb_tells other next) [
    | inl is ↦
        subst (λ at. get (answers_in (next + 1) (set slots (next % SLOTS) None)) at ≡ get (remove (answers_in next slots) next) at) (sym is.1)
        (get-answers_in-outside _ (next + 1) next (inl (omega arith)) ∙ sym (get-remove_same _ next))
    | inr is ↦ elim (eqb_tells other (next + SLOTS)) [
      | inl at ↦
          get-answers_in _ (next + 1) other (omega arith) (omega arith)
          ∙ ap (λ slot. get_or (set slots (next % SLOTS) None) slot None) (let e : other % SLOTS ≡ next % SLOTS = omega arith in e)
          ∙ get_or-set_same slots (next % SLOTS) None None (omega arith)
          ∙ sym (get-remove_other _ next other is.1 ∙ get-answers_in-outside slots next other (inr (omega arith)))
      | inr at ↦ elim (position next other) [
        | outside out ↦
            get-answers_in-outside _ (next + 1) other (elim out [ inl lower ↦ inl (omega arith) | inr higher ↦ inr (omega arith) ])
            ∙ sym (get-remove_other _ next other is.1 ∙ get-answers_in-outside slots next other out)
        | within above under ↦
            get-answers_in _ (next + 1) other (omega arith) (omega arith)
            ∙ get_or-set_other slots (next % SLOTS) (other % SLOTS) None None (slots_apart next next other (omega arith) (omega arith) above under is.1)
            ∙ sym (get-remove_other _ next other is.1 ∙ get-answers_in slots next other above under)
      ]
    ]
  ])

module _ {Job : Type 0} (next : ℕ) where
  -- where no slot holds an answer, none waits
  none_waits : (slots : List (Option Job)) → ((place : ℕ) → in_slot slots place ≡ None) → answers_in next slots ≡ empty
  none_waits slots none = same_map nat_cmp_total nat_cmp-IsAntisymmetric _ _ (λ other. elim (position next other) [
    | outside out ↦ get-answers_in-outside slots next other out ∙ sym (get-empty nat_cmp other)
    | within above under ↦ get-answers_in slots next other above under ∙ none other ∙ sym (get-empty nat_cmp other)
  ])

  pub answers_in-empty : answers_in {Job = Job} next [] ≡ empty
  answers_in-empty = none_waits [] (λ place. refl)

  pub answers_in-replicate : answers_in {Job = Job} next (replicate SLOTS None) ≡ empty
  answers_in-replicate = none_waits (replicate SLOTS None) (λ place. get_or-replicate SLOTS (place % SLOTS) None None (omega arith))

-- what is read at the slot of a place
pub in_slot-read : {Job : Type 0} (slots : List (Option Job)) (place slot : ℕ) (found : Option Job) → slot ≡ place % SLOTS → length slots ≡ SLOTS → found ≡ get_or slots slot found → found ≡ in_slot slots place
in_slot-read slots place slot found at full is = is ∙ get_or_default slots slot found None (omega arith) ∙ ap (λ here. get_or slots here None) at
