-- A row of fresh passes grows by one.
use Rattle.std.proofs.Common.{◌≡◌, ℕ, zero, suc, ◌⊎◌, inl, inr, List, [], ◌∷◌, ◌++◌, length, Some, slice_get, sym, ◌∙◌, ap, refl, subst, ⊎_elim, All, arith, append_assoc}
use Rattle.atomic_table.specs.Seated.{TableId}
use Rattle.mac_queue.specs.Pass.{Pass, IsFresh, AreFresh}

module _ {Item : Type 0} where
  -- what is found after a push was there, or is what was pushed
  pub get_push : (items : List Item) (last item : Item) (place : ℕ) → slice_get (items ++ last ∷ []) place ≡ Some item → (slice_get items place ≡ Some item) ⊎ ((place ≡ length items) × (last ≡ item))
  get_push [] last item zero at = inr (refl, cc)
  get_push [] last item (suc place) at = inl at
  get_push (first ∷ items) last item zero at = inl at
  get_push (first ∷ items) last item (suc place) at =
      ⊎_elim (λ (there : slice_get items place ≡ Some item). inl there) (λ (here : (place ≡ length items) × (last ≡ item)). inr (ap suc here.0, here.1)) (get_push items last item place at)

pub fresh_push : {Job : Type 0} (queue : TableId) (number : ℕ) (passes : List (Pass Job)) (pass : Pass Job) → AreFresh queue passes → length passes ≡ number → IsFresh queue number pass → AreFresh queue (passes ++ pass ∷ [])
fresh_push {Job} queue number passes pass fresh count mine place other at =
    ⊎_elim (λ (there : slice_get passes place ≡ Some other). fresh place other there)
    (λ (here : (place ≡ length passes) × (pass ≡ other)).
    subst (λ (y : ℕ × Pass Job). IsFresh queue y.0 y.1) (λ i. ((sym count ∙ sym here.0) i, here.1 i)) mine)
    (get_push passes pass other place at)

-- what holds of each holds of the first and of the others
pub all_first : {Item : Type 0} (P : Item → Type 0) (first : Item) (items : List Item) → All P (first ∷ items) → P first
all_first P first items all = all zero first (omega arith)

pub all_others : {Item : Type 0} (P : Item → Type 0) (first : Item) (items : List Item) → All P (first ∷ items) → All P items
all_others P first items all k d below = all (suc k) d (omega arith)

-- what a pass brings moves from those that are left to the whole
pub move : {Entry : Type 0} (whole mine new theirs rest left all : List Entry) → new ≡ whole ++ mine → mine ≡ theirs → left ≡ theirs ++ rest → whole ++ left ≡ all → new ++ rest ≡ all
move whole mine new theirs rest left all joined same split was =
    ap (λ l. l ++ rest) joined ∙ append_assoc whole mine rest ∙ ap (λ l. whole ++ l) (ap (λ l. l ++ rest) same ∙ sym split) ∙ was
