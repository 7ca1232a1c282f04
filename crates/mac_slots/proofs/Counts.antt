-- How many slots are marked, how many are somebody's, and how often one is in the list.
use Rattle.std.proofs.Common.{◌≡◌, ◌≢◌, ℕ, zero, suc, ◌+◌, ◌<◌, ◌≤◌, ◌==◌, Bool, true, false, cond, inl, inr, List, [], ◌∷◌, ◌++◌, length, Option, None, Some, is_some, count_by, slice_index_or, slice_set, map, refl, ap, sym, ◌∙◌, arith}
use Rattle.std.proofs.lemmas.List.{get_or-set_other}
use Rattle.std.proofs.lemmas.List.Sums.{sum_by-cons, sum_by_push, sum_by-set, sum_by-le-sum_by}
use Rattle.std.proofs.lemmas.Option.{none-some}
use Rattle.std.proofs.lemmas.Bool.{ne_eqb}
use Rattle.std.proofs.lemmas.Bool.Decides.{eqb_tells}
use Rattle.mac_slots.specs.Slots.{times, without, with_listed}
use Rattle.mac_slots.specs.Owned.{slot_of, is_marked, IsSound}
use Rattle.mac_slots.specs.declared.slots.Owned.{Owned}
use Rattle.mac_slots.proofs.Views.{at_view, owned-within, owned-set, owned_is_not_free}

-- lists that read alike at each place have as many that pass a test, which what is read behind the
-- end fails
pub count-alike : {X : Type 0} (p : X → Bool) (d : X) → p d ≡ false → (xs ys : List X) → ((k : ℕ) → p (slice_index_or ys k d) ≡ p (slice_index_or xs k d)) → count_by p ys ≡ count_by p xs
count-alike p d fails [] [] same = refl
count-alike p d fails (x ∷ xs) [] same =
    rw (sum_by-cons (λ z. cond (p z) 1 0) x xs, ← same 0, fails, ← count-alike p d fails xs [] (λ k. same (suc k))) refl
count-alike p d fails [] (y ∷ ys) same =
    rw (sum_by-cons (λ z. cond (p z) 1 0) y ys, same 0, fails, count-alike p d fails [] ys (λ k. same (suc k))) refl
count-alike p d fails (x ∷ xs) (y ∷ ys) same =
    rw (sum_by-cons (λ z. cond (p z) 1 0) x xs, sum_by-cons (λ z. cond (p z) 1 0) y ys, same 0, count-alike p d fails xs ys (λ k. same (suc k))) refl

-- a slot is in a list as often as before, and once more at its end
pub times_push : (ready : List ℕ) (n slot : ℕ) → times slot (ready ++ n ∷ []) ≡ times slot ready + cond (n == slot) 1 0
times_push ready n slot = sum_by_push (λ other. cond (other == slot) 1 0) ready n

-- the same at its front
pub times-cons : (ready : List ℕ) (n slot : ℕ) → times slot (n ∷ ready) ≡ cond (n == slot) 1 0 + times slot ready
times-cons ready n slot = sum_by-cons (λ other. cond (other == slot) 1 0) n ready

-- a list without a slot doesn't have it
pub times-without_same : (ready : List ℕ) (n : ℕ) → times n (without ready n) ≡ 0
times-without_same [] n = refl
times-without_same (x ∷ xs) n = elim (eqb_tells x n) [
  | inl is ↦ rw is.0 (times-without_same xs n)
  | inr is ↦ rw (is.0, times-cons (without xs n) x n, is.0) (omega (arith, times-without_same xs n))
]

-- and has every other one as often as before
pub times-without_other : (ready : List ℕ) (n slot : ℕ) → slot ≢ n → times slot (without ready n) ≡ times slot ready
times-without_other [] n slot apart = refl
times-without_other (x ∷ xs) n slot apart = elim (eqb_tells x n) [
  | inl is ↦ rw (is.0, times-cons xs x slot, ne_eqb x slot (λ e. apart (sym e ∙ is.1))) (omega (arith, times-without_other xs n slot apart))
  | inr is ↦ rw (is.0, times-cons (without xs n) x slot, times-cons xs x slot) (omega (arith, times-without_other xs n slot apart))
]

-- it is shorter by as often as it had the slot
pub length-without : (ready : List ℕ) (n : ℕ) → length (without ready n) + times n ready ≡ length ready
length-without [] n = refl
length-without (x ∷ xs) n = elim (eqb_tells x n) [
  | inl is ↦ rw (times-cons xs x n, is.0) (omega (arith, length-without xs n))
  | inr is ↦ rw (times-cons xs x n, is.0) (omega (arith, length-without xs n))
]

-- one that has no such slot is the same without it
pub without_none : (ready : List ℕ) (n : ℕ) → times n ready ≡ 0 → without ready n ≡ ready
without_none [] n none = refl
without_none (x ∷ xs) n none = elim (eqb_tells x n) [
  | inl is ↦ absurd (omega (arith, rw (times-cons xs x n, is.0) at none))
  | inr is ↦ rw is.0 (ap (λ (rest : List ℕ). x ∷ rest) (without_none xs n (omega (arith, rw (times-cons xs x n, is.0) at none))))
]

module _ {C : Type 0} where
  marked-le-owned : (x : Option (Owned C)) → cond (is_marked x) 1 0 ≤ cond (is_some x) 1 0
  marked-le-owned None = omega arith
  marked-le-owned (Some o) = elim o.is_listed as (λ b. cond b 1 0 ≤ 1) [ true ↦ omega arith | false ↦ omega arith ]

  -- where somebody's slot is not marked, fewer are marked than are somebody's
  pub fewer_marked : (xs : List (Option (Owned C))) (n : ℕ) (o : Owned C) → slice_index_or xs n None ≡ Some o → o.is_listed ≡ false → count_by is_marked xs < count_by is_some xs
  fewer_marked [] n o is plain = absurd (none-some o is)
  fewer_marked (x ∷ xs) zero o is plain =
      let rest = sum_by-le-sum_by (λ (y : Option (Owned C)). cond (is_marked y) 1 0) (λ y. cond (is_some y) 1 0) xs marked-le-owned in
      rw (sum_by-cons (λ (y : Option (Owned C)). cond (is_marked y) 1 0) x xs, sum_by-cons (λ (y : Option (Owned C)). cond (is_some y) 1 0) x xs, is, plain) (omega (arith, rest))
  fewer_marked (x ∷ xs) (suc n) o is plain =
      rw (sum_by-cons (λ (y : Option (Owned C)). cond (is_marked y) 1 0) x xs, sum_by-cons (λ (y : Option (Owned C)). cond (is_some y) 1 0) x xs) (omega (arith, fewer_marked xs n o is plain, marked-le-owned x))

  -- so there is room in the list for it
  pub room_to_list : (xs : List (Option (Owned C))) (ready : List ℕ) (room n : ℕ) (o : Owned C) → IsSound xs ready room → slice_index_or xs n None ≡ Some o → o.is_listed ≡ false → length ready < room
  room_to_list xs ready room n o sound is plain = omega (arith, fewer_marked xs n o is plain, sound.counted, sound.fits)

  -- what a slot of somebody's that is not marked makes of the list
  pub with_listed-new : (xs : List (Option (Owned C))) (ready : List ℕ) (room n : ℕ) (o : Owned C) → IsSound xs ready room → slice_index_or xs n None ≡ Some o → o.is_listed ≡ false
      → with_listed (record { slots = map slot_of xs; ready = ready }) n ≡ record { slots = map slot_of xs; ready = ready ++ n ∷ [] }
  with_listed-new xs ready room n o sound is plain =
      rw (at_view xs n, is, owned_is_not_free o, sound.once n, is, plain) refl

  -- a slot that is let go is in no list
  pub sound-released : (xs : List (Option (Owned C))) (ready : List ℕ) (room n : ℕ) (o : Owned C) → IsSound xs ready room → slice_index_or xs n None ≡ Some o → IsSound (slice_set xs n None) (without ready n) room
  sound-released xs ready room n o sound is =
      let within = owned-within xs n o is in
      let marks = sum_by-set (λ (y : Option (Owned C)). cond (is_marked y) 1 0) xs n None None within in
      let owned = sum_by-set (λ (y : Option (Owned C)). cond (is_some y) 1 0) xs n None None within in
      record {
        once = λ slot. elim (eqb_tells slot n) [
          | inl same ↦ rw (same.1, owned-set xs n o None is) (times-without_same ready n)
          | inr other ↦ rw (get_or-set_other xs n slot None None other.1) (times-without_other ready n slot other.1 ∙ sound.once slot)
        ];
        counted = omega (arith, marks, sound.once n, sound.counted, length-without ready n);
        fits = omega (arith, owned, sound.fits);
      }

  -- a slot that is new is in no list
  pub sound-reserved : (xs ys : List (Option (Owned C))) (ready : List ℕ) (room more n : ℕ) (p : Owned C) → IsSound xs ready room → slice_index_or xs n None ≡ None → slice_index_or ys n None ≡ Some p → p.is_listed ≡ false
      → ((other : ℕ) → other ≢ n → slice_index_or ys other None ≡ slice_index_or xs other None) → count_by is_some ys ≤ more → IsSound ys ready more
  sound-reserved xs ys ready room more n p sound was is plain others fits =
      let same : (slot : ℕ) → is_marked (slice_index_or ys slot None) ≡ is_marked (slice_index_or xs slot None) =
      λ slot. elim (eqb_tells slot n) [
        | inl at ↦ rw (at.1, was, is) plain
        | inr at ↦ ap is_marked (others slot at.1)
      ] in
      record {
        once = λ slot. rw (same slot) (sound.once slot);
        counted = sound.counted ∙ sym (count-alike is_marked None refl xs ys same);
        fits = fits;
      }
