-- Rows of slots, and rows of workers' passes.
use Rattle.std.proofs.Common.{◌≡◌, ◌≢◌, ℕ, zero, suc, ◌+◌, ◌<◌, ◌≤◌, ◌⊎◌, List, [], ◌∷◌, ◌++◌, length, map, set, take, Option, None, Some, slice_get, get_or, sym, ◌∙◌, ap, refl, subst, ⊎_elim, arith, length-append, append_assoc, inl, inr, All, add-one}
use Rattle.std.proofs.lemmas.Option.{slice_get-get_or}
use Rattle.atomic_table.specs.Seated.{TableId}
use Rattle.mac_queue.specs.Pass.{Pass}
use Rattle.mac_pool.specs.Pool.{at_home, AreOut, AreWorkers}
use Rattle.mac_queue.proofs.Passes.{get_push}

-- where one number stands to another
data Position (k n : ℕ) : Type 0 where
  under : k < n → Position k n
  exactly : k ≡ n → Position k n
  above : n < k → Position k n

position : (k n : ℕ) → Position k n
position zero zero = exactly refl
position zero (suc n) = under (omega arith)
position (suc k) zero = above (omega arith)
position (suc k) (suc n) = elim (position k n) [
  | under less ↦ under (omega arith)
  | exactly same ↦ exactly (ap suc same)
  | above more ↦ above (omega arith)
]

module _ {A : Type 0} where
  -- what was written is found
  pub get_set_here : (xs : List A) (k : ℕ) (y : A) → k < length xs → slice_get (set xs k y) k ≡ Some y
  get_set_here [] k y below = absurd (omega arith)
  get_set_here (x ∷ xs) zero y below = refl
  get_set_here (x ∷ xs) (suc k) y below = get_set_here xs k y (omega arith)

  -- and all else as it was
  pub get_set_other : (xs : List A) (k n : ℕ) (y : A) → n ≢ k → slice_get (set xs k y) n ≡ slice_get xs n
  get_set_other [] k n y apart = refl
  get_set_other (x ∷ xs) zero zero y apart = absurd (apart refl)
  get_set_other (x ∷ xs) zero (suc n) y apart = refl
  get_set_other (x ∷ xs) (suc k) zero y apart = refl
  get_set_other (x ∷ xs) (suc k) (suc n) y apart = get_set_other xs k n y (λ e. apart (ap suc e))

  -- what is found after a write was written or was there
  pub get_set : (xs : List A) (k n : ℕ) (y x : A) → slice_get (set xs k y) n ≡ Some x → ((n ≡ k) × (y ≡ x)) ⊎ (slice_get xs n ≡ Some x)
  get_set [] k n y x at = absurd (cc)
  get_set (z ∷ xs) zero zero y x at = inl (refl, cc)
  get_set (z ∷ xs) zero (suc n) y x at = inr at
  get_set (z ∷ xs) (suc k) zero y x at = inr at
  get_set (z ∷ xs) (suc k) (suc n) y x at =
      ⊎_elim (λ (here : (n ≡ k) × (y ≡ x)). inl (ap suc here.0, here.1)) (λ (there : slice_get xs n ≡ Some x). inr there) (get_set xs k n y x at)

  -- what is written back where it stood changes nothing
  pub set_back : (xs : List A) (k : ℕ) (x y : A) → slice_get xs k ≡ Some x → set (set xs k y) k x ≡ xs
  set_back [] k x y at = refl
  set_back (z ∷ xs) zero x y at = cc
  set_back (z ∷ xs) (suc k) x y at = ap (λ l. z ∷ l) (set_back xs k x y at)

  -- below the length there is something
  pub get_within : (xs : List A) (n : ℕ) → n < length xs → (x : A) × (slice_get xs n ≡ Some x)
  get_within [] n below = absurd (omega arith)
  get_within (x ∷ xs) zero below = (x, refl)
  get_within (x ∷ xs) (suc n) below = get_within xs n (omega arith)

  -- what a read by index gave stands there
  pub get_read : (xs : List A) (n : ℕ) (x : A) → x ≡ get_or xs n x → n < length xs → slice_get xs n ≡ Some x
  get_read xs n x is below = slice_get-get_or xs n x below ∙ ap Some (sym is)

  -- what stands in a list stands there with more behind it
  pub get_front : (xs ys : List A) (n : ℕ) (x : A) → slice_get xs n ≡ Some x → slice_get (xs ++ ys) n ≡ Some x
  get_front [] ys n x at = absurd (cc)
  get_front (y ∷ xs) ys zero x at = at
  get_front (y ∷ xs) ys (suc n) x at = get_front xs ys n x at

  pub get_last : (xs : List A) (y : A) → slice_get (xs ++ y ∷ []) (length xs) ≡ Some y
  get_last [] y = refl
  get_last (x ∷ xs) y = get_last xs y

  pub get_below : (xs : List A) (n : ℕ) (x : A) → slice_get xs n ≡ Some x → n < length xs
  get_below [] n x at = absurd (cc)
  get_below (y ∷ xs) zero x at = omega arith
  get_below (y ∷ xs) (suc n) x at = let r = get_below xs n x at in omega arith

  -- what two lists together have comes from one of them
  pub get_both : (xs ys : List A) (n : ℕ) (x : A) → slice_get (xs ++ ys) n ≡ Some x → (slice_get xs n ≡ Some x) ⊎ ((m : ℕ) × (slice_get ys m ≡ Some x))
  get_both [] ys n x at = inr (n, at)
  get_both (y ∷ xs) ys zero x at = inl at
  get_both (y ∷ xs) ys (suc n) x at = get_both xs ys n x at

module _ {A : Type 0} (P : A → Type 0) where
  -- where each is so, the last is, and each before it; and one more may come
  pub each_last : (xs : List A) (y : A) → ((n : ℕ) (x : A) → slice_get (xs ++ y ∷ []) n ≡ Some x → P x) → P y
  each_last xs y all = all (length xs) y (get_last xs y)

  pub each_front : (xs : List A) (y : A) → ((n : ℕ) (x : A) → slice_get (xs ++ y ∷ []) n ≡ Some x → P x) → (n : ℕ) (x : A) → slice_get xs n ≡ Some x → P x
  each_front xs y all n x at = all n x (get_front xs (y ∷ []) n x at)

  pub each_push : (xs : List A) (y : A) → ((n : ℕ) (x : A) → slice_get xs n ≡ Some x → P x) → P y → (n : ℕ) (x : A) → slice_get (xs ++ y ∷ []) n ≡ Some x → P x
  each_push xs y all one n x at =
      ⊎_elim (λ (there : slice_get xs n ≡ Some x). all n x there)
      (λ (here : (n ≡ length xs) × (y ≡ x)). subst P here.1 one)
      (get_push xs y x n at)

module _ {A B : Type 0} (f : A → B) where
  pub map_get : (xs : List A) (n : ℕ) (x : A) → slice_get xs n ≡ Some x → slice_get (map f xs) n ≡ Some (f x)
  map_get [] n x at = absurd (cc)
  map_get (y ∷ xs) zero x at = cc
  map_get (y ∷ xs) (suc n) x at = map_get xs n x at

  pub get_map : (xs : List A) (n : ℕ) (y : B) → slice_get (map f xs) n ≡ Some y → (x : A) × (slice_get xs n ≡ Some x) × (f x ≡ y)
  get_map [] n y at = absurd (cc)
  get_map (x ∷ xs) zero y at = (x, refl, cc)
  get_map (x ∷ xs) (suc n) y at = get_map xs n y at

module _ {Job : Type 0} where
  -- a pass that is at home stands in some slot
  pub home_slot : (slots : List (Option (Pass Job))) (n : ℕ) (pass : Pass Job) → slice_get (at_home slots) n ≡ Some pass → (m : ℕ) × (slice_get slots m ≡ Some (Some pass))
  home_slot [] n pass at = absurd (cc)
  home_slot (None ∷ slots) n pass at = let r = home_slot slots n pass at in (suc r.0, r.1)
  home_slot (Some first ∷ slots) zero pass at = (0, ap Some at)
  home_slot (Some first ∷ slots) (suc n) pass at = let r = home_slot slots n pass at in (suc r.0, r.1)

  module _ (all whole : List (Pass Job)) (slots rest : List (Option (Pass Job))) (slot : Option (Pass Job)) where
    split_first : slots ≡ slot ∷ rest → all ++ at_home slots ≡ whole → all ++ at_home (slot ∷ rest) ≡ whole
    split_first split was = subst (λ (l : List (Option (Pass Job))). all ++ at_home l ≡ whole) split was

    -- an empty slot brings nothing
    pub home_none : slots ≡ slot ∷ rest → slot ≡ None → all ++ at_home slots ≡ whole → all ++ at_home rest ≡ whole
    home_none split is was = subst (λ (o : Option (Pass Job)). all ++ at_home (o ∷ rest) ≡ whole) is (split_first split was)

    -- a full one brings its pass
    pub home_some : (pass : Pass Job) → slots ≡ slot ∷ rest → slot ≡ Some pass → all ++ at_home slots ≡ whole → (all ++ pass ∷ []) ++ at_home rest ≡ whole
    home_some pass split is was = append_assoc all (pass ∷ []) (at_home rest) ∙ subst (λ (o : Option (Pass Job)). all ++ at_home (o ∷ rest) ≡ whole) is (split_first split was)

    -- for which there is room
    pub home_room : (pass : Pass Job) → slots ≡ slot ∷ rest → slot ≡ Some pass → all ++ at_home slots ≡ whole → length all + 1 ≤ length whole
    home_room pass split is was =
        omega (arith, ap length (home_some pass split is was), length-append (all ++ pass ∷ []) (at_home rest), length-append all (pass ∷ []))

  -- one slot more
  count_none' : (slots : List (Option (Pass Job))) (i : ℕ) (d : Option (Pass Job)) → i < length slots → get_or slots i d ≡ None → length (at_home (take (suc i) slots)) ≡ length (at_home (take i slots))
  count_none' [] i d below is = absurd (omega arith)
  count_none' (None ∷ slots) zero d below is = refl
  count_none' (Some pass ∷ slots) zero d below is = absurd (cc)
  count_none' (None ∷ slots) (suc i) d below is = count_none' slots i d (omega arith) is
  count_none' (Some pass ∷ slots) (suc i) d below is = ap suc (count_none' slots i d (omega arith) is)

  count_some' : (slots : List (Option (Pass Job))) (i : ℕ) (d : Option (Pass Job)) (pass : Pass Job) → i < length slots → get_or slots i d ≡ Some pass → length (at_home (take (suc i) slots)) ≡ suc (length (at_home (take i slots)))
  count_some' [] i d pass below is = absurd (omega arith)
  count_some' (None ∷ slots) zero d pass below is = absurd (cc)
  count_some' (Some first ∷ slots) zero d pass below is = refl
  count_some' (None ∷ slots) (suc i) d pass below is = count_some' slots i d pass (omega arith) is
  count_some' (Some first ∷ slots) (suc i) d pass below is = ap suc (count_some' slots i d pass (omega arith) is)

  pub count_none : (slots : List (Option (Pass Job))) (i : ℕ) (d : Option (Pass Job)) → i < length slots → get_or slots i d ≡ None → length (at_home (take (i + 1) slots)) ≡ length (at_home (take i slots))
  count_none slots i d below is = rw add-one (count_none' slots i d below is)

  pub count_some : (slots : List (Option (Pass Job))) (i : ℕ) (d : Option (Pass Job)) (pass : Pass Job) → i < length slots → get_or slots i d ≡ Some pass → length (at_home (take (i + 1) slots)) ≡ length (at_home (take i slots)) + 1
  count_some slots i d pass below is = let e : i + 1 ≡ suc i = add-one i in ap (λ n. length (at_home (take n slots))) e ∙ count_some' slots i d pass below is ∙ sym (add-one (length (at_home (take i slots))))

  -- there are no more passes at home than slots
  pub at_home_short : (slots : List (Option (Pass Job))) → length (at_home slots) ≤ length slots
  at_home_short [] = omega arith
  at_home_short (None ∷ slots) = let r = at_home_short slots in omega arith
  at_home_short (Some pass ∷ slots) = let r = at_home_short slots in omega arith

  -- a pass that comes home to the slot of its number keeps the slots in order
  pub set_homes : (queue : TableId) (slots : List (Option (Pass Job))) (k : ℕ) (new : Pass Job) → new.queue ≡ queue → new.number ≡ k
      → ((n : ℕ) (pass : Pass Job) → slice_get slots n ≡ Some (Some pass) → (pass.queue ≡ queue) × (pass.number ≡ n))
      → (n : ℕ) (pass : Pass Job) → slice_get (set slots k (Some new)) n ≡ Some (Some pass) → (pass.queue ≡ queue) × (pass.number ≡ n)
  set_homes queue slots k new mine number all n pass at = ⊎_elim
      (λ (here : (n ≡ k) × (Some new ≡ Some pass)).
      let same : new ≡ pass = cc (here.1) in
      (sym (ap (λ (p : Pass Job). p.queue) same) ∙ mine, sym (ap (λ (p : Pass Job). p.number) same) ∙ number ∙ sym here.0))
      (λ (there : slice_get slots n ≡ Some (Some pass)). all n pass there)
      (get_set slots k n (Some new) (Some pass) at)

  -- a pass that goes out leaves the other slots in order
  pub unset_homes : (queue : TableId) (slots : List (Option (Pass Job))) (k : ℕ)
      → ((n : ℕ) (pass : Pass Job) → slice_get slots n ≡ Some (Some pass) → (pass.queue ≡ queue) × (pass.number ≡ n))
      → (n : ℕ) (pass : Pass Job) → slice_get (set slots k None) n ≡ Some (Some pass) → (pass.queue ≡ queue) × (pass.number ≡ n)
  unset_homes queue slots k all n pass at = ⊎_elim
      (λ (here : (n ≡ k) × (None ≡ Some pass)). absurd (cc (here.1)))
      (λ (there : slice_get slots n ≡ Some (Some pass)). all n pass there)
      (get_set slots k n None (Some pass) at)

  -- all that is brought back and all that is at home is of the queue
  pub all_of_queue : (queue : TableId) (brought : List (Pass Job)) (slots : List (Option (Pass Job))) → AreWorkers queue brought
      → ((n : ℕ) (pass : Pass Job) → slice_get slots n ≡ Some (Some pass) → (pass.queue ≡ queue) × (pass.number ≡ n))
      → All (λ (pass : Pass Job). pass.queue ≡ queue) (brought ++ at_home slots)
  all_of_queue queue brought slots idle homes k d below =
      let all = brought ++ at_home slots in
      let pass = get_or all k d in
      ⊎_elim (λ (here : slice_get brought k ≡ Some pass). (idle k pass here).0)
      (λ (there : (m : ℕ) × (slice_get (at_home slots) m ≡ Some pass)).
      let slot = home_slot slots there.0 pass there.1 in
      (homes slot.0 pass slot.1).0)
      (get_both brought (at_home slots) k pass (slice_get-get_or all k d below))

  -- one slot more was looked at, and is empty
  pub out_next : (slots : List (Option (Pass Job))) (from n : ℕ) → slice_get slots n ≡ Some None → AreOut from n slots → AreOut from (n + 1) slots
  out_next slots from n none out k least top = elim (position k n) [
    | under less ↦ out k least less
    | exactly same ↦ subst (λ (j : ℕ). slice_get slots j ≡ Some None) (sym same) none
    | above more ↦ absurd (omega arith)
  ]

  -- one worker more is out, and the others are still at home
  pub out_more : (slots : List (Option (Pass Job))) (n : ℕ) → n < length slots → AreOut 0 n slots → AreOut 0 (n + 1) (set slots n None)
  out_more slots n fits out k from below = elim (position k n) [
    | under less ↦ get_set_other slots n k None (λ e. absurd (omega arith)) ∙ out k from less
    | exactly same ↦ subst (λ (j : ℕ). slice_get (set slots n None) j ≡ Some None) (sym same) (get_set_here slots n None fits)
    | above more ↦ absurd (omega arith)
  ]

pub map_push : {A B : Type 0} (f : A → B) (xs : List A) (y : A) → map f (xs ++ y ∷ []) ≡ map f xs ++ f y ∷ []
map_push f [] y = refl
map_push f (x ∷ xs) y = ap (λ l. f x ∷ l) (map_push f xs y)
