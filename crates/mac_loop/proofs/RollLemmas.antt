-- What the clients in slots weigh, behind what is done to one. Where each weighs one it is how many
-- there are.
use Rattle.std.proofs.Common.{◌≡◌, ◌≢◌, ◌+◌, ◌∙◌, ℕ, zero, suc, List, [], ◌∷◌, true, false, Option, None, Some, Result, Ok, Err, IsOk, OnOk, ◌↔◌, ◌≤◌, not, is_some, cond, length, option_to_list, count_by, sum_by, slice_index_or, refl, sym, ap, add-zero, arith}
use Rattle.std.proofs.lemmas.List.Sums.{sum_by-cons}
use Rattle.mac_slots.specs.Slots.{Slot, Slots, Free, Lent, Held, at, held, is_free, with_held, with_listed, Becomes}
use Rattle.mac_sockets.proofs.Weighed.{weighed-same, weighed-with_held, weighed-with_listed}
use Rattle.mac_sockets.specs.Connections.{weight_of, weighed, count_held}

module _ {C : Type 0} (weight : C → ℕ) where
  abbrev of : Slot C → ℕ
  of slot = weight_of weight slot

  abbrev sum : List (Slot C) → ℕ
  sum slots = sum_by of slots

  abbrev read : List (Slot C) → ℕ → Slot C
  read slots slot = slice_index_or slots slot Free

  -- what a client weighs, where there is one
  abbrev pub weight_there : Option C → ℕ
  weight_there None = 0
  weight_there (Some one) = weight one

  -- slots that read alike weigh as much
  sum-alike : (xs ys : List (Slot C)) → ((k : ℕ) → read ys k ≡ read xs k) → sum ys ≡ sum xs
  sum-alike [] [] same = refl
  sum-alike (x ∷ xs) [] same = rw (sum_by-cons of x xs, ← same 0, ← sum-alike xs [] (λ k. same (suc k))) refl
  sum-alike [] (y ∷ ys) same = rw (sum_by-cons of y ys, same 0, sum-alike [] ys (λ k. same (suc k))) refl
  sum-alike (x ∷ xs) (y ∷ ys) same = rw (sum_by-cons of x xs, sum_by-cons of y ys, same 0, sum-alike xs ys (λ k. same (suc k))) refl

  -- where one slot changes, the sum changes by what that one weighed and weighs
  sum-changed : (xs ys : List (Slot C)) (n : ℕ) → ((k : ℕ) → k ≢ n → read ys k ≡ read xs k) → sum ys + of (read xs n) ≡ sum xs + of (read ys n)
  sum-changed [] [] n same = refl
  sum-changed (x ∷ xs) [] zero same =
      rw (sum_by-cons of x xs, ← sum-alike xs [] (λ k. same (suc k) (λ is. omega (arith, is)))) (omega arith)
  sum-changed (x ∷ xs) [] (suc n) same =
      rw (sum_by-cons of x xs, ← same 0 (λ is. omega (arith, is))) (omega (arith, sum-changed xs [] n (λ k apart. same (suc k) (λ is. apart (omega (arith, is))))))
  sum-changed [] (y ∷ ys) zero same =
      rw (sum_by-cons of y ys, sum-alike [] ys (λ k. same (suc k) (λ is. omega (arith, is)))) (omega arith)
  sum-changed [] (y ∷ ys) (suc n) same =
      rw (sum_by-cons of y ys, same 0 (λ is. omega (arith, is))) (omega (arith, sum-changed [] ys n (λ k apart. same (suc k) (λ is. apart (omega (arith, is))))))
  sum-changed (x ∷ xs) (y ∷ ys) zero same =
      rw (sum_by-cons of x xs, sum_by-cons of y ys, sum-alike xs ys (λ k. same (suc k) (λ is. omega (arith, is)))) (omega arith)
  sum-changed (x ∷ xs) (y ∷ ys) (suc n) same =
      rw (sum_by-cons of x xs, sum_by-cons of y ys, same 0 (λ is. omega (arith, is))) (omega (arith, sum-changed xs ys n (λ k apart. same (suc k) (λ is. apart (omega (arith, is))))))

  -- the same of what a call makes of the slots
  becomes : (old new : Slots C) (slot : ℕ) (is : Slot C) (ready : List ℕ) → Becomes old new slot is ready
      → weighed weight new + of (at old slot) ≡ weighed weight old + of is
  becomes old new slot is ready b = rw (← b.this) (sum-changed old.slots new.slots slot b.others)

  weight-held : (slot : Slot C) → of slot ≡ weight_there (held slot)
  weight-held Free = refl
  weight-held Lent = refl
  weight-held (Held one) = refl

  -- a client leaves its slot, where one is there
  pub leaves-slot : (old new : Slots C) (slot : ℕ) (is : Slot C) (ready : List ℕ) (one : Option C) → of is ≡ 0 → one ≡ held (at old slot) → Becomes old new slot is ready
      → weighed weight new + weight_there one ≡ weighed weight old
  leaves-slot old new slot is ready one empty told b =
      let changed = becomes old new slot is ready b in
      let left : of (at old slot) ≡ weight_there one = weight-held (at old slot) ∙ ap (λ (o : Option C). weight_there o) (sym told) in
      rw (← left) (changed ∙ rw empty (add-zero (weighed weight old)))

  -- a client comes into a slot that was lent
  pub comes-into-slot : (old new : Slots C) (slot : ℕ) (ready : List ℕ) (one : C) → at old slot ≡ Lent → Becomes old new slot (Held one) ready
      → weighed weight new ≡ weighed weight old + weight one
  comes-into-slot old new slot ready one lent b =
      let changed = becomes old new slot (Held one) ready b in
      sym (add-zero (weighed weight new)) ∙ (rw lent at changed)

  -- a slot is reserved that was free
  pub reserves-slot : (old new : Slots C) (slot : ℕ) (ready : List ℕ) → at old slot ≡ Free → Becomes old new slot Lent ready
      → weighed weight new ≡ weighed weight old
  reserves-slot old new slot ready free b =
      let changed = becomes old new slot Lent ready b in
      sym (add-zero (weighed weight new)) ∙ (rw free at changed) ∙ add-zero (weighed weight old)

  -- a slot is freed that held none
  pub frees-slot : (old new : Slots C) (slot : ℕ) (ready : List ℕ) → at old slot ≡ Lent → Becomes old new slot Free ready
      → weighed weight new ≡ weighed weight old
  frees-slot old new slot ready lent b =
      let changed = becomes old new slot Free ready b in
      sym (add-zero (weighed weight new)) ∙ (rw lent at changed) ∙ add-zero (weighed weight old)

  -- a client comes back into the slot that was its own
  pub comes-back : {X : Type 0} (old new : Slots C) (slot : ℕ) (one : C) (put : Result X C) → (IsOk put ↔ (at old slot ≡ Lent)) → OnOk put (Becomes old new slot (Held one) old.ready)
      → at old slot ≡ Lent → weighed weight new ≡ weighed weight old + weight one
  comes-back old new slot one (Ok x) told becomes_held lent = comes-into-slot old new slot old.ready one lent becomes_held
  comes-back old new slot one (Err back) told becomes_held lent =
      let no : false ≡ true = told.1 lent in absurd cc

  -- a client changes in its place
  pub changes-in-slot : (slots : Slots C) (slot : ℕ) (before after : C) → Some before ≡ held (at slots slot)
      → weighed weight (with_held slots slot after) + weight before ≡ weighed weight slots + weight after
  changes-in-slot slots slot before after is = weighed-with_held weight slots slot before after (sym is)

  -- it stays there, and weighs what it did
  pub stays-in-slot : (slots : Slots C) (slot : ℕ) (before after : C) → Some before ≡ held (at slots slot) → weight after ≡ weight before
      → weighed weight (with_held slots slot after) ≡ weighed weight slots
  stays-in-slot slots slot before after is same = weighed-same weight slots slot before after (sym is) same

  -- and so does one whose slot is listed
  pub listed-in-slot : (slots : Slots C) (slot : ℕ) → weighed weight (with_listed slots slot) ≡ weighed weight slots
  listed-in-slot slots slot = weighed-with_listed weight slots slot

module _ {C : Type 0} where
  -- each client weighs one
  abbrev pub one_each : C → ℕ
  one_each client = 1

  held-le-owned : (slots : List (Slot C)) → sum one_each slots ≤ count_by (λ slot. not (is_free slot)) slots
  held-le-owned [] = omega arith
  held-le-owned (Free ∷ slots) =
      rw (sum_by-cons (of one_each) Free slots, sum_by-cons (λ (slot : Slot C). cond (not (is_free slot)) 1 0) Free slots) (omega (arith, held-le-owned slots))
  held-le-owned (Lent ∷ slots) =
      rw (sum_by-cons (of one_each) Lent slots, sum_by-cons (λ (slot : Slot C). cond (not (is_free slot)) 1 0) Lent slots) (omega (arith, held-le-owned slots))
  held-le-owned (Held one ∷ slots) =
      rw (sum_by-cons (of one_each) (Held one) slots, sum_by-cons (λ (slot : Slot C). cond (not (is_free slot)) 1 0) (Held one) slots) (omega (arith, held-le-owned slots))

  -- where no slot is somebody's, none holds a client
  pub nobody-held : (slots : Slots C) → count_by (λ slot. not (is_free slot)) slots.slots ≡ 0 → count_held slots ≡ 0
  nobody-held slots none = omega (arith, none, held-le-owned slots.slots)

  -- where there is no newcomer, none counts
  pub no-newcomer : (newcomer : Option C) → is_some newcomer ≡ false → length (option_to_list newcomer) ≡ 0
  no-newcomer None none = refl
  no-newcomer (Some one) none = absurd cc
