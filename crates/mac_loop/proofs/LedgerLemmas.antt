-- Each step of a book or a ticket keeps the balance of the ledger.
use Rattle.std.proofs.Common.{◌≡◌, ◌≢◌, ℕ, ◌+◌, ◌<◌, List, [], ◌∷◌, ◌++◌, set, sym, refl, ap, arith, subst, ⊎_elim, ◌∙◌}
use Rattle.std.proofs.lemmas.List.Sums.{sum_by-cons, sum_by-append, sum_by_push}
use Rattle.std.specs.List.{sum_by, flat_map}
use mathlib.Core.Option.{some}
use lib.ListN.{get_elem?}
use Rattle.atomic_table.proofs.Lists.{at_set, at_snoc, set_again}
use Rattle.mac_loop.specs.declared.ledger.Leaf.{Leaf}
use Rattle.mac_loop.specs.Leaf.{IsBalanced, IsQuiet, IsSettled, leaf}
use Rattle.mac_queue.proofs.Totals.{total_nothing, total_set}

module _ {T : Type 0} where
  abbrev books : Leaf T → ℕ
  books a = a.books

  abbrev entered : (T → ℕ) → Leaf T → ℕ
  entered weight a = sum_by weight a.entered

  abbrev gone : (T → ℕ) → Leaf T → ℕ
  gone weight a = sum_by weight a.gone

  abbrev there : (T → ℕ) → Leaf T → ℕ
  there weight a = sum_by weight a.there

  abbrev AllQuiet : List (Leaf T) → Type 0
  AllQuiet views = (seat : ℕ) (a : Leaf T) → get_elem? views seat ≡ some a → IsQuiet a

  quiet-set : (views : List (Leaf T)) (seat : ℕ) (b : Leaf T) → IsQuiet b → AllQuiet views → AllQuiet (set views seat b)
  quiet-set views seat b mine all j u at =
      ⊎_elim (λ (x : (j ≡ seat) × (b ≡ u)). subst (λ (y : Leaf T). IsQuiet y) x.1 mine)
      (λ (x : (j ≢ seat) × (get_elem? views j ≡ some u)). all j u x.1) (at_set views seat j b u at)

  quiet-more : (views : List (Leaf T)) (b : Leaf T) → IsQuiet b → AllQuiet views → AllQuiet (views ++ b ∷ [])
  quiet-more views b mine all j u at =
      ⊎_elim (λ (x : get_elem? views j ≡ some u). all j u x) (λ (is : b ≡ u). subst (λ (y : Leaf T). IsQuiet y) is mine) (at_snoc views b u j at)

  pub enters : (n : ℕ) (views : List (Leaf T)) (seat : ℕ) (a : Leaf T) (entry : T) → 0 < a.books → get_elem? views seat ≡ some a → IsBalanced n views
      → IsBalanced n (set views seat (leaf a.books (a.entered ++ entry ∷ []) a.gone (a.there ++ entry ∷ [])))
  enters n views seat a entry some_book at was =
      let b = leaf a.books (a.entered ++ entry ∷ []) a.gone (a.there ++ entry ∷ []) in
      record {
        books_are = omega (arith, total_set books views seat a b at, was.books_are);
        quiet = quiet-set views seat b (λ none. absurd (omega (arith, none, some_book))) was.quiet;
        weights = λ w. omega (
          arith,
          was.weights w,
          sum_by_push w a.entered entry,
          sum_by_push w a.there entry,
          total_set (entered w) views seat a b at,
          total_set (gone w) views seat a b at,
          total_set (there w) views seat a b at,
        );
      }

  -- a seat is cut in two
  pub cuts : (n : ℕ) (views : List (Leaf T)) (seat : ℕ) (a left right : Leaf T) → IsQuiet left → IsQuiet right
      → left.books + right.books ≡ a.books → left.entered ++ right.entered ≡ a.entered → left.gone ++ right.gone ≡ a.gone → left.there ++ right.there ≡ a.there
      → get_elem? views seat ≡ some a → IsBalanced n views → IsBalanced n (set views seat left ++ right ∷ [])
  cuts n views seat a left right quiet_left quiet_right books_are entered_are gone_are there_are at was =
      let rest = set views seat left in
      record {
        books_are = omega (arith, books_are, total_set books views seat a left at, was.books_are, sum_by_push books rest right);
        quiet = quiet-more rest right quiet_right (quiet-set views seat left quiet_left was.quiet);
        weights = λ w. omega (
          arith,
          was.weights w,
          sum_by-append w left.entered right.entered,
          ap (sum_by w) entered_are,
          sum_by-append w left.gone right.gone,
          ap (sum_by w) gone_are,
          sum_by-append w left.there right.there,
          ap (sum_by w) there_are,
          total_set (entered w) views seat a left at,
          total_set (gone w) views seat a left at,
          total_set (there w) views seat a left at,
          sum_by_push (entered w) rest right,
          sum_by_push (gone w) rest right,
          sum_by_push (there w) rest right,
        );
      }

  -- a seat takes in another one
  pub joins : (n : ℕ) (views : List (Leaf T)) (seat : ℕ) (a : Leaf T) (other : ℕ) (b both : Leaf T) → IsQuiet both
      → both.books ≡ a.books + b.books
      → ((w : T → ℕ) → sum_by w both.entered ≡ sum_by w a.entered + sum_by w b.entered)
      → ((w : T → ℕ) → sum_by w both.gone + sum_by w both.there + sum_by w a.entered + sum_by w b.entered ≡ sum_by w both.entered + sum_by w a.gone + sum_by w b.gone + sum_by w a.there + sum_by w b.there)
      → get_elem? views seat ≡ some a → ¬ (other ≡ seat) → get_elem? (set views seat both) other ≡ some b
      → IsBalanced n views → IsBalanced n (set (set views seat both) other (leaf 0 [] [] []))
  joins n views seat a other b both quiet_both books_are entered_are rest_are at apart at' was =
      let spent : Leaf T = leaf 0 [] [] [] in
      let rest = set views seat both in
      record {
        books_are = omega (arith, books_are, total_set books views seat a both at, total_set books rest other b spent at', was.books_are);
        quiet = quiet-set rest other spent (λ _. (refl, refl)) (quiet-set views seat both quiet_both was.quiet);
        weights = λ w. omega (
          arith,
          was.weights w,
          entered_are w,
          rest_are w,
          total_set (entered w) views seat a both at,
          total_set (gone w) views seat a both at,
          total_set (there w) views seat a both at,
          total_set (entered w) rest other b spent at',
          total_set (gone w) rest other b spent at',
          total_set (there w) rest other b spent at',
        );
      }

  -- a seat that stays as it is
  pub stays : (n : ℕ) (views : List (Leaf T)) (seat : ℕ) (a : Leaf T) → get_elem? views seat ≡ some a → IsBalanced n views → IsBalanced n (set views seat a)
  stays n views seat a at was = subst (IsBalanced n) (sym (set_again views seat a at)) was

  -- where one has all books, the total is its own
  whole : (views : List (Leaf T)) (seat : ℕ) (a : Leaf T) (f : Leaf T → ℕ) → AllQuiet views → get_elem? views seat ≡ some a → sum_by books views ≡ a.books
      → ((v : Leaf T) → IsQuiet v → v.books ≡ 0 → f v ≡ 0) → sum_by f views ≡ f a
  whole views seat a f all at every nothing =
      let spent : Leaf T = leaf 0 [] [] [] in
      let quiet : IsQuiet spent = λ _. (refl, refl) in
      let books_left = total_set books views seat a spent at in
      let left = total_set f views seat a spent at in
      let others = total_nothing f books (set views seat spent) (λ i v e none. nothing v (quiet-set views seat spent quiet all i v e) none) (omega (arith, books_left, every)) in
      omega (arith, left, others, nothing spent quiet refl)

  -- what tickets stand for
  there_all : (w : T → ℕ) (views : List (Leaf T)) → sum_by w (flat_map (λ (a : Leaf T). a.there) views) ≡ sum_by (there w) views
  there_all w [] = refl
  there_all w (a ∷ views) = omega (arith, sum_by-append w a.there (flat_map (λ (b : Leaf T). b.there) views), sum_by-cons (there w) a views, there_all w views)

  pub settles : (n : ℕ) (views : List (Leaf T)) (seat : ℕ) (a : Leaf T) → a.books ≡ n → get_elem? views seat ≡ some a → IsBalanced n views
      → IsSettled a.entered a.gone
  settles n views seat a every at was =
      let all : sum_by books views ≡ a.books = was.books_are ∙ sym every in
      record {
        there = flat_map (λ (b : Leaf T). b.there) views;
        each = λ w. omega (
          arith,
          was.weights w,
          there_all w views,
          whole views seat a (entered w) was.quiet at all (λ v quiet none. ap (sum_by w) (quiet none).0),
          whole views seat a (gone w) was.quiet at all (λ v quiet none. ap (sum_by w) (quiet none).1),
        );
      }
