-- The steps of a board's handles keep its rule.
use Rattle.std.proofs.Common.{◌≡◌, ◌≢◌, ℕ, zero, suc, ◌+◌, List, [], ◌∷◌, ◌++◌, length, slice_get, fold, refl, sym, ap, subst, ⊎_elim, ◌∙◌, append_assoc, append-nil, arith}
use Rattle.std.specs.Prelude.{Some}
use Rattle.std.specs.Arc.{arc_value}
use mathlib.Core.Option.{some}
use lib.ListN.{get_elem?}
use Rattle.crossbeam_utils.specs.Register.{Admits, Turns, TurnsAt}
use Rattle.atomic_table.proofs.Lists.{at_set, at_snoc}
use Rattle.std.proofs.lemmas.List.{length-append}
use Rattle.mac_keys.specs.KeyTable.{Table}
use Rattle.mac_board.specs.declared.issue.Issue.{Issue}
use Rattle.mac_board.specs.Board.{Ends, Kept, Sees, Puts, Stays, history}
use Rattle.mac_board.specs.Follows.{Begins}

-- a beginning of a beginning is one
pub begins-more : (xs ys zs : List Table) → Begins xs ys → Begins ys zs → Begins xs zs
begins-more xs ys zs one two = (
  one.0 ++ two.0,
  two.1 ∙ ap (λ (l : List Table). l ++ two.0) one.1 ∙ append_assoc xs one.0 two.0,
)

pub begins-same : (xs : List Table) → Begins xs xs
begins-same xs = ([], sym (append-nil xs))

-- what stands at a place of a beginning stands there in the whole
pub get-longer : (xs rest : List Table) (n : ℕ) (t : Table) → slice_get xs n ≡ Some t → slice_get (xs ++ rest) n ≡ Some t
get-longer [] rest n t at = absurd cc
get-longer (x ∷ xs) rest zero t at = at
get-longer (x ∷ xs) rest (suc n) t at = get-longer xs rest n t at

pub begins-get : (xs ys : List Table) (n : ℕ) (t : Table) → Begins xs ys → slice_get xs n ≡ Some t → slice_get ys n ≡ Some t
begins-get xs ys n t h at = subst (λ (l : List Table). slice_get l n ≡ Some t) (sym h.1) (get-longer xs h.0 n t at)

-- a beginning that is as long is the whole
nothing-left : (rest : List Table) → length rest ≡ 0 → rest ≡ []
nothing-left [] none = refl
nothing-left (x ∷ xs) none = absurd (omega (arith, none))

pub begins-whole : (xs ys : List Table) → Begins xs ys → length xs ≡ length ys → xs ≡ ys
begins-whole xs ys h same =
    let size = ap length h.1 in
    let none : h.0 ≡ [] = nothing-left h.0 (omega (arith, size, same, length-append xs h.0)) in
    sym (h.1 ∙ ap (λ (l : List Table). xs ++ l) none ∙ append-nil xs)

one-only : (log : List Table) (t : Table) (n : ℕ) → length log ≡ 1 → n ≡ 0 → slice_get log n ≡ Some t → log ≡ t ∷ []
one-only [] t n one zero_is at = absurd (omega (arith, one))
one-only (x ∷ []) t n one zero_is at =
    let first : slice_get (x ∷ []) 0 ≡ Some t = subst (λ (k : ℕ). slice_get (x ∷ []) k ≡ Some t) zero_is at in
    ap (λ (y : Table). y ∷ []) cc
one-only (x ∷ y ∷ more) t n one zero_is at = absurd (omega (arith, one))

-- the writer knows the whole list
pub history-whole : (seen log : List Table) (issue : Issue) → Begins seen log → Ends log issue → length (history seen (arc_value issue.table)) ≡ issue.number + 1
    → history seen (arc_value issue.table) ≡ log
history-whole [] log issue begins ends count =
    sym (one-only log (arc_value issue.table) issue.number (omega (arith, count, ends.count)) (omega (arith, count)) ends.last)
history-whole (t ∷ ts) log issue begins ends count = begins-whole (t ∷ ts) log begins (count ∙ sym ends.count)

pub admits : Admits Kept []
admits issue views kept = record {
  log = kept.log;
  ends = kept.ends;
  each = λ seat view at. ⊎_elim (λ (e : get_elem? views seat ≡ some view). kept.each seat view e)
      (λ (e : [] ≡ view). subst (λ (l : List Table). Begins l kept.log) e (kept.log, refl)) (at_snoc views [] view seat at);
}

pub sees : (seat : ℕ) (view : List Table) → Turns Kept seat view (λ x. x) Sees
sees seat view issue views kept at = (
  kept.log,
  record {
    log = kept.log;
    ends = kept.ends;
    each = λ j u e. ⊎_elim (λ (t : (j ≡ seat) × (kept.log ≡ u)). subst (λ (l : List Table). Begins l kept.log) t.1 (begins-same kept.log))
        (λ (t : (j ≢ seat) × (get_elem? views j ≡ some u)). kept.each j u t.1) (at_set views seat j kept.log u e);
  },
  (kept.each seat view at, kept.ends),
)

-- the table behind a list stands at its length
pub get-last : (xs : List Table) (t : Table) (n : ℕ) → length xs ≡ n → slice_get (xs ++ t ∷ []) n ≡ Some t
get-last [] t zero size = refl
get-last [] t (suc n) size = absurd (omega (arith, size))
get-last (x ∷ xs) t zero size = absurd (omega (arith, size))
get-last (x ∷ xs) t (suc n) size = get-last xs t n (omega (arith, size))

pub puts : (seat : ℕ) (view : List Table) (now next : Issue) → length (history view (arc_value now.table)) ≡ now.number + 1 → next.number ≡ now.number + 1
    → TurnsAt Kept seat view now next Puts
puts seat view now next count number views kept at =
    let log : List Table = kept.log in
    let whole : history view (arc_value now.table) ≡ log = history-whole view log now (kept.each seat view at) kept.ends count in
    let longer : List Table = log ++ arc_value next.table ∷ [] in
    let size : length log ≡ next.number = kept.ends.count ∙ sym number in (
      longer,
      record {
        log = longer;
        ends = record {
          count = omega (arith, size, length-append log (arc_value next.table ∷ []));
          last = get-last log (arc_value next.table) next.number size;
        };
        each = λ j u e. ⊎_elim (λ (t : (j ≡ seat) × (longer ≡ u)). subst (λ (l : List Table). Begins l longer) t.1 (begins-same longer))
            (λ (t : (j ≢ seat) × (get_elem? views j ≡ some u)). begins-more u log longer (kept.each j u t.1) (arc_value next.table ∷ [], refl))
            (at_set views seat j longer u e);
      },
      ap (λ (l : List Table). l ++ arc_value next.table ∷ []) (sym whole),
    )

only-empty : (seat : ℕ) (view log : List Table) → get_elem? ([] ∷ []) seat ≡ some view → Begins view log
only-empty seat view log at =
    ⊎_elim (λ (e : get_elem? [] seat ≡ some view). absurd cc) (λ (e : [] ≡ view). subst (λ (l : List Table). Begins l log) e (log, refl)) (at_snoc [] [] view seat at)

-- a board with its first table
pub kept-first : (issue : Issue) → issue.number ≡ 0 → Kept issue ([] ∷ [])
kept-first issue none =
    let log : List Table = arc_value issue.table ∷ [] in
    record {
      log = log;
      ends = record {
        count = omega (arith, none);
        last = subst (λ (n : ℕ). slice_get log n ≡ Some (arc_value issue.table)) (sym none) refl;
      };
      each = λ seat view at. only-empty seat view log at;
    }

-- what the writer knows after it has put one more up
pub history-more : (seen xs : List Table) (t up : Table) → seen ≡ xs ++ t ∷ [] → history seen up ≡ xs ++ t ∷ []
history-more [] [] t up is = absurd cc
history-more [] (x ∷ xs) t up is = absurd cc
history-more (s ∷ ss) xs t up is = is

-- of issues that are taken in one after the other, the last is what is left
pub last-wins : (s : Table × ℕ) (xs : List Issue) (issue : Issue)
    → fold (λ (_ : Table × ℕ) (i : Issue). (arc_value i.table, i.number)) s (xs ++ issue ∷ []) ≡ (arc_value issue.table, issue.number)
last-wins s [] issue = refl
last-wins s (x ∷ xs) issue = last-wins (arc_value x.table, x.number) xs issue

-- what a publisher knows after it has put one more up
pub one-more : (before after : List Table) (now next : Issue) (t : Table) → Puts before now next after → length (history before (arc_value now.table)) ≡ now.number + 1
    → ◌≡◌ {A = Table × ℕ} (arc_value next.table, next.number) (t, now.number + 1)
    → (length (history after (arc_value next.table)) ≡ next.number + 1) × (history after (arc_value next.table) ≡ history before (arc_value now.table) ++ t ∷ [])
one-more before after now next t put count is =
    let up : Table = arc_value next.table in
    let all : history after up ≡ history before (arc_value now.table) ++ up ∷ [] = history-more after (history before (arc_value now.table)) up up put in
    let size : length (history after up) ≡ length (history before (arc_value now.table) ++ up ∷ []) = ap length all in
    let number : next.number ≡ now.number + 1 = ap (λ (p : Table × ℕ). p.1) is in
    let same : up ≡ t = ap (λ (p : Table × ℕ). p.0) is in
    let counted : length (history after up) ≡ next.number + 1 = omega (arith, size, number, count, length-append (history before (arc_value now.table)) (up ∷ [])) in
    let grown : history after up ≡ history before (arc_value now.table) ++ t ∷ [] = all ∙ ap (λ (x : Table). history before (arc_value now.table) ++ x ∷ []) same in
    (counted, grown)

-- the same issue is up still
pub stays : (seat : ℕ) (view : List Table) (now next : Issue) → ◌≡◌ {A = Table × ℕ} (arc_value next.table, next.number) (arc_value now.table, now.number) → TurnsAt Kept seat view now next Stays
stays seat view now next same views kept at = (
  view,
  record {
    log = kept.log;
    ends = record {
      count = kept.ends.count ∙ ap (λ (p : Table × ℕ). p.1 + 1) (sym same);
      last = subst (λ (p : Table × ℕ). slice_get kept.log p.1 ≡ Some p.0) (sym same) kept.ends.last;
    };
    each = λ j u e. ⊎_elim (λ (t : (j ≡ seat) × (view ≡ u)). subst (λ (l : List Table). Begins l kept.log) t.1 (kept.each seat view at))
        (λ (t : (j ≢ seat) × (get_elem? views j ≡ some u)). kept.each j u t.1) (at_set views seat j view u e);
  },
  refl,
)

pub history-same : (v w : List Table) (t u : Table) → w ≡ v → u ≡ t → history w u ≡ history v t
history-same v w t u views ups = ap (λ (l : List Table). history l u) views ∙ ap (history v) ups
