-- Each step of a pass keeps the balance of the queue.
use Rattle.std.proofs.Common.{◌≡◌, ◌≢◌, ℕ, ◌+◌, ◌-◌, ◌*◌, ◌^◌, ◌≤◌, ◌<◌, List, [], ◌∷◌, ◌++◌, length, length-append, set, sym, refl, ap, arith, subst, ⊎_elim}
use Rattle.std.proofs.lemmas.List.Sums.{sum_by-cons, sum_by-append, sum_by_push}
use Rattle.std.specs.List.{sum_by}
use mathlib.Core.Option.{some, some-ne-none}
use lib.ListN.{get_elem?}
use Rattle.crossbeam_queue.specs.Fifo.{Pushes, Pops, Forks, Merges, Learns}
use Rattle.crossbeam_queue.proofs.Lists.{at_set, at_snoc}
use Rattle.mac_queue.specs.declared.queue.account.Account.{Account}
use Rattle.mac_queue.specs.declared.queue.TheConstants.{PASSES, PUTS_MAX}
use Rattle.mac_queue.specs.declared.ticket.Ticket.{Ticket}
use Rattle.mac_queue.specs.Mail.{Mail}
use Rattle.mac_queue.specs.Balance.{account, entry_of, IsWithin, IsBalanced, IsAll}
use Rattle.mac_queue.proofs.Totals.{total_set, part_of_total, total_within, total_nothing, ones}

pub empty_list : {A : Type 0} (xs : List A) → length xs ≤ 0 → xs ≡ []
empty_list [] none = refl
empty_list (x ∷ xs) none = absurd (omega arith)

module _ {Job : Type 0} where
  abbrev parts_of : Account Job Mail → ℕ
  parts_of a = a.parts

  abbrev put_weight : (Mail × (ℕ × Job) → ℕ) → Account Job Mail → ℕ
  put_weight h a = sum_by h a.put

  abbrev claimed_weight : (Mail × (ℕ × Job) → ℕ) → Account Job Mail → ℕ
  claimed_weight h a = sum_by h a.claimed

  abbrev AllWithin : List (Account Job Mail) → Type 0
  AllWithin accounts = (seat : ℕ) (a : Account Job Mail) → get_elem? accounts seat ≡ some a → IsWithin a

  within_set : (accounts : List (Account Job Mail)) (seat : ℕ) (b : Account Job Mail) → IsWithin b → AllWithin accounts → AllWithin (set accounts seat b)
  within_set accounts seat b mine all j u at =
      ⊎_elim (λ (x : (j ≡ seat) × (b ≡ u)). subst (λ (y : Account Job Mail). IsWithin y) x.1 mine)
      (λ (x : (j ≢ seat) × (get_elem? accounts j ≡ some u)). all j u x.1) (at_set accounts seat j b u at)

  within_snoc : (accounts : List (Account Job Mail)) (b : Account Job Mail) → IsWithin b → AllWithin accounts → AllWithin (accounts ++ b ∷ [])
  within_snoc accounts b mine all j u at =
      ⊎_elim (λ (x : get_elem? accounts j ≡ some u). all j u x) (λ (is : b ≡ u). subst (λ (y : Account Job Mail). IsWithin y) is mine) (at_snoc accounts b u j at)

  -- the pass with every part has put and claimed all
  whole : (accounts : List (Account Job Mail)) (seat : ℕ) (a : Account Job Mail) (f : Account Job Mail → ℕ) → AllWithin accounts → get_elem? accounts seat ≡ some a → sum_by parts_of accounts ≡ a.parts
      → ((v : Account Job Mail) → IsWithin v → v.parts ≡ 0 → f v ≡ 0) → f (account 0 [] []) ≡ 0 → sum_by f accounts ≡ f a
  whole accounts seat a f all at every nothing zero' =
      let spent : Account Job Mail = account 0 [] [] in
      let s = total_set parts_of accounts seat a spent at in
      let t = total_set f accounts seat a spent at in
      let others = total_nothing f parts_of (set accounts seat spent) (λ i v e none. nothing v (within_set accounts seat spent (omega arith, λ _. refl) all i v e) none) (omega arith) in
      omega arith

module _ {S Job Reply : Type 0} where
  abbrev waiting_weight : (Mail × (ℕ × Job) → ℕ) → Ticket S Job Reply → ℕ
  waiting_weight h t = h (entry_of t)

  pub begins : IsBalanced {S = S} {Job = Job} {Reply = Reply} [] (account PASSES [] [] ∷ [])
  begins = record {
    parts = refl;
    within = λ seat a at. within_snoc {Job = Job} [] (account PASSES [] []) (omega arith, λ none. refl) (λ j u e. absurd (some-ne-none u (sym e))) seat a at;
    weights = λ weight. refl;
  }

  pub puts : (n seat : ℕ) (a : Account Job Mail) (t : Ticket S Job Reply) → a.parts ≡ 1 → length a.put < PUTS_MAX
      → Pushes (IsBalanced {S = S} {Job = Job} {Reply = Reply}) n seat a t (λ b. b ≡ account a.parts (a.put ++ entry_of t ∷ []) a.claimed)
  puts n seat a t one room tickets accounts _ was at =
      let b : Account Job Mail = account a.parts (a.put ++ entry_of t ∷ []) a.claimed in
      let mine = was.within seat a at in (
        b,
        record {
          parts = (let s = total_set parts_of accounts seat a b at in let p = was.parts in omega arith);
          within = within_set accounts seat b ((omega (arith, length-append a.put (entry_of t ∷ []))), mine.1) was.within;
          weights = λ h.
              let s = total_set (put_weight h) accounts seat a b at in
              let c = total_set (claimed_weight h) accounts seat a b at in
              let w = was.weights h in
              omega (arith, sum_by_push h a.put (entry_of t), sum_by_push (waiting_weight h) tickets t);
        },
        refl,
      )

  -- what one pass has claimed is at most what all passes may put
  few : (tickets : List (Ticket S Job Reply)) (accounts : List (Account Job Mail)) (seat : ℕ) (a : Account Job Mail) → IsBalanced tickets accounts → get_elem? accounts seat ≡ some a → length a.claimed ≤ PASSES * PUTS_MAX
  few tickets accounts seat a was at =
      let all_put = total_within (put_weight (λ _. 1)) parts_of PUTS_MAX accounts (λ i v e. subst (λ (n : ℕ). n ≤ v.parts * PUTS_MAX) (sym (ones v.put)) (was.within i v e).0) in
      let mine = part_of_total (claimed_weight (λ _. 1)) accounts seat a at in
      let w = was.weights (λ _. 1) in
      let p = was.parts in
      let n = ones a.claimed in
      let most : sum_by parts_of accounts * PUTS_MAX ≡ PASSES * PUTS_MAX = ap (λ (k : ℕ). k * PUTS_MAX) p in
      omega arith

  pub claims : (seat : ℕ) (a : Account Job Mail) → a.parts ≡ 1
      → Pops (IsBalanced {S = S} {Job = Job} {Reply = Reply}) seat a (λ t b. (b ≡ account a.parts a.put (a.claimed ++ entry_of t ∷ [])) × (length b.claimed < 2 ^ 62))
  claims seat a one t tickets accounts was at =
      let b : Account Job Mail = account a.parts a.put (a.claimed ++ entry_of t ∷ []) in
      let mine = was.within seat a at in
      let old = few (t ∷ tickets) accounts seat a was at in (
        b,
        record {
          parts = (let s = total_set parts_of accounts seat a b at in let p = was.parts in omega arith);
          within = within_set accounts seat b (mine.0, λ none. absurd (omega arith)) was.within;
          weights = λ h.
              let s = total_set (put_weight h) accounts seat a b at in
              let c = total_set (claimed_weight h) accounts seat a b at in
              let w = was.weights h in
              omega (arith, sum_by_push h a.claimed (entry_of t), sum_by-cons (waiting_weight h) t tickets);
        },
        (refl, omega (arith, length-append a.claimed (entry_of t ∷ []))),
      )

  pub cuts : (seat : ℕ) (a : Account Job Mail) → 0 < a.parts → a.put ≡ [] → a.claimed ≡ []
      → Forks (IsBalanced {S = S} {Job = Job} {Reply = Reply}) seat a (account (a.parts - 1) [] []) (account 1 [] [])
  cuts seat a some_part nothing none tickets accounts was at =
      let left : Account Job Mail = account (a.parts - 1) [] [] in
      let right : Account Job Mail = account 1 [] [] in
      let rest = set accounts seat left in
      record {
        parts = (let s = total_set parts_of accounts seat a left at in let p = was.parts in omega (arith, sum_by_push parts_of rest right));
        within = within_snoc rest right (omega arith, λ _. refl) (within_set accounts seat left (omega arith, λ _. refl) was.within);
        weights = λ h.
            let s = total_set (put_weight h) accounts seat a left at in
            let c = total_set (claimed_weight h) accounts seat a left at in
            let w = was.weights h in
            omega (arith, sum_by_push (put_weight h) rest right, sum_by_push (claimed_weight h) rest right, ap (sum_by h) nothing, ap (sum_by h) none);
      }

  pub merges : (seat : ℕ) (a : Account Job Mail) (other : ℕ) (b : Account Job Mail)
      → Merges (IsBalanced {S = S} {Job = Job} {Reply = Reply}) seat a other b (account (a.parts + b.parts) (a.put ++ b.put) (a.claimed ++ b.claimed)) (account 0 [] [])
  merges seat a other b tickets accounts was at apart at' =
      let both : Account Job Mail = account (a.parts + b.parts) (a.put ++ b.put) (a.claimed ++ b.claimed) in
      let spent : Account Job Mail = account 0 [] [] in
      let rest = set accounts seat both in
      let there : get_elem? accounts other ≡ some b =
      ⊎_elim (λ (x : (other ≡ seat) × (both ≡ b)). absurd (apart x.0)) (λ (x : (other ≢ seat) × (get_elem? accounts other ≡ some b)). x.1) (at_set accounts seat other both b at') in
      let mine = was.within seat a at in
      let theirs = was.within other b there in
      record {
        parts = (let s = total_set parts_of accounts seat a both at in let t = total_set parts_of rest other b spent at' in let p = was.parts in omega arith);
        within = within_set rest other spent (omega arith, λ _. refl)
            (within_set accounts seat both
            (omega (arith, length-append a.put b.put), λ none. rw (mine.1 (omega arith), theirs.1 (omega arith)) refl) was.within);
        weights = λ h.
            let s = total_set (put_weight h) accounts seat a both at in
            let c = total_set (claimed_weight h) accounts seat a both at in
            let s' = total_set (put_weight h) rest other b spent at' in
            let c' = total_set (claimed_weight h) rest other b spent at' in
            let w = was.weights h in
            omega (arith, sum_by-append h a.put b.put, sum_by-append h a.claimed b.claimed);
      }

  pub learns : (seat : ℕ) (a : Account Job Mail) → a.parts ≡ PASSES
      → Learns (IsBalanced {S = S} {Job = Job} {Reply = Reply}) seat a
      (IsAll {S = S} {Job = Job} {Reply = Reply} a)
  learns seat a every tickets accounts was at weight =
      let p = was.parts in
      let w = was.weights weight in
      let put = whole accounts seat a (put_weight weight) was.within at (omega arith) (λ v in' none. ap (sum_by weight) (empty_list v.put (let q = in'.0 in let m : v.parts * PUTS_MAX ≡ 0 = ap (λ (k : ℕ). k * PUTS_MAX) none in omega arith))) refl in
      let claimed = whole accounts seat a (claimed_weight weight) was.within at (omega arith) (λ v in' none. ap (sum_by weight) (in'.1 none)) refl in
      omega arith
