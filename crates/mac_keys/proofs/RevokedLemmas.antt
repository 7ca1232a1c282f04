-- What is known of a list of tokens that were taken back, by what lies in memory.
use Rattle.std.proofs.Common.{◌≡◌, ◌⊎◌, inl, inr, ℕ, ◌+◌, ◌<◌, ◌||◌, Bool, true, false, cond, List, [], ◌∷◌, length, drop, get_or, Option, Some, None, Result, Ok, Err, refl, sym, ap, subst, ◌∙◌, arith, Vec, Global}
use Rattle.std.proofs.lemmas.List.{drop_more, drop_all}
use Rattle.std.proofs.lemmas.List.FromFn.{length-enumerate_from, get_or-enumerate_from}
use Rattle.std.proofs.lemmas.Bool.{false≢true}
use Rattle.std.specs.Bool.{MatchBool}
use Rattle.std.specs.List.Sorted.{IsPermutation}
use Rattle.std.specs.Prelude.{nat_eq, not, unwrap_or}
use Rattle.std.proofs.lemmas.List.Sorted.{list_any-IsPermutation}
use Rattle.std.specs.List.{enumerate_from, list_any}
use Rattle.std.specs.Map.{lookup, set_value}
use Rattle.std.specs.Ordering.{eq_by_cmp}
use Rattle.std.specs.BTreeMap.{is_at, insert_entry}
use Rattle.std.specs.Cmp.Lexicographic.{bytes_decides, nat_list_cmp_total, pointwise, texts_ties}
use Rattle.std.specs.FinMap as map
use Rattle.std.specs.FinSet as set
use Rattle.mac_keys.specs.Keys.{by_name}
use Rattle.mac_keys.specs.Revoked.{Identifiers, Revoked, after_line, after_lines, by_bytes, is_listed, nothing, or_fault}
use Rattle.mac_keys.specs.declared.revoked_fault.RevokedFault.{RevokedFault}
use Rattle.mac_keys.specs.declared.revoked_fault.RevokedFault.TheVariants.{Memory}
use Rattle.mac_keys.proofs.KeyMeaning.{same_name}
use Rattle.mac_keys.proofs.Names.{get-by_name, insert-by_name, order, order_of, order-IsAntisymmetric}

-- ---- the identifiers of a name

any-by_bytes : (ks : List (Vec ℕ Global)) (q : List ℕ) → list_any (eq_by_cmp order q) (by_bytes ks) ≡ list_any (λ k. pointwise nat_eq q k.items) ks
any-by_bytes [] q = refl
any-by_bytes (k ∷ ks) q =
    ap (λ b. b || list_any (eq_by_cmp order q) (by_bytes ks)) (sym (texts_ties q k.items))
    ∙ ap (λ b. pointwise nat_eq q k.items || b) (any-by_bytes ks q)

pub contains-seen : (ks : List (Vec ℕ Global)) (s : Identifiers) (q : List ℕ) → set.from_list {R = order} (by_bytes ks) ≡ s → set.contains s q ≡ list_any (λ k. pointwise nat_eq q k.items) ks
contains-seen ks s q seen = ap (λ t. set.contains t q) (sym seen) ∙ set.contains-from_list nat_list_cmp_total (by_bytes ks) q ∙ any-by_bytes ks q

not_false : (b : Bool) → false ≡ not b → b ≡ true
not_false true e = refl
not_false false e = absurd (false≢true e)

or_there : (a b : Bool) → (a ≡ true → b ≡ true) → b ≡ (a || b)
or_there true b there = there refl
or_there false b there = refl

any-put : (ks ls : List (Vec ℕ Global)) (k : Vec ℕ Global) (q : List ℕ) (added : Bool) → added ≡ not (list_any (λ x. pointwise nat_eq k.items x.items) ks) → MatchBool added (IsPermutation (k ∷ ks) ls) (ls ≡ ks)
    → list_any (λ x. pointwise nat_eq q x.items) ls ≡ (pointwise nat_eq q k.items || list_any (λ x. pointwise nat_eq q x.items) ks)
any-put ks ls k q true is put = sym (list_any-IsPermutation (λ x. pointwise nat_eq q x.items) (k ∷ ks) ls put)
any-put ks ls k q false is put =
    ap (list_any (λ x. pointwise nat_eq q x.items)) put
    ∙ or_there (pointwise nat_eq q k.items) _ (λ same. ap (λ n. list_any (λ x. pointwise nat_eq n x.items) ks) ((bytes_decides q k.items).0 same) ∙ not_false _ is)

pub added-seen : (ks ls : List (Vec ℕ Global)) (s : Identifiers) (k : Vec ℕ Global) (added : Bool) → set.from_list {R = order} (by_bytes ks) ≡ s
    → added ≡ not (list_any (λ x. pointwise nat_eq k.items x.items) ks) → MatchBool added (IsPermutation (k ∷ ks) ls) (ls ≡ ks)
    → set.from_list {R = order} (by_bytes ls) ≡ set.insert s k.items
added-seen ks ls s k added seen is put = set.same_set nat_list_cmp_total order-IsAntisymmetric _ _ (λ q.
    set.contains-from_list nat_list_cmp_total (by_bytes ls) q
    ∙ any-by_bytes ls q
    ∙ any-put ks ls k q added is put
    ∙ ap (λ b. b || list_any (λ x. pointwise nat_eq q x.items) ks) (texts_ties q k.items)
    ∙ sym (set.contains-insert nat_list_cmp_total s k.items q ∙ ap (λ b. eq_by_cmp order q k.items || b) (contains-seen ks s q seen)))

-- ---- the names

pub get-seen : {X : Type 0} (es : List (Vec ℕ Global × X)) (list : map.FinMap order X) (name : List ℕ) (found : Option X) → map.from_entries {R = order} (by_name es) ≡ list
    → found ≡ lookup (is_at (λ k. order name k.items)) es → map.get list name ≡ found
get-seen es list name found seen is = ap (λ m. map.get m name) (sym seen) ∙ get-by_name es name ∙ sym is

pub listed-some : (list : Revoked) (name identifier : List ℕ) (ids : Identifiers) → map.get list name ≡ Some ids → is_listed list name identifier ≡ set.contains ids identifier
listed-some list name identifier ids found = ap (λ o. set.contains (unwrap_or o set.empty) identifier) found

pub listed-none : (list : Revoked) (name identifier : List ℕ) → map.get list name ≡ None → is_listed list name identifier ≡ false
listed-none list name identifier found = ap (λ o. set.contains (unwrap_or o set.empty) identifier) found ∙ set.contains-empty order identifier

pub listed-nothing : (list : Revoked) (name identifier : List ℕ) → list ≡ nothing → is_listed list name identifier ≡ false
listed-nothing list name identifier is = listed-none list name identifier (ap (λ l. map.get l name) is ∙ map.get-empty order name)

chosen : {X : Type 0} (b : Bool) (v : X) (x y : Option X) → (b ≡ false → x ≡ y) → cond b (Some v) x ≡ cond b (Some v) y
chosen true v x y e = refl
chosen false v x y e = e refl

exchanged : {X : Type 0} (a b : Bool) (x y z : X) → (b ≡ true → a ≡ false) → cond a x (cond b y z) ≡ cond b y (cond a x z)
exchanged true true x y z apart = absurd (false≢true (sym (apart refl)))
exchanged true false x y z apart = refl
exchanged false true x y z apart = refl
exchanged false false x y z apart = refl

lookup-written : {X : Type 0} (q name : List ℕ) (es : List (Vec ℕ Global × X)) (v w : X) → Some v ≡ lookup (is_at (λ k. order name k.items)) es
    → lookup (is_at (λ k. order q k.items)) (set_value (is_at (λ k. order name k.items)) es w) ≡ cond (eq_by_cmp order q name) (Some w) (lookup (is_at (λ k. order q k.items)) es)
lookup-written q name [] v w found = absurd cc
lookup-written {X} q name (e ∷ es) v w found =
    let rest : Option X = lookup (is_at (λ k. order q k.items)) es in
    elim (eq_by_cmp order name e.0.items) as (λ b. eq_by_cmp order name e.0.items ≡ b → Some v ≡ cond b (Some e.1) (lookup (is_at (λ k. order name k.items)) es)
    → lookup (is_at (λ k. order q k.items)) (cond b ((e.0, w) ∷ es) (e ∷ set_value (is_at (λ k. order name k.items)) es w)) ≡ cond (eq_by_cmp order q name) (Some w) (cond (eq_by_cmp order q e.0.items) (Some e.1) rest)) [
      | true ↦ λ here _.
          let same : eq_by_cmp order q e.0.items ≡ eq_by_cmp order q name = ap (eq_by_cmp order q) (sym (same_name name e.0.items here)) in
          ap (λ b. cond b (Some w) rest) same
          ∙ chosen (eq_by_cmp order q name) w rest (cond (eq_by_cmp order q e.0.items) (Some e.1) rest) (λ apart. ap (λ b. cond b (Some e.1) rest) (sym (same ∙ apart)))
      | false ↦ λ there below.
          ap (cond (eq_by_cmp order q e.0.items) (Some e.1)) (lookup-written q name es v w below)
          ∙ exchanged (eq_by_cmp order q e.0.items) (eq_by_cmp order q name) (Some e.1) (Some w) rest (λ same. ap (λ n. eq_by_cmp order n e.0.items) (same_name q name same) ∙ there)
    ] refl found

-- a name whose value was written has the new one, and each other name its own
pub written-seen : {X : Type 0} (es fs : List (Vec ℕ Global × X)) (list : map.FinMap order X) (name : List ℕ) (v w : X) → map.from_entries {R = order} (by_name es) ≡ list
    → Some v ≡ lookup (is_at (λ k. order name k.items)) es → fs ≡ set_value (is_at (λ k. order name k.items)) es w
    → map.from_entries {R = order} (by_name fs) ≡ map.insert list name w
written-seen es fs list name v w seen found put = map.same_map nat_list_cmp_total order-IsAntisymmetric _ _ (λ q.
    get-by_name fs q
    ∙ ap (lookup (is_at (λ x. order q x.items))) put
    ∙ lookup-written q name es v w found
    ∙ ap (cond (eq_by_cmp order q name) (Some w)) (sym (get-seen es list q _ seen refl))
    ∙ sym (map.get-insert nat_list_cmp_total list name w q))

-- a name that is put in has its value, and each other name its own
pub put-seen : {X : Type 0} (es rs fs : List (Vec ℕ Global × X)) (list : map.FinMap order X) (k : Vec ℕ Global) (name : List ℕ) (v w : X) → map.from_entries {R = order} (by_name es) ≡ list
    → rs ≡ es → fs ≡ insert_entry order_of rs k v → k.items ≡ name → v ≡ w
    → map.from_entries {R = order} (by_name fs) ≡ map.insert list name w
put-seen es rs fs list k name v w seen same put named valued =
    ap (λ entries. map.from_entries {R = order} (by_name entries)) put
    ∙ insert-by_name rs k v
    ∙ ap (λ entries. map.insert (map.from_entries {R = order} (by_name entries)) k.items v) same
    ∙ ap (λ m. map.insert m k.items v) seen
    ∙ ap (λ n. map.insert list n v) named
    ∙ ap (map.insert list name) valued

-- ---- line by line

-- the lines that are left lead from this list to what all of them come to
abbrev pub LeadsOn : List (List ℕ) → ℕ → Revoked → Type 0
LeadsOn lines n list = after_lines (n + 1) list (drop n lines) ≡ after_lines 1 nothing lines

-- what is known of the line that a reader has come to
pub record Here (lines : List (List ℕ)) (n index : ℕ) (line : List ℕ) : Type 0 where
  pub place : index ≡ n
  pub rest : drop n lines ≡ line ∷ drop (n + 1) lines

pub here : (lines : List (List ℕ)) (n index : ℕ) (line : List ℕ) → (n < length (enumerate_from 0 lines)) × (◌≡◌ {A = ℕ × List ℕ} (index, line) (get_or (enumerate_from 0 lines) n (index, line)))
    → Here lines n index line
here lines n index line t =
    let within : n < length lines = omega (arith, t.0, length-enumerate_from 0 lines) in
    let item : ◌≡◌ {A = ℕ × List ℕ} (index, line) (0 + n, get_or lines n line) = t.1 ∙ get_or-enumerate_from 0 lines n (index, line) within in
    record {
      place = ap (λ p. p.0) item ∙ omega arith;
      rest = drop_more lines n line within ∙ ap (λ l. l ∷ drop (n + 1) lines) (ap (λ p. p.1) (sym item));
    }

next_of : (lines : List (List ℕ)) (n index : ℕ) (line : List ℕ) (list : Revoked) (came : Result Revoked RevokedFault) → Here lines n index line → LeadsOn lines n list → after_line (index + 1) list line ≡ came
    → or_fault came (λ next. after_lines (n + 1 + 1) next (drop (n + 1) lines)) ≡ after_lines 1 nothing lines
next_of lines n index line list came at leads is =
    ap (λ r. or_fault r (λ next. after_lines (n + 1 + 1) next (drop (n + 1) lines))) (sym is ∙ ap (λ i. after_line (i + 1) list line) at.place)
    ∙ ap (after_lines (n + 1) list) (sym at.rest)
    ∙ leads

pub leads-more : (lines : List (List ℕ)) (n m index : ℕ) (line : List ℕ) (list after : Revoked) → Here lines n index line → LeadsOn lines n list → m ≡ n + 1 → after_line (index + 1) list line ≡ Ok after
    → LeadsOn lines m after
leads-more lines n m index line list after at leads next is =
    subst (λ (k : ℕ). LeadsOn lines k after) (sym next) (next_of lines n index line list (Ok after) at leads is)

pub leads-fault : (lines : List (List ℕ)) (n index : ℕ) (line : List ℕ) (list : Revoked) (fault : RevokedFault) → Here lines n index line → LeadsOn lines n list → after_line (index + 1) list line ≡ Err fault
    → after_lines 1 nothing lines ≡ Err fault
leads-fault lines n index line list fault at leads is = sym (next_of lines n index line list (Err fault) at leads is)

pub leads-all : (lines : List (List ℕ)) (n : ℕ) (list : Revoked) → LeadsOn lines n list → n ≡ length (enumerate_from 0 lines) → after_lines 1 nothing lines ≡ Ok list
leads-all lines n list leads all =
    sym leads ∙ ap (after_lines (n + 1) list) (drop_all n lines (omega (arith, length-enumerate_from 0 lines)))

-- a fault of a line, unless memory ran out, is that of all lines
pub leads_or_memory : (lines : List (List ℕ)) (n index : ℕ) (line : List ℕ) (list : Revoked) (fault : RevokedFault) → Here lines n index line → LeadsOn lines n list
    → (fault ≡ Memory) ⊎ (after_line (index + 1) list line ≡ Err fault) → (fault ≡ Memory) ⊎ (after_lines 1 nothing lines ≡ Err fault)
leads_or_memory lines n index line list fault at leads (inl memory) = inl memory
leads_or_memory lines n index line list fault at leads (inr is) = inr (leads-fault lines n index line list fault at leads is)
