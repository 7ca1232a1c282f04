-- The entries of a table, with names as lists of bytes, as a finite map.
use Rattle.std.proofs.Common.{◌≡◌, ℕ, ◌+◌, cond, List, [], ◌∷◌, length, Some, None, refl, sym, ap, ◌∙◌, arith, Vec, Global}
use Rattle.std.specs.declared.cmp.Ordering.{Ordering}
use Rattle.std.specs.declared.cmp.Ordering.TheVariants.{Less, Equal, Greater}
use Rattle.std.specs.Ordering.{nat_cmp, is_eq, eq_by_cmp, match_ordering}
use Rattle.std.specs.Option.{is_some}
use Rattle.std.specs.List.{AllByRecursion}
use Rattle.std.specs.List.Sorted.{IsStrictlySortedBy}
use Rattle.std.specs.Map.{lookup, keys_of}
use Rattle.std.specs.BTreeMap.{is_at, insert_entry}
use Rattle.std.specs.Cmp.Lexicographic.{slice_cmp, nat_list_cmp_total}
use Rattle.std.specs.FinMap as map
use Rattle.std.specs.FinMap.Entries.{find, put, by_order, find-put}
use Rattle.std.specs.Prelude.{map as map_list}
use Rattle.mac_keys.specs.declared.keys.Keys.{Keys}
use Rattle.mac_keys.specs.Keys.{NamedKeys, by_name, listed}
use Rattle.mac_keys.specs.Names.{names_of}

-- the order of names, and that of their vectors
abbrev pub order : List ℕ → List ℕ → Ordering
order = slice_cmp nat_cmp

abbrev pub order_of : Vec ℕ Global → Vec ℕ Global → Ordering
order_of x y = order x.items y.items

-- names that compare alike are one
pub order-IsAntisymmetric : map.IsAntisymmetric order
order-IsAntisymmetric = map.slice_cmp-IsAntisymmetric map.nat_cmp-IsAntisymmetric

find-by_name : {X : Type 0} (es : List (Vec ℕ Global × X)) (q : List ℕ) → find order q (by_name es) ≡ lookup (is_at (λ k. order q k.items)) es
find-by_name [] q = refl
find-by_name (e ∷ es) q = ap (cond (is_eq (order q e.0.items)) (Some e.1)) (find-by_name es q)

-- what the map of the entries has at a name
pub get-by_name : {X : Type 0} (es : List (Vec ℕ Global × X)) (q : List ℕ) → map.get (map.from_entries {R = order} (by_name es)) q ≡ lookup (is_at (λ k. order q k.items)) es
get-by_name es q = map.get-from_entries nat_list_cmp_total (by_name es) q ∙ find-by_name es q

put-by_name : {X : Type 0} (es : List (Vec ℕ Global × X)) (k : Vec ℕ Global) (v : X) → by_name (insert_entry order_of es k v) ≡ put order k.items v (by_name es)
put-by_name [] k v = refl
put-by_name (e ∷ es) k v =
    elim (order k.items e.0.items) as (λ o. by_name (match_ordering o ((k, v) ∷ e ∷ es) ((e.0, v) ∷ es) (e ∷ insert_entry order_of es k v))
    ≡ by_order o ((k.items, v) ∷ by_name (e ∷ es)) ((e.0.items, v) ∷ by_name es) ((e.0.items, e.1) ∷ put order k.items v (by_name es))) [
      | Less ↦ refl
      | Equal ↦ refl
      | Greater ↦ ap (λ rest. (e.0.items, e.1) ∷ rest) (put-by_name es k v)
    ]

-- an entry put in its place is one inserted into the map
pub insert-by_name : {X : Type 0} (es : List (Vec ℕ Global × X)) (k : Vec ℕ Global) (v : X) → map.from_entries {R = order} (by_name (insert_entry order_of es k v)) ≡ map.insert (map.from_entries (by_name es)) k.items v
insert-by_name es k v = map.same_map nat_list_cmp_total order-IsAntisymmetric _ _ (λ q.
    map.get-from_entries nat_list_cmp_total (by_name (insert_entry order_of es k v)) q
    ∙ ap (find order q) (put-by_name es k v)
    ∙ find-put order nat_list_cmp_total q k.items v (by_name es)
    ∙ sym (map.get-insert nat_list_cmp_total (map.from_entries (by_name es)) k.items v q
    ∙ ap (cond (eq_by_cmp order q k.items) (Some v)) (map.get-from_entries nat_list_cmp_total (by_name es) q)))

-- no name above all others is among them
absent : {X : Type 0} (k : Vec ℕ Global) (es : List (Vec ℕ Global × X)) → AllByRecursion (λ y. order_of k y ≡ Less) (keys_of es) → lookup (is_at (λ y. order k.items y.items)) es ≡ None
absent k [] below = refl
absent k (e ∷ es) below = ap (λ o. cond (is_eq o) (Some e.1) (lookup (is_at (λ y. order k.items y.items)) es)) below.0 ∙ absent k es below.1

-- the map of entries in order has as many names as there are entries
pub len-by_name : {X : Type 0} (es : List (Vec ℕ Global × X)) → IsStrictlySortedBy order_of (keys_of es) → map.len (map.from_entries {R = order} (by_name es)) ≡ length es
unfolding IsStrictlySortedBy
len-by_name {X} [] ordered = map.len-empty order X
len-by_name (e ∷ es) ordered =
    let rest = map.from_entries {R = order} (by_name es) in
    let none : map.get rest e.0.items ≡ None = get-by_name es e.0.items ∙ absent e.0 es ordered.0 in
    map.len-insert nat_list_cmp_total rest e.0.items e.1
    ∙ ap (λ found. cond (is_some found) (map.len rest) (map.len rest + 1)) none
    ∙ ap (λ n. n + 1) (len-by_name es ordered.1)
    ∙ (omega arith)

pub len-seen : {X : Type 0} (es : List (Vec ℕ Global × X)) (keys : map.FinMap order X) (n : ℕ) → map.from_entries {R = order} (by_name es) ≡ keys
    → IsStrictlySortedBy order_of (keys_of es) → n ≡ length es → map.len keys ≡ n
len-seen es keys n seen ordered counted = ap map.len (sym seen) ∙ len-by_name es ordered ∙ sym counted

-- what an insertion leaves, as the table is seen
pub insert-seen : {X : Type 0} (es fs : List (Vec ℕ Global × X)) (keys : map.FinMap order X) (k : Vec ℕ Global) (name : List ℕ) (v w : X) → map.from_entries {R = order} (by_name es) ≡ keys
    → fs ≡ insert_entry order_of es k v → k.items ≡ name → v ≡ w → map.from_entries {R = order} (by_name fs) ≡ map.insert keys name w
insert-seen es fs keys k name v w seen put named valued =
    ap (λ entries. map.from_entries (by_name entries)) put
    ∙ insert-by_name es k v
    ∙ ap (λ m. map.insert m k.items v) seen
    ∙ ap (λ n. map.insert keys n v) named
    ∙ ap (map.insert keys name) valued

-- ---- the entries in order

-- entries by the bytes of their names, with the numbers of their keys
abbrev pub counted : List (Vec ℕ Global × Keys) → List (List ℕ × ℕ)
counted es = map_list (λ e. (e.0.items, length (listed e.1))) es

nothing_of : {A : Type 0} (es : List A) → length es ≡ 0 → es ≡ []
nothing_of [] e = refl
nothing_of (x ∷ es) e = absurd (omega arith)

put_first : {X : Type 0} (k : Vec ℕ Global) (v : X) (es : List (Vec ℕ Global × X)) → AllByRecursion (λ y. order_of k y ≡ Less) (keys_of es) → put order k.items v (by_name es) ≡ (k.items, v) ∷ by_name es
put_first k v [] below = refl
put_first k v (e ∷ es) below =
    ap (λ o. by_order o ((k.items, v) ∷ by_name (e ∷ es)) ((e.0.items, v) ∷ by_name es) ((e.0.items, e.1) ∷ put order k.items v (by_name es))) below.0

-- entries that are in order are those of the map that they make
pub entries-by_name : {X : Type 0} (es : List (Vec ℕ Global × X)) → IsStrictlySortedBy order_of (keys_of es) → map.entries (map.from_entries {R = order} (by_name es)) ≡ by_name es
unfolding IsStrictlySortedBy
entries-by_name {X} [] ordered =
    nothing_of (map.entries (map.empty {X = X} {R = order})) (sym (map.len-entries (map.empty {X = X} {R = order})) ∙ map.len-empty order X)
entries-by_name (e ∷ es) ordered =
    map.entries-insert nat_list_cmp_total (map.from_entries {R = order} (by_name es)) e.0.items e.1
    ∙ ap (put order e.0.items e.1) (entries-by_name es ordered.1)
    ∙ put_first e.0 e.1 es ordered.0

counted-by_name : (es : List (Vec ℕ Global × Keys)) → map_list (λ e. (e.0, length (listed e.1))) (by_name es) ≡ counted es
counted-by_name [] = refl
counted-by_name (e ∷ es) = ap (λ rest. (e.0.items, length (listed e.1)) ∷ rest) (counted-by_name es)

-- so the names of a table are counted where they lie
pub counted-names : (es : List (Vec ℕ Global × Keys)) (table : NamedKeys) → IsStrictlySortedBy order_of (keys_of es) → map.from_entries {R = order} (by_name es) ≡ table → counted es ≡ names_of table
counted-names es table ordered seen =
    sym (ap (map_list (λ e. (e.0, length (listed e.1)))) (entries-by_name es ordered) ∙ counted-by_name es)
    ∙ ap names_of seen
