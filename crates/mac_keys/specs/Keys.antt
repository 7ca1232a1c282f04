-- What contracts see of a table, and how its names lie in memory.
use Rattle.std.specs.Prelude.{ℕ, List, ◌∷◌, map, Option, option_to_list, refl}
use Rattle.std.specs.Coded.{Coded, code_by, coded×, coded_list, coded_option, coded_ℕ}
use Rattle.std.specs.declared.vec.Vec.{Vec}
use Rattle.std.specs.declared.alloc.Global.{Global}
use Rattle.std.specs.Ordering.{nat_cmp}
use Rattle.std.specs.Cmp.Lexicographic.{slice_cmp}
use Rattle.std.specs.FinMap.{FinMap}
use Rattle.mac_keys.specs.declared.keys.Keys.{Keys}

-- a finite map from names, each as its bytes, to their keys
abbrev pub NamedKeys : Type 0
NamedKeys = FinMap (slice_cmp nat_cmp) Keys

-- the keys of a name as a list, of one or two
abbrev pub listed : Keys → List (List ℕ)
listed keys = keys.first ∷ option_to_list keys.second

-- the keys of a name are told apart as the pair of them
abbrev pub keys_code : Coded Keys
keys_code =
    code_by (List ℕ × Option (List ℕ))
    (coded× (coded_list coded_ℕ) (coded_option (coded_list coded_ℕ)))
    (λ keys. (keys.first, keys.second))
    (λ pair. record { first = pair.0; second = pair.1 })
    (λ _. refl)

-- entries by the bytes of their names, apart from where these lie
abbrev pub by_name : {X : Type 0} → List (Vec ℕ Global × X) → List (List ℕ × X)
by_name entries = map (λ e. (e.0.items, e.1)) entries
