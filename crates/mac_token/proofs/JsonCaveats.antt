-- The caveats of a JSON list, one after the other.
use Rattle.std.proofs.Common.{◌≡◌, ℕ, zero, suc, arith, ◌+◌, ◌<◌, List, [], ◌∷◌, ◌++◌, inl, inr, map, take, length, get_or, Option, Some, None, sym, ap, ◌∙◌}
use Rattle.std.proofs.lemmas.List.{get_or-map, length-map, take_more, map-append}
use Rattle.std.specs.List.{AllZip}
use Rattle.serde_json.specs.Data.{Data, array}
use Rattle.serde_json.specs.Find.{as_array}
use Rattle.serde_json.specs.View.{view, items_of, items_view}
use Rattle.serde_json.specs.declared.value.Value.{Value}
use Rattle.mac_token.specs.Json.{HasCaveats, IsCaveat}
use Rattle.mac_token.specs.RawToken.{CaveatParts}
use Rattle.mac_token.proofs.JsonGiven.{same_items}

zip_push : {A B : Type 0} (R : A → B → Type 0) (xs : List A) (ys : List B) (x : A) (y : B) → AllZip R xs ys → R x y
    → AllZip R (xs ++ x ∷ []) (ys ++ y ∷ [])
zip_push R [] [] x y zip r = (r, tt)
zip_push R [] (b ∷ ys) x y zip r = absurd zip
zip_push R (a ∷ xs) [] x y zip r = absurd zip
zip_push R (a ∷ xs) (b ∷ ys) x y zip r = (zip.0, zip_push R xs ys x y zip.1 r)

zip_at : {A B : Type 0} (R : A → B → Type 0) (xs : List A) (ys : List B) (i : ℕ) (d : A) → i < length xs → AllZip R xs ys
    → (y : B) × R (get_or xs i d) y
zip_at R [] ys i d below zip = absurd (omega arith)
zip_at R (a ∷ xs) [] i d below zip = absurd zip
zip_at R (a ∷ xs) (b ∷ ys) zero d below zip = (b, zip.0)
zip_at R (a ∷ xs) (b ∷ ys) (suc i) d below zip = zip_at R xs ys i d (omega arith) zip.1

-- where a list spells caveats, each of its items spells one
pub caveat_within : (value : Data) (found : Option Data) (list : List Value) (caveats : List CaveatParts) (i : ℕ) (at : Value)
    → Some value ≡ found → Some (items_view list) ≡ as_array value → i < length list → at ≡ get_or list i at
    → HasCaveats found caveats → (caveat : CaveatParts) × IsCaveat (view at) caveat
caveat_within value found list caveats i at is_found is_list below is_at (inl (absent, _)) =
    let both : Some value ≡ None = is_found ∙ absent in
    cc
caveat_within value found list caveats i at is_found is_list below is_at (inr (items, present, zip)) =
    let both : Some value ≡ Some (array (items_of items)) = is_found ∙ present in
    let is_array : value ≡ array (items_of items) = cc in
    let lists : Some (items_view list) ≡ Some (items_of items) = is_list ∙ ap as_array is_array in
    let inside : items_of (map view list) ≡ items_of items = cc in
    let same : items ≡ map view list = sym (same_items (map view list) items inside) in
    let zipped : AllZip IsCaveat (map view list) caveats = rw same at zip in
    let below_map : i < length (map view list) = rw length-map below in
    let each = zip_at IsCaveat (map view list) caveats i (view at) below_map zipped in
    let value_at : get_or (map view list) i (view at) ≡ view at = get_or-map view list i at (view at) below ∙ ap view (sym is_at) in
    (each.0, rw value_at at each.1)

-- one more item and its caveat
pub caveats_more : (list : List Value) (caveats : List CaveatParts) (caveat : CaveatParts) (i : ℕ) (at : Value)
    → i < length list → at ≡ get_or list i at → AllZip IsCaveat (map view (take i list)) caveats → IsCaveat (view at) caveat
    → AllZip IsCaveat (map view (take (i + 1) list)) (caveats ++ caveat ∷ [])
caveats_more list caveats caveat i at below is_at zip is_caveat =
    let longer : take (i + 1) list ≡ take i list ++ at ∷ [] = take_more list i at below ∙ ap (λ x. take i list ++ x ∷ []) (sym is_at) in
    let mapped : map view (take (i + 1) list) ≡ map view (take i list) ++ view at ∷ [] = ap (map view) longer ∙ map-append view (take i list) (at ∷ []) in
    rw mapped (zip_push IsCaveat (map view (take i list)) caveats (view at) caveat zip is_caveat)
