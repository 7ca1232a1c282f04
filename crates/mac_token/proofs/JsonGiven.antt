-- What the members of a JSON object have, or haven't.
use Rattle.std.proofs.Common.{◌≡◌, ℕ, List, [], ◌∷◌, inl, inr, Option, Some, None, refl, sym, ◌∙◌}
use Rattle.serde_json.specs.Data.{Data, string}
use Rattle.serde_json.specs.View.{items_of}
use Rattle.mac_token.specs.Base64Text.{IsBase64Of}
use Rattle.mac_token.specs.Json.{HasBytes, MayHaveBytes}

-- base64 text of nothing gives the members no bytes
pub no_member_bytes : (text coded : Option Data) (letters bytes : List ℕ) → text ≡ None → coded ≡ Some (string letters)
    → ((b : List ℕ) → ¬ (IsBase64Of letters b)) → HasBytes text coded bytes → ⊥
no_member_bytes text coded letters bytes absent present fails (inl (plain, _)) =
    let both : None ≡ Some (string bytes) = sym absent ∙ plain in
    cc
no_member_bytes text coded letters bytes absent present fails (inr (_, (given, is_given, spelled))) =
    let both : Some (string given) ≡ Some (string letters) = sym is_given ∙ present in
    let same : given ≡ letters = cc in
    fails bytes (rw same at spelled)

-- a member that is there has bytes or nothing
pub member_bytes_given : (text coded : Option Data) (bytes : Option (List ℕ)) → ((text ≡ None) × (coded ≡ None) → ⊥)
    → MayHaveBytes text coded bytes → (given : List ℕ) × HasBytes text coded given
member_bytes_given text coded bytes there (inl (no_text, no_coded, _)) = absurd (there (no_text, no_coded))
member_bytes_given text coded bytes there (inr (given, has, _)) = (given, has)

-- the items of an array are a list in one way
pub same_items : (a b : List Data) → items_of a ≡ items_of b → a ≡ b
same_items [] [] e = refl
same_items [] (y ∷ b) e = cc
same_items (x ∷ a) [] e = cc
same_items (x ∷ a) (y ∷ b) e =
    let first : x ≡ y = cc in
    let rest : items_of a ≡ items_of b = cc in
    let later = same_items a b rest in
    cc
