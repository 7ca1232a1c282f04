-- A token's object, as it is written token by token.
use Rattle.std.proofs.Common.{◌≡◌, ℕ, List, [], ◌∷◌, ◌++◌, append_assoc, map, Bool, true, false, if◌then◌else◌, inl, inr, codes, decimal, refl, ap, sym, ◌∙◌}
use Rattle.std.proofs.lemmas.Bool.{cases_Bool}
use Rattle.std.proofs.lemmas.Str.{IsUtf8-from_is_utf8}
use Rattle.std.specs.List.{flat_map}
use Rattle.std.specs.Str.{IsUtf8, is_utf8}
use Rattle.json.specs.Print.{print}
use Rattle.json.specs.Token.{Token, begin_object, end_object, begin_array, end_array, key, string as string_token, number as number_token}
use Rattle.json.specs.Tree.{json_tokens, items_tokens, members_tokens}
use Rattle.serde_json.specs.Data.{string, number, unsigned, Members, no_members, member}
use Rattle.serde_json.specs.View.{items_of}
use Rattle.serde_json.specs.Written.{outline, items_outline, members_outline}
use Rattle.serde_json.proofs.Texts.{print-outline}
use Rattle.mac_token.specs.Base64Text.{base64_of}
use Rattle.mac_token.specs.Json.{caveat_object, identifier_member, location_member, token_object, json_bytes}
use Rattle.mac_token.specs.JsonMembers.{caveat_tokens, identifier_tokens, location_tokens}
use Rattle.mac_token.specs.RawToken.{TokenParts}

-- bytes that are no text fail the test for it
pub is_utf8-no_text : (bytes : List ℕ) → ¬ (IsUtf8 bytes) → is_utf8 bytes ≡ false
is_utf8-no_text bytes fails = elim (cases_Bool (is_utf8 bytes)) [
  | inl passes ↦ absurd (fails (IsUtf8-from_is_utf8 bytes passes))
  | inr refused ↦ refused
]

-- ---- the tokens of a token's object

chosen : (test : Bool) (bytes : List ℕ) (others : Members) → members_tokens (members_outline (if test then member (codes "i") (string bytes) others else member (codes "i64") (string (base64_of bytes)) others))
    ≡ (if test then key (codes "i") ∷ string_token bytes ∷ [] else key (codes "i64") ∷ string_token (base64_of bytes) ∷ []) ++ members_tokens (members_outline others)
chosen true bytes others = refl
chosen false bytes others = refl

identifier-is : (bytes : List ℕ) (others : Members) → members_tokens (members_outline (identifier_member bytes others)) ≡ identifier_tokens bytes ++ members_tokens (members_outline others)
identifier-is bytes others = chosen (is_utf8 bytes) bytes others

location-is : (location : List ℕ) (others : Members) → members_tokens (members_outline (location_member location others)) ≡ location_tokens location ++ members_tokens (members_outline others)
location-is [] others = refl
location-is (b ∷ bs) others = refl

caveat-is : (caveat : List ℕ) → json_tokens (outline (caveat_object caveat)) ≡ caveat_tokens caveat
caveat-is caveat = ap (λ (ts : List Token). begin_object ∷ ts) (identifier-is caveat no_members)

caveats-are : (caveats : List (List ℕ)) → items_tokens (items_outline (items_of (map caveat_object caveats))) ≡ flat_map caveat_tokens caveats ++ end_array ∷ []
caveats-are [] = refl
caveats-are (caveat ∷ caveats) =
    ap (λ (ts : List Token). ts ++ items_tokens (items_outline (items_of (map caveat_object caveats)))) (caveat-is caveat)
    ∙ ap (λ (ts : List Token). caveat_tokens caveat ++ ts) (caveats-are caveats)
    ∙ sym (append_assoc (caveat_tokens caveat) (flat_map caveat_tokens caveats) (end_array ∷ []))

abbrev last_members : List ℕ → Members
last_members sig = member (codes "s64") (string (base64_of sig)) (member (codes "v") (number (unsigned 2)) no_members)

abbrev last_tokens : List ℕ → List Token
last_tokens sig = key (codes "s64") ∷ string_token (base64_of sig) ∷ key (codes "v") ∷ number_token (decimal 2) ∷ end_object ∷ []

-- all of them
token-is : (t : TokenParts) → json_tokens (outline (token_object t))
    ≡ begin_object ∷ key (codes "c") ∷ begin_array ∷ ((flat_map caveat_tokens t.caveats ++ end_array ∷ []) ++ (identifier_tokens t.identifier ++ (location_tokens t.location ++ last_tokens t.sig)))
token-is t =
    let behind = identifier-is t.identifier (location_member t.location (last_members t.sig))
    ∙ ap (λ (ts : List Token). identifier_tokens t.identifier ++ ts) (location-is t.location (last_members t.sig)) in
    ap (λ (ts : List Token). begin_object ∷ key (codes "c") ∷ begin_array ∷ (ts ++ members_tokens (members_outline (identifier_member t.identifier (location_member t.location (last_members t.sig)))))) (caveats-are t.caveats)
    ∙ ap (λ (ts : List Token). begin_object ∷ key (codes "c") ∷ begin_array ∷ ((flat_map caveat_tokens t.caveats ++ end_array ∷ []) ++ ts)) behind

-- tokens appended one after the other
and-then : (a b c x y : List Token) → b ≡ a ++ x → c ≡ b ++ y → c ≡ a ++ (x ++ y)
and-then a b c x y first second = second ∙ ap (λ (ts : List Token). ts ++ y) first ∙ append_assoc a x y

-- what is appended step by step is the token's object
pub object-appended : (t : TokenParts) (o a b c d e f g h i j k : List Token) → a ≡ o ++ begin_object ∷ [] → b ≡ a ++ key (codes "c") ∷ [] → c ≡ b ++ begin_array ∷ [] → d ≡ c ++ flat_map caveat_tokens t.caveats
    → e ≡ d ++ end_array ∷ [] → f ≡ e ++ identifier_tokens t.identifier → g ≡ f ++ location_tokens t.location → h ≡ g ++ key (codes "s64") ∷ string_token (base64_of t.sig) ∷ [] → i ≡ h ++ key (codes "v") ∷ []
    → j ≡ i ++ number_token (decimal 2) ∷ [] → k ≡ j ++ end_object ∷ [] → k ≡ o ++ json_tokens (outline (token_object t))
object-appended t o a b c d e f g h i j k to_a to_b to_c to_d to_e to_f to_g to_h to_i to_j to_k =
    let caveats = flat_map caveat_tokens t.caveats in
    let opened = and-then o b c (begin_object ∷ key (codes "c") ∷ []) (begin_array ∷ []) (and-then o a b (begin_object ∷ []) (key (codes "c") ∷ []) to_a to_b) to_c in
    let front = and-then o d e (begin_object ∷ key (codes "c") ∷ begin_array ∷ caveats) (end_array ∷ []) (and-then o c d (begin_object ∷ key (codes "c") ∷ begin_array ∷ []) caveats opened to_d) to_e in
    let signature = key (codes "s64") ∷ string_token (base64_of t.sig) ∷ [] in
    let versioned = and-then g i j (signature ++ key (codes "v") ∷ []) (number_token (decimal 2) ∷ []) (and-then g h i signature (key (codes "v") ∷ []) to_h to_i) to_j in
    let last = and-then g j k (signature ++ key (codes "v") ∷ number_token (decimal 2) ∷ []) (end_object ∷ []) versioned to_k in
    let behind = and-then e f k (identifier_tokens t.identifier) (location_tokens t.location ++ last_tokens t.sig) to_f (and-then f g k (location_tokens t.location) (last_tokens t.sig) to_g last) in
    and-then o e k (begin_object ∷ key (codes "c") ∷ begin_array ∷ (caveats ++ end_array ∷ [])) (identifier_tokens t.identifier ++ (location_tokens t.location ++ last_tokens t.sig)) front behind
    ∙ ap (λ (ts : List Token). o ++ ts) (sym (token-is t))

-- their text is what is written for the token
pub printed : (t : TokenParts) (tokens : List Token) → tokens ≡ json_tokens (outline (token_object t)) → print tokens ≡ json_bytes t
unfolding json_bytes
printed t tokens is = ap print is ∙ print-outline (token_object t)
