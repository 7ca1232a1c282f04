-- What is written for a token's object is UTF-8, and is read as that object.
use Rattle.std.proofs.Common.{◌≡◌, ℕ, ◌≤◌, List, [], ◌∷◌, ◌++◌, map, Bool, true, false, if◌then◌else◌, Some, codes, decimal, slice_index, refl, ap, sym, arith, lit<, ◌∙◌, append-nil}
use Rattle.std.proofs.lemmas.Str.{IsUtf8-append, IsUtf8-nil, IsUtf8-from_ascii, IsUtf8-from_is_utf8}
use Rattle.std.specs.Bool.{⊤}
use Rattle.std.specs.Fmt.{digits}
use Rattle.std.specs.Str.{IsUtf8, is_utf8}
use Rattle.json.specs.Json as json
use Rattle.json.specs.Lex.{tokens}
use Rattle.json.specs.Print.{quoted}
use Rattle.json.specs.Tree as tree
use Rattle.json.proofs.Printed.Decimals.{IsNumber-decimal}
use Rattle.json.proofs.Printed.Tokens.{tokens-print}
use Rattle.json.proofs.Printed.Trees.{value-json_tokens, ArePrintable-json_tokens}
use Rattle.json.proofs.Printed.Utf8.{IsUtf8-are_ascii, IsUtf8-quoted}
use Rattle.serde_json.specs.Data.{Data, null, boolean, string, array, object, number, unsigned, Items, no_items, item, Members, no_members, member}
use Rattle.serde_json.specs.Read.{read, of_json, of_items, max_depth, number_of}
use Rattle.serde_json.specs.View.{items_of}
use Rattle.serde_json.specs.Written.{compact_text, items_text, members_text, comma_if, number_text, outline, items_outline}
use Rattle.serde_json.proofs.Numbers.{number_of-decimal}
use Rattle.serde_json.proofs.Texts.{print-outline}
use Rattle.base64.specs.Engines.{url_safe_no_pad}
use Rattle.base64.proofs.EngineFacts.{IsAscii-encode_of}
use Rattle.mac_token.specs.Base64Text.{base64_of}
use Rattle.mac_token.specs.Json.{JsonText, caveat_object, identifier_member, location_member, token_object, json_bytes}
use Rattle.mac_token.specs.RawToken.{TokenParts, IsToken, raw_of}
use Rattle.mac_token.proofs.JsonSpelled.{Json-token_object}

-- ---- UTF-8

pub IsUtf8-base64_of : (bytes : List ℕ) → IsUtf8 (base64_of bytes)
IsUtf8-base64_of bytes = IsUtf8-from_ascii (base64_of bytes) (IsAscii-encode_of url_safe_no_pad bytes)

-- each text in the value is UTF-8
abbrev mutual
  HasTexts : Data → Type 0
  HasTexts null = ⊤
  HasTexts (boolean b) = ⊤
  HasTexts (number n) = IsUtf8 (number_text n)
  HasTexts (string s) = IsUtf8 s
  HasTexts (array ds) = ItemsHaveTexts ds
  HasTexts (object ms) = MembersHaveTexts ms

  ItemsHaveTexts : Items → Type 0
  ItemsHaveTexts no_items = ⊤
  ItemsHaveTexts (item d ds) = HasTexts d × ItemsHaveTexts ds

  MembersHaveTexts : Members → Type 0
  MembersHaveTexts no_members = ⊤
  MembersHaveTexts (member k d ms) = IsUtf8 k × HasTexts d × MembersHaveTexts ms

ascii_first : (x : ℕ) (xs : List ℕ) → IsUtf8 (x ∷ []) → IsUtf8 xs → IsUtf8 (x ∷ xs)
ascii_first x xs first rest = IsUtf8-append (x ∷ []) xs first rest

IsUtf8-comma_if : (later : Bool) → IsUtf8 (comma_if later)
IsUtf8-comma_if true = IsUtf8-are_ascii (44 ∷ []) refl
IsUtf8-comma_if false = IsUtf8-nil

mutual
  IsUtf8-compact_text : (d : Data) → HasTexts d → IsUtf8 (compact_text d)
  IsUtf8-compact_text null h = IsUtf8-are_ascii (compact_text null) refl
  IsUtf8-compact_text (boolean true) h = IsUtf8-are_ascii (compact_text (boolean true)) refl
  IsUtf8-compact_text (boolean false) h = IsUtf8-are_ascii (compact_text (boolean false)) refl
  IsUtf8-compact_text (number n) h = h
  IsUtf8-compact_text (string s) h = IsUtf8-quoted s h
  IsUtf8-compact_text (array ds) h = ascii_first 91 (items_text false ds) (IsUtf8-are_ascii (91 ∷ []) refl) (IsUtf8-items_text false ds h)
  IsUtf8-compact_text (object ms) h = ascii_first 123 (members_text false ms) (IsUtf8-are_ascii (123 ∷ []) refl) (IsUtf8-members_text false ms h)

  IsUtf8-items_text : (later : Bool) (ds : Items) → ItemsHaveTexts ds → IsUtf8 (items_text later ds)
  IsUtf8-items_text later no_items h = IsUtf8-are_ascii (93 ∷ []) refl
  IsUtf8-items_text later (item d ds) h =
      IsUtf8-append (comma_if later) (compact_text d ++ items_text true ds) (IsUtf8-comma_if later)
      (IsUtf8-append (compact_text d) (items_text true ds) (IsUtf8-compact_text d h.0) (IsUtf8-items_text true ds h.1))

  IsUtf8-members_text : (later : Bool) (ms : Members) → MembersHaveTexts ms → IsUtf8 (members_text later ms)
  IsUtf8-members_text later no_members h = IsUtf8-are_ascii (125 ∷ []) refl
  IsUtf8-members_text later (member k d ms) h =
      let value = IsUtf8-append (compact_text d) (members_text true ms) (IsUtf8-compact_text d h.1) (IsUtf8-members_text true ms h.2) in
      let colon = ascii_first 58 (compact_text d ++ members_text true ms) (IsUtf8-are_ascii (58 ∷ []) refl) value in
      IsUtf8-append (comma_if later) (quoted k ++ 58 ∷ (compact_text d ++ members_text true ms)) (IsUtf8-comma_if later)
      (IsUtf8-append (quoted k) (58 ∷ (compact_text d ++ members_text true ms)) (IsUtf8-quoted k h.0) colon)

chosen_texts : (test : Bool) (bytes : List ℕ) (others : Members) → (test ≡ true → IsUtf8 bytes) → MembersHaveTexts others
    → MembersHaveTexts (if test then member (codes "i") (string bytes) others else member (codes "i64") (string (base64_of bytes)) others)
chosen_texts true bytes others text rest = (IsUtf8-are_ascii (codes "i") refl, text refl, rest)
chosen_texts false bytes others text rest = (IsUtf8-are_ascii (codes "i64") refl, IsUtf8-base64_of bytes, rest)

identifier_texts : (bytes : List ℕ) (others : Members) → MembersHaveTexts others → MembersHaveTexts (identifier_member bytes others)
identifier_texts bytes others rest = chosen_texts (is_utf8 bytes) bytes others (IsUtf8-from_is_utf8 bytes) rest

location_texts : (location : List ℕ) (others : Members) → IsUtf8 location → MembersHaveTexts others
    → MembersHaveTexts (location_member location others)
location_texts [] others text rest = rest
location_texts (b ∷ bs) others text rest = (IsUtf8-are_ascii (codes "l") refl, text, rest)

caveats_texts : (caveats : List (List ℕ)) → ItemsHaveTexts (items_of (map caveat_object caveats))
caveats_texts [] = tt
caveats_texts (caveat ∷ caveats) = (identifier_texts caveat no_members tt, caveats_texts caveats)

-- the two members after the location
last_members : List ℕ → Members
last_members sig = member (codes "s64") (string (base64_of sig)) (member (codes "v") (number (unsigned 2)) no_members)

last_texts : (sig : List ℕ) → MembersHaveTexts (last_members sig)
unfolding last_members digits
last_texts sig = (
  IsUtf8-are_ascii (codes "s64") refl,
  IsUtf8-base64_of sig,
  (IsUtf8-are_ascii (codes "v") refl, IsUtf8-are_ascii (decimal 2) refl, tt),
)

token_texts : (t : TokenParts) → IsUtf8 t.location → HasTexts (token_object t)
unfolding last_members
token_texts t location = (
  IsUtf8-are_ascii (codes "c") refl,
  caveats_texts t.caveats,
  identifier_texts t.identifier (location_member t.location (last_members t.sig))
      (location_texts t.location (last_members t.sig) location (last_texts t.sig)),
)

-- ---- the object that is read

read_back : (d : Data) → tree.HasNumbers (outline d) → tree.depth (outline d) ≤ max_depth → of_json (outline d) ≡ Some d
    → read (compact_text d) ≡ Some d
read_back d numbers shallow same =
    let ts = tree.json_tokens (outline d) in
    let lexed : tokens (compact_text d) ≡ ts = ap tokens (sym (print-outline d)) ∙ tokens-print ts (ArePrintable-json_tokens (outline d) numbers) in
    let parsed : json.value max_depth (tokens (compact_text d)) ≡ Some (outline d, []) =
    ap (json.value max_depth) (lexed ∙ sym (append-nil ts)) ∙ value-json_tokens (outline d) max_depth [] shallow in
    rw parsed same

read_caveat : (test : Bool) (caveat : List ℕ) → (d : Data)
    → d ≡ object (if test then member (codes "i") (string caveat) no_members else member (codes "i64") (string (base64_of caveat)) no_members)
    → (of_json (outline d) ≡ Some d) × (tree.depth (outline d) ≤ 1) × tree.HasNumbers (outline d)
read_caveat true caveat d e = rw e (refl, omega arith, (tt, tt))
read_caveat false caveat d e = rw e (refl, omega arith, (tt, tt))

read_caveats : (caveats : List (List ℕ))
    → (of_items (items_outline (items_of (map caveat_object caveats))) ≡ Some (items_of (map caveat_object caveats)))
    × (tree.items_depth (items_outline (items_of (map caveat_object caveats))) ≤ 1)
    × tree.ItemsHaveNumbers (items_outline (items_of (map caveat_object caveats)))
read_caveats [] = (refl, omega arith, tt)
read_caveats (caveat ∷ caveats) =
    let first = read_caveat (is_utf8 caveat) caveat (caveat_object caveat) refl in
    let later = read_caveats caveats in
    (rw (first.0, later.0) refl, omega (arith, first.1, later.1), (first.2, later.2))

two : number_of (decimal 2) ≡ Some (unsigned 2)
two = number_of-decimal 2 (lit< tt)

-- by the test for text and by whether there is a location
read_token : (test : Bool) (location identifier : List ℕ) (caveats : List (List ℕ)) (sig : List ℕ) (d : Data)
    → d ≡ object (member (codes "c") (array (items_of (map caveat_object caveats)))
    (if test then member (codes "i") (string identifier) (location_member location (last_members sig))
    else member (codes "i64") (string (base64_of identifier)) (location_member location (last_members sig))))
    → (of_json (outline d) ≡ Some d) × (tree.depth (outline d) ≤ max_depth) × tree.HasNumbers (outline d)
unfolding last_members
read_token true [] identifier caveats sig d e =
    let inside = read_caveats caveats in
    rw e (rw (inside.0, two) refl, omega (arith, inside.1), (inside.2, (tt, (tt, (IsNumber-decimal 2 (lit< tt), tt)))))
read_token true (b ∷ bs) identifier caveats sig d e =
    let inside = read_caveats caveats in
    rw e (rw (inside.0, two) refl, omega (arith, inside.1), (inside.2, (tt, (tt, (tt, (IsNumber-decimal 2 (lit< tt), tt))))))
read_token false [] identifier caveats sig d e =
    let inside = read_caveats caveats in
    rw e (rw (inside.0, two) refl, omega (arith, inside.1), (inside.2, (tt, (tt, (IsNumber-decimal 2 (lit< tt), tt)))))
read_token false (b ∷ bs) identifier caveats sig d e =
    let inside = read_caveats caveats in
    rw e (rw (inside.0, two) refl, omega (arith, inside.1), (inside.2, (tt, (tt, (tt, (IsNumber-decimal 2 (lit< tt), tt))))))

-- what is written for a token is read as that token
pub JsonText-json_bytes : (t : TokenParts) → IsToken t → JsonText (json_bytes t) (raw_of t)
unfolding json_bytes last_members
JsonText-json_bytes t is =
    let d = token_object t in
    let facts = read_token (is_utf8 t.identifier) t.location t.identifier t.caveats t.sig d refl in
    (d, IsUtf8-compact_text d (token_texts t is.location), read_back d facts.2 facts.1 facts.0, Json-token_object t is)

-- it begins with a brace
pub json_bytes-first : (t : TokenParts) → slice_index (json_bytes t) 0 ≡ 123
unfolding json_bytes
json_bytes-first t = refl
