-- V2 JSON (libmacaroons' member names, this project's profile): what is spelled, what is written.
-- Only an object has members: `get` finds none in any other value, and each object here needs one.
use Rattle.std.specs.Prelude.{◌≡◌, ℕ, List, [], ◌∷◌, ◌⊎◌, map, codes, length, Option, Some, None, if◌then◌else◌}
use Rattle.std.specs.List.{AllZip}
use Rattle.std.specs.Str.{IsUtf8, is_utf8}
use Rattle.serde_json.specs.Data.{Data, string, array, object, number, unsigned, Members, no_members, member}
use Rattle.serde_json.specs.Find.{get}
use Rattle.serde_json.specs.Read.{read}
use Rattle.serde_json.specs.View.{items_of}
use Rattle.serde_json.specs.Written.{compact_text}
use Rattle.mac_token.specs.Base64Text.{IsBase64Of, base64_of}
use Rattle.mac_token.specs.RawToken.{CaveatParts, RawParts, TokenParts}

-- exactly one of two members is there: a text that is these bytes in UTF-8, or base64 text of them
abbrev pub HasBytes : Option Data → Option Data → List ℕ → Type 0
HasBytes text coded bytes =
    ((text ≡ Some (string bytes)) × (coded ≡ None))
    ⊎ ((text ≡ None)
    × ((letters : List ℕ) × (coded ≡ Some (string letters)) × IsBase64Of letters bytes))

-- neither member is there, or exactly one of them is, with these bytes
abbrev pub MayHaveBytes : Option Data → Option Data → Option (List ℕ) → Type 0
MayHaveBytes text coded bytes =
    ((text ≡ None) × (coded ≡ None) × (bytes ≡ None))
    ⊎ ((some : List ℕ) × HasBytes text coded some × (bytes ≡ Some some))

-- an absent member stands for the empty text
abbrev pub HasText : Option Data → List ℕ → Type 0
HasText value text = ((value ≡ None) × (text ≡ [])) ⊎ (value ≡ Some (string text))

-- an empty text counts as absent
abbrev pub unless_empty : List ℕ → Option (List ℕ)
unless_empty [] = None
unless_empty (b ∷ bs) = Some (b ∷ bs)

-- the text, where it isn't empty
abbrev pub MayHaveText : Option Data → Option (List ℕ) → Type 0
MayHaveText value text = (given : List ℕ) × HasText value given × (text ≡ unless_empty given)

-- the version may be left out, and is the whole number 2 otherwise
abbrev pub HasVersion : Option Data → Type 0
HasVersion value = (value ≡ None) ⊎ (value ≡ Some (number (unsigned 2)))

-- the object is the caveat: its id, its location, and the verifier's id where it is third-party
pub record IsCaveat (d : Data) (c : CaveatParts) : Type 0 where
  pub id : HasBytes (get (codes "i") d) (get (codes "i64") d) c.id
  pub vid : MayHaveBytes (get (codes "v") d) (get (codes "v64") d) c.vid
  pub location : MayHaveText (get (codes "l") d) c.location

-- a list of caveat objects in order; no list stands for no caveats
abbrev pub HasCaveats : Option Data → List CaveatParts → Type 0
HasCaveats value caveats =
    ((value ≡ None) × (caveats ≡ []))
    ⊎ ((items : List Data)
    × (value ≡ Some (array (items_of items))) × AllZip IsCaveat items caveats)

-- the object is the token; members of other names say nothing
pub record Json (d : Data) (r : RawParts) : Type 0 where
  pub version : HasVersion (get (codes "v") d)
  pub location : HasText (get (codes "l") d) r.location
  pub identifier : HasBytes (get (codes "i") d) (get (codes "i64") d) r.identifier
  pub caveats : HasCaveats (get (codes "c") d) r.caveats
  pub signature : HasBytes (get (codes "s") d) (get (codes "s64") d) r.sig
  pub signature_length : length r.sig ≡ 32

-- the bytes are UTF-8, and the value that `serde_json` reads in them (RFC 8259) is the token
abbrev pub JsonText : List ℕ → RawParts → Type 0
JsonText bytes r = (d : Data) × IsUtf8 bytes × (read bytes ≡ Some d) × Json d r

-- ---- what is written

-- the member `i` where the bytes are UTF-8, else `i64` with their base64 text
abbrev pub identifier_member : List ℕ → Members → Members
identifier_member bytes others =
    if is_utf8 bytes then member (codes "i") (string bytes) others
    else member (codes "i64") (string (base64_of bytes)) others

-- the member `l`, where the location isn't empty
abbrev pub location_member : List ℕ → Members → Members
location_member [] others = others
location_member (b ∷ bs) others = member (codes "l") (string (b ∷ bs)) others

-- a first-party caveat as an object
abbrev pub caveat_object : List ℕ → Data
caveat_object caveat = object (identifier_member caveat no_members)

-- the token as an object, its members sorted by name
abbrev pub token_object : TokenParts → Data
token_object t =
    object (member (codes "c") (array (items_of (map caveat_object t.caveats)))
    (identifier_member t.identifier
    (location_member t.location
    (member (codes "s64") (string (base64_of t.sig))
    (member (codes "v") (number (unsigned 2)) no_members)))))

-- the token in V2 JSON: the object without white space, as `serde_json` writes it
unfoldable pub json_bytes : TokenParts → List ℕ
json_bytes t = compact_text (token_object t)
