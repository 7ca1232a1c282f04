-- For proofs: what is read from V2 JSON, as a function; law `json_is_meant` ties it to `JsonText`.
use Rattle.std.specs.Prelude.{ℕ, ◌==◌, Bool, true, false, if◌then◌else◌, List, [], ◌∷◌, codes, length, Option, Some, None}
use Rattle.std.specs.Str.{is_utf8}
use Rattle.serde_json.specs.Data.{unsigned, negative, float, Data, null, boolean, number, string, array, object, Items, no_items, item}
use Rattle.serde_json.specs.Find.{get, as_str, as_array}
use Rattle.serde_json.specs.Read.{read}
use Rattle.mac_token.specs.RawToken.{CaveatParts, RawParts}
use Rattle.mac_token.specs.Base64Reading.{base64_bytes}
use Rattle.mac_token.specs.Json.{unless_empty}
use Rattle.mac_token.specs.Steps.{◌>>=◌}

-- the bytes of the one member that is there of two: text, or base64 text
abbrev pub bytes_at : Option Data → Option Data → Option (List ℕ)
bytes_at (Some text) None = as_str text
bytes_at None (Some coded) = as_str coded >>= base64_bytes
bytes_at None None = None
bytes_at (Some text) (Some coded) = None

-- the same, or none where neither is there
abbrev pub optional_bytes_at : Option Data → Option Data → Option (Option (List ℕ))
optional_bytes_at None None = Some None
optional_bytes_at (Some text) None = as_str text >>= λ bytes. Some (Some bytes)
optional_bytes_at None (Some coded) =
    as_str coded >>= λ letters. base64_bytes letters >>= λ bytes. Some (Some bytes)
optional_bytes_at (Some text) (Some coded) = None

-- the text of a member, empty where it is absent
abbrev pub text_at : Option Data → Option (List ℕ)
text_at None = Some []
text_at (Some d) = as_str d

-- the whole number 2, or nothing
abbrev pub is_version : Option Data → Bool
is_version None = true
is_version (Some null) = false
is_version (Some (boolean b)) = false
is_version (Some (number (unsigned n))) = n == 2
is_version (Some (number (negative z))) = false
is_version (Some (number (float x))) = false
is_version (Some (string s)) = false
is_version (Some (array ds)) = false
is_version (Some (object ms)) = false

-- an object as a caveat
unfoldable pub caveat_of : Data → Option CaveatParts
caveat_of d = do
  id ← bytes_at (get (codes "i") d) (get (codes "i64") d)
  vid ← optional_bytes_at (get (codes "v") d) (get (codes "v64") d)
  location ← text_at (get (codes "l") d)
  Some (record { id = id; vid = vid; location = unless_empty location })

-- each item as a caveat
abbrev pub caveats_of : Items → Option (List CaveatParts)
caveats_of no_items = Some []
caveats_of (item d ds) = caveat_of d >>= λ c. caveats_of ds >>= λ cs. Some (c ∷ cs)

-- the caveats of a list, none where it is absent
abbrev pub caveats_at : Option Data → Option (List CaveatParts)
caveats_at None = Some []
caveats_at (Some d) = as_array d >>= caveats_of

-- an object as a token
unfoldable pub json_of : Data → Option RawParts
json_of d = if is_version (get (codes "v") d) then (do
  location ← text_at (get (codes "l") d)
  identifier ← bytes_at (get (codes "i") d) (get (codes "i64") d)
  caveats ← caveats_at (get (codes "c") d)
  sig ← bytes_at (get (codes "s") d) (get (codes "s64") d)
  if length sig == 32
      then Some (record {
        location = location;
        identifier = identifier;
        caveats = caveats;
        sig = sig;
      })
      else None) else None

-- a text as a token
unfoldable pub json_text_of : List ℕ → Option RawParts
json_text_of bytes = if is_utf8 bytes then (read bytes >>= json_of) else None
