-- What V2 JSON is read as is the one raw token that it spells.
use Rattle.std.proofs.Common.{◌≡◌, ℕ, true, List, [], ◌∷◌, inl, inr, length, Option, Some, None, refl, sym, ap, subst, ◌∙◌}
use Rattle.std.specs.Prelude.{codes, ◌==◌, if◌then◌else◌}
use Rattle.std.specs.List.{AllZip}
use Rattle.std.specs.Str.{is_utf8}
use Rattle.std.proofs.lemmas.Bool.{eqb-true, eq-eqb}
use Rattle.std.proofs.lemmas.Option.{same_Some}
use Rattle.std.proofs.lemmas.Str.{IsUtf8-from_is_utf8, is_utf8-from_IsUtf8}
use Rattle.serde_json.specs.Data.{unsigned, negative, float, Data, null, boolean, number, string, array, object, Items, no_items, item}
use Rattle.serde_json.specs.Find.{get, as_str, as_array}
use Rattle.serde_json.specs.Read.{read}
use Rattle.serde_json.specs.View.{items_of}
use Rattle.mac_token.specs.RawToken.{CaveatParts, RawParts}
use Rattle.mac_token.specs.Base64Reading.{base64_bytes}
use Rattle.mac_token.specs.Steps.{◌>>=◌}
use Rattle.mac_token.specs.Json.{HasBytes, MayHaveBytes, HasText, HasVersion, HasCaveats, IsCaveat, Json, JsonText, unless_empty}
use Rattle.mac_token.specs.JsonReading.{bytes_at, optional_bytes_at, text_at, is_version, caveat_of, caveats_of, caveats_at, json_of, json_text_of}
use Rattle.mac_token.proofs.Steps.{bind_some, kept, went_on}
use Rattle.mac_token.proofs.Base64Read.{base64_takes, base64_again}

-- text is a string
string_is : (d : Data) (s : List ℕ) → as_str d ≡ Some s → d ≡ string s
string_is null s e = absurd cc
string_is (boolean b) s e = absurd cc
string_is (number n) s e = absurd cc
string_is (string t) s e = ap string (same_Some t s e)
string_is (array ds) s e = absurd cc
string_is (object ms) s e = absurd cc

array_is : (d : Data) (ds : Items) → as_array d ≡ Some ds → d ≡ array ds
array_is null ds e = absurd cc
array_is (boolean b) ds e = absurd cc
array_is (number n) ds e = absurd cc
array_is (string t) ds e = absurd cc
array_is (array es) ds e = ap array (same_Some es ds e)
array_is (object ms) ds e = absurd cc

abbrev some_data : Data → Option Data
some_data d = Some d

-- ---- members

bytes_takes : (text coded : Option Data) (bytes : List ℕ) → bytes_at text coded ≡ Some bytes → HasBytes text coded bytes
bytes_takes (Some d) None bytes e = inl (ap some_data (string_is d bytes e), refl)
bytes_takes None (Some d) bytes e =
    let letters = bind_some (as_str d) base64_bytes bytes e in
    inr (refl, (letters.0, ap some_data (string_is d letters.0 letters.1), base64_takes letters.0 bytes letters.2))
bytes_takes None None bytes e = absurd cc
bytes_takes (Some c) (Some d) bytes e = absurd cc

bytes_again : (text coded : Option Data) (bytes : List ℕ) → HasBytes text coded bytes → bytes_at text coded ≡ Some bytes
bytes_again text coded bytes (inl (is, none)) = rw (is, none) refl
bytes_again text coded bytes (inr (none, (letters, is, spelled))) = rw (none, is) (base64_again letters bytes spelled)

-- they are one list of bytes at most
pub same_member_bytes : (text coded : Option Data) (a b : List ℕ) → HasBytes text coded a → HasBytes text coded b → a ≡ b
same_member_bytes text coded a b has_a has_b = same_Some a b (sym (bytes_again text coded a has_a) ∙ bytes_again text coded b has_b)

abbrev some_bytes : List ℕ → Option (Option (List ℕ))
some_bytes bytes = Some (Some bytes)

optional_bytes_takes : (text coded : Option Data) (bytes : Option (List ℕ)) → optional_bytes_at text coded ≡ Some bytes → MayHaveBytes text coded bytes
optional_bytes_takes None None bytes e = inl (refl, refl, sym (same_Some None bytes e))
optional_bytes_takes (Some d) None bytes e =
    let is = bind_some (as_str d) some_bytes bytes e in
    inr (is.0, bytes_takes (Some d) None is.0 is.1, sym (same_Some (Some is.0) bytes is.2))
optional_bytes_takes None (Some d) bytes e =
    let letters = bind_some (as_str d) (λ letters. base64_bytes letters >>= some_bytes) bytes e in
    let is = bind_some (base64_bytes letters.0) some_bytes bytes letters.2 in
    inr (is.0, inr (refl, (letters.0, ap some_data (string_is d letters.0 letters.1), base64_takes letters.0 is.0 is.1)), sym (same_Some (Some is.0) bytes is.2))
optional_bytes_takes (Some c) (Some d) bytes e = absurd cc

optional_bytes_again : (text coded : Option Data) (bytes : Option (List ℕ)) → MayHaveBytes text coded bytes → optional_bytes_at text coded ≡ Some bytes
optional_bytes_again text coded bytes (inl (no_text, no_coded, none)) = rw (no_text, no_coded, none) refl
optional_bytes_again text coded bytes (inr (given, inl (is, none), some)) = rw (is, none, some) refl
optional_bytes_again text coded bytes (inr (given, inr (none, (letters, is, spelled)), some)) = rw (none, is, base64_again letters given spelled, some) refl

text_takes : (value : Option Data) (text : List ℕ) → text_at value ≡ Some text → HasText value text
text_takes None text e = inl (refl, sym (same_Some [] text e))
text_takes (Some d) text e = inr (ap some_data (string_is d text e))

text_again : (value : Option Data) (text : List ℕ) → HasText value text → text_at value ≡ Some text
text_again value text (inl (none, empty)) = rw (none, empty) refl
text_again value text (inr is) = rw is refl

version_takes : (value : Option Data) → is_version value ≡ true → HasVersion value
version_takes None e = inl refl
version_takes (Some null) e = absurd cc
version_takes (Some (boolean b)) e = absurd cc
version_takes (Some (number (unsigned n))) e = inr (ap (λ (m : ℕ). Some (number (unsigned m))) (eqb-true n 2 e))
version_takes (Some (number (negative z))) e = absurd cc
version_takes (Some (number (float x))) e = absurd cc
version_takes (Some (string s)) e = absurd cc
version_takes (Some (array ds)) e = absurd cc
version_takes (Some (object ms)) e = absurd cc

version_again : (value : Option Data) → HasVersion value → is_version value ≡ true
version_again value (inl none) = rw none refl
version_again value (inr is) = rw is refl

-- ---- caveats

abbrev caveat_done : List ℕ → Option (List ℕ) → List ℕ → Option CaveatParts
caveat_done id vid location = Some (record { id = id; vid = vid; location = unless_empty location })

abbrev caveat_vid : Data → List ℕ → Option (List ℕ) → Option CaveatParts
caveat_vid d id vid = text_at (get (codes "l") d) >>= caveat_done id vid

abbrev caveat_id : Data → List ℕ → Option CaveatParts
caveat_id d id = optional_bytes_at (get (codes "v") d) (get (codes "v64") d) >>= caveat_vid d id

caveat_takes : (d : Data) (c : CaveatParts) → caveat_of d ≡ Some c → IsCaveat d c
unfolding caveat_of
caveat_takes d c e =
    let id = bind_some (bytes_at (get (codes "i") d) (get (codes "i64") d)) (caveat_id d) c e in
    let vid = bind_some (optional_bytes_at (get (codes "v") d) (get (codes "v64") d)) (caveat_vid d id.0) c id.2 in
    let location = bind_some (text_at (get (codes "l") d)) (caveat_done id.0 vid.0) c vid.2 in
    let parts : CaveatParts = record { id = id.0; vid = vid.0; location = unless_empty location.0 } in
    let whole : IsCaveat d parts = record {
      id = bytes_takes (get (codes "i") d) (get (codes "i64") d) id.0 id.1;
      vid = optional_bytes_takes (get (codes "v") d) (get (codes "v64") d) vid.0 vid.1;
      location = (location.0, text_takes (get (codes "l") d) location.0 location.1, refl);
    } in
    subst (IsCaveat d) (same_Some parts c location.2) whole

caveat_again : (d : Data) (c : CaveatParts) → IsCaveat d c → caveat_of d ≡ Some c
unfolding caveat_of
caveat_again d c is =
    rw (bytes_again (get (codes "i") d) (get (codes "i64") d) c.id is.id, optional_bytes_again (get (codes "v") d) (get (codes "v64") d) c.vid is.vid, text_again (get (codes "l") d) is.location.0 is.location.1, is.location.2) refl

abbrev one_more : CaveatParts → List CaveatParts → Option (List CaveatParts)
one_more c cs = Some (c ∷ cs)

-- items as a list
abbrev list_of : Items → List Data
list_of no_items = []
list_of (item d ds) = d ∷ list_of ds

items_again : (ds : Items) → items_of (list_of ds) ≡ ds
items_again no_items = refl
items_again (item d ds) = ap (item d) (items_again ds)

items_take : (ds : Items) (cs : List CaveatParts) → caveats_of ds ≡ Some cs → AllZip IsCaveat (list_of ds) cs
items_take no_items cs e = subst (AllZip IsCaveat []) (same_Some [] cs e) tt
items_take (item d ds) cs e =
    let c = bind_some (caveat_of d) (λ c. caveats_of ds >>= one_more c) cs e in
    let others = bind_some (caveats_of ds) (one_more c.0) cs c.2 in
    subst (AllZip IsCaveat (d ∷ list_of ds)) (same_Some (c.0 ∷ others.0) cs others.2) (caveat_takes d c.0 c.1, items_take ds others.0 others.1)

zip_again : (items : List Data) (cs : List CaveatParts) → AllZip IsCaveat items cs → caveats_of (items_of items) ≡ Some cs
zip_again [] [] zip = refl
zip_again [] (c ∷ cs) zip = absurd zip
zip_again (d ∷ items) [] zip = absurd zip
zip_again (d ∷ items) (c ∷ cs) zip = rw (caveat_again d c zip.0, zip_again items cs zip.1) refl

caveats_take : (value : Option Data) (cs : List CaveatParts) → caveats_at value ≡ Some cs → HasCaveats value cs
caveats_take None cs e = inl (refl, sym (same_Some [] cs e))
caveats_take (Some d) cs e =
    let ds = bind_some (as_array d) caveats_of cs e in
    let is : d ≡ array (items_of (list_of ds.0)) = array_is d ds.0 ds.1 ∙ ap array (sym (items_again ds.0)) in
    inr (list_of ds.0, ap some_data is, items_take ds.0 cs ds.2)

caveats_again : (value : Option Data) (cs : List CaveatParts) → HasCaveats value cs → caveats_at value ≡ Some cs
caveats_again value cs (inl (none, empty)) = rw (none, empty) refl
caveats_again value cs (inr (items, is, zip)) = rw is (zip_again items cs zip)

-- ---- a token

abbrev token_sig : List ℕ → List ℕ → List CaveatParts → List ℕ → Option RawParts
token_sig location identifier caveats sig = if length sig == 32 then Some (record { location = location; identifier = identifier; caveats = caveats; sig = sig }) else None

abbrev token_caveats : Data → List ℕ → List ℕ → List CaveatParts → Option RawParts
token_caveats d location identifier caveats = bytes_at (get (codes "s") d) (get (codes "s64") d) >>= token_sig location identifier caveats

abbrev token_identifier : Data → List ℕ → List ℕ → Option RawParts
token_identifier d location identifier = caveats_at (get (codes "c") d) >>= token_caveats d location identifier

abbrev token_location : Data → List ℕ → Option RawParts
token_location d location = bytes_at (get (codes "i") d) (get (codes "i64") d) >>= token_identifier d location

pub json_of_takes : (d : Data) (r : RawParts) → json_of d ≡ Some r → Json d r
unfolding json_of
json_of_takes d r e =
    let version = went_on (is_version (get (codes "v") d)) (text_at (get (codes "l") d) >>= token_location d) r e in
    let l = bind_some (text_at (get (codes "l") d)) (token_location d) r version.1 in
    let i = bind_some (bytes_at (get (codes "i") d) (get (codes "i64") d)) (token_identifier d l.0) r l.2 in
    let c = bind_some (caveats_at (get (codes "c") d)) (token_caveats d l.0 i.0) r i.2 in
    let s = bind_some (bytes_at (get (codes "s") d) (get (codes "s64") d)) (token_sig l.0 i.0 c.0) r c.2 in
    let parts : RawParts = record { location = l.0; identifier = i.0; caveats = c.0; sig = s.0 } in
    let size = kept (length s.0 == 32) parts r s.2 in
    let whole : Json d parts = record {
      version = version_takes (get (codes "v") d) version.0;
      location = text_takes (get (codes "l") d) l.0 l.1;
      identifier = bytes_takes (get (codes "i") d) (get (codes "i64") d) i.0 i.1;
      caveats = caveats_take (get (codes "c") d) c.0 c.1;
      signature = bytes_takes (get (codes "s") d) (get (codes "s64") d) s.0 s.1;
      signature_length = eqb-true _ _ size.0;
    } in
    subst (Json d) size.1 whole

pub json_of_again : (d : Data) (r : RawParts) → Json d r → json_of d ≡ Some r
unfolding json_of
json_of_again d r j =
    rw (
      version_again (get (codes "v") d) j.version,
      text_again (get (codes "l") d) r.location j.location,
      bytes_again (get (codes "i") d) (get (codes "i64") d) r.identifier j.identifier,
      caveats_again (get (codes "c") d) r.caveats j.caveats,
      bytes_again (get (codes "s") d) (get (codes "s64") d) r.sig j.signature,
      eq-eqb (length r.sig) 32 j.signature_length,
    ) refl

-- what is read is spelled so
pub json_takes : (bytes : List ℕ) (r : RawParts) → json_text_of bytes ≡ Some r → JsonText bytes r
unfolding json_text_of
json_takes bytes r e =
    let utf8 = went_on (is_utf8 bytes) (read bytes >>= json_of) r e in
    let d = bind_some (read bytes) json_of r utf8.1 in
    (d.0, IsUtf8-from_is_utf8 bytes utf8.0, d.1, json_of_takes d.0 r d.2)

-- what is spelled is read
pub json_again : (bytes : List ℕ) (r : RawParts) → JsonText bytes r → json_text_of bytes ≡ Some r
unfolding json_text_of
json_again bytes r (d, utf8, reads, j) = rw (is_utf8-from_IsUtf8 bytes utf8, reads) (json_of_again d r j)
