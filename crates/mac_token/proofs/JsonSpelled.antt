-- A token's object spells the token.
use Rattle.std.proofs.Common.{◌≡◌, ℕ, List, [], ◌∷◌, map, length, Bool, true, false, if◌then◌else◌, inl, inr, codes, refl}
use Rattle.std.proofs.lemmas.List.Elements.{recursion_from_All}
use Rattle.std.specs.List.{AllByRecursion, AllZip}
use Rattle.std.specs.Str.{is_utf8}
use Rattle.serde_json.specs.Data.{string, array, object, number, unsigned, no_members, member}
use Rattle.serde_json.specs.View.{items_of}
use Rattle.base64.specs.GeneralPurpose.{IsBytes}
use Rattle.mac_token.specs.Base64Text.{base64_of}
use Rattle.mac_token.specs.Json.{IsCaveat, Json, caveat_object, location_member, token_object}
use Rattle.mac_token.specs.RawToken.{TokenParts, IsToken, first_party, raw_of}
use Rattle.mac_token.proofs.Base64Spelling.{base64_of_is_base64}

spelled_caveat : (test : Bool) (caveat : List ℕ) → IsBytes caveat
    → IsCaveat (object (if test then member (codes "i") (string caveat) no_members
    else member (codes "i64") (string (base64_of caveat)) no_members)) (first_party caveat)
spelled_caveat true caveat bytes = record {
  id = inl (refl, refl);
  vid = inl (refl, refl, refl);
  location = ([], inl (refl, refl), refl);
}
spelled_caveat false caveat bytes = record {
  id = inr (refl, (base64_of caveat, refl, base64_of_is_base64 caveat bytes));
  vid = inl (refl, refl, refl);
  location = ([], inl (refl, refl), refl);
}

spelled_caveats : (caveats : List (List ℕ)) → AllByRecursion IsBytes caveats
    → AllZip IsCaveat (map caveat_object caveats) (map first_party caveats)
spelled_caveats [] all = tt
spelled_caveats (caveat ∷ caveats) all = (spelled_caveat (is_utf8 caveat) caveat all.0, spelled_caveats caveats all.1)

-- by the test for text and by whether there is a location
spelled_token : (test : Bool) (location identifier : List ℕ) (caveats : List (List ℕ)) (sig : List ℕ) → IsBytes identifier
    → AllByRecursion IsBytes caveats → IsBytes sig → length sig ≡ 32
    → Json (object (member (codes "c") (array (items_of (map caveat_object caveats)))
    (if test then member (codes "i") (string identifier)
    (location_member location (member (codes "s64") (string (base64_of sig)) (member (codes "v") (number (unsigned 2)) no_members)))
    else member (codes "i64") (string (base64_of identifier))
    (location_member location (member (codes "s64") (string (base64_of sig)) (member (codes "v") (number (unsigned 2)) no_members))))))
    (raw_of (record { location = location; identifier = identifier; caveats = caveats; sig = sig }))
spelled_token true [] identifier caveats sig bytes all sig_bytes len = record {
  version = inr refl;
  location = inl (refl, refl);
  identifier = inl (refl, refl);
  caveats = inr (map caveat_object caveats, refl, spelled_caveats caveats all);
  signature = inr (refl, (base64_of sig, refl, base64_of_is_base64 sig sig_bytes));
  signature_length = len;
}
spelled_token true (b ∷ bs) identifier caveats sig bytes all sig_bytes len = record {
  version = inr refl;
  location = inr refl;
  identifier = inl (refl, refl);
  caveats = inr (map caveat_object caveats, refl, spelled_caveats caveats all);
  signature = inr (refl, (base64_of sig, refl, base64_of_is_base64 sig sig_bytes));
  signature_length = len;
}
spelled_token false [] identifier caveats sig bytes all sig_bytes len = record {
  version = inr refl;
  location = inl (refl, refl);
  identifier = inr (refl, (base64_of identifier, refl, base64_of_is_base64 identifier bytes));
  caveats = inr (map caveat_object caveats, refl, spelled_caveats caveats all);
  signature = inr (refl, (base64_of sig, refl, base64_of_is_base64 sig sig_bytes));
  signature_length = len;
}
spelled_token false (b ∷ bs) identifier caveats sig bytes all sig_bytes len = record {
  version = inr refl;
  location = inr refl;
  identifier = inr (refl, (base64_of identifier, refl, base64_of_is_base64 identifier bytes));
  caveats = inr (map caveat_object caveats, refl, spelled_caveats caveats all);
  signature = inr (refl, (base64_of sig, refl, base64_of_is_base64 sig sig_bytes));
  signature_length = len;
}

pub Json-token_object : (t : TokenParts) → IsToken t → Json (token_object t) (raw_of t)
Json-token_object t is =
    spelled_token (is_utf8 t.identifier) t.location t.identifier t.caveats t.sig is.identifier
    (recursion_from_All IsBytes t.caveats is.caveats) is.sig is.sig_length
