-- V2 binary as a whole: what is read is spelled, and what is written spells its token.
use Rattle.std.proofs.Common.{◌≡◌, ℕ, List, [], ◌∷◌, ◌++◌, length, map, Option, Some, None, refl, sym, ap, ◌∙◌, append_assoc}
use Rattle.std.specs.Prelude.{unwrap_or}
use Rattle.std.specs.Str.{IsUtf8}
use Rattle.std.specs.List.{flat_map}
use Rattle.base64.specs.GeneralPurpose.{IsBytes}
use Rattle.mac_token.specs.RawToken.{CaveatParts, RawParts, TokenParts, first_party, raw_of}
use Rattle.mac_token.specs.Location.{text_at}
use Rattle.mac_token.specs.V2.{V2, section, sections, field, end_mark, written_location, written_section, v2_bytes}
use Rattle.mac_token.specs.Section.{SectionParts, location_bytes, caveat_said}
use Rattle.mac_token.specs.V2Reading.{head_at, signature_at, AreCaveats}
use Rattle.mac_token.specs.declared.v2.FieldType.TheVariants.{Signature}
use Rattle.mac_token.proofs.Texts.{text_at-IsUtf8}
use Rattle.mac_token.proofs.V2Fields.{IsBytes-rest}
use Rattle.mac_token.proofs.V2Sections.{head_takes, head_again, signature_takes}
use Rattle.mac_token.proofs.V2Caveats.{ended}

sections_front : (head : SectionParts) (caveats : List SectionParts) (sig : List ℕ) → sections head caveats sig ≡ 2 ∷ (section head ++ ended caveats (field Signature sig))
sections_front head caveats sig =
    append_assoc (2 ∷ section head ++ flat_map section caveats) end_mark (field Signature sig)
    ∙ append_assoc (2 ∷ section head) (flat_map section caveats) (end_mark ++ field Signature sig)
    ∙ ap (λ (t : List ℕ). 2 ∷ (section head ++ t)) (sym (append_assoc (flat_map section caveats) end_mark (field Signature sig)))

-- a token's own section is read first
pub V2_head : (bytes : List ℕ) (r : RawParts) (v : V2 bytes r) → head_at bytes ≡ Some (v.head, ended v.caveats (field Signature r.sig))
V2_head bytes r v = ap head_at (v.spelled ∙ sections_front v.head v.caveats r.sig) ∙ head_again v.head (ended v.caveats (field Signature r.sig)) v.no_vid

-- what is read part by part is spelled
pub V2_from_parts : (bytes : List ℕ) (head : SectionParts) (rest location : List ℕ) (cs : List CaveatParts) (after sig : List ℕ) → IsBytes bytes → head_at bytes ≡ Some (head, rest) → text_at (location_bytes head) ≡ Some location → AreCaveats rest cs after → signature_at after ≡ Some sig → V2 bytes (record { location = location; identifier = head.identifier; caveats = cs; sig = sig })
V2_from_parts bytes head rest location cs after sig fits read text are last =
    let h = head_takes bytes head rest fits read in
    let ends = signature_takes after sig (IsBytes-rest _ rest after are.spelled h.0.rest_fits) last in
    record {
      head = head;
      caveats = are.parts;
      spelled = h.0.parts ∙ ap (λ (t : List ℕ). 2 ∷ (section head ++ t)) (are.spelled ∙ ap (ended are.parts) ends.0) ∙ sym (sections_front head are.parts sig);
      location = text;
      identifier = refl;
      no_vid = h.1;
      each = are.each;
      sig = ends.1;
    }

-- the first byte is 2
pub V2_first : (bytes : List ℕ) (r : RawParts) → V2 bytes r → (rest : List ℕ) × (bytes ≡ 2 ∷ rest)
V2_first bytes r v = (section v.head ++ ended v.caveats (field Signature r.sig), v.spelled ∙ sections_front v.head v.caveats r.sig)

written_text : (location : List ℕ) → unwrap_or (written_location location) [] ≡ location
written_text [] = refl
written_text (b ∷ bytes) = refl

said_written : (caveats : List (List ℕ)) → map caveat_said (map (written_section None) caveats) ≡ map (λ c. Some c) (map first_party caveats)
said_written [] = refl
said_written (c ∷ cs) = ap (λ (t : List (Option CaveatParts)). Some (first_party c) ∷ t) (said_written cs)

-- what is written spells its token
pub V2-v2_bytes : (t : TokenParts) → IsUtf8 t.location → length t.sig ≡ 32 → V2 (v2_bytes t) (raw_of t)
V2-v2_bytes t utf8 size = record {
  head = written_section (written_location t.location) t.identifier;
  caveats = map (written_section None) t.caveats;
  spelled = refl;
  location = ap text_at (written_text t.location) ∙ text_at-IsUtf8 t.location utf8;
  identifier = refl;
  no_vid = refl;
  each = said_written t.caveats;
  sig = size;
}
