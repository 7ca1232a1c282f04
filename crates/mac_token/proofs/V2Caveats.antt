-- The sections of caveats, one after the other, and where they end.
use Rattle.std.proofs.Common.{◌≡◌, ℕ, ◌<◌, List, [], ◌∷◌, ◌++◌, length, map, Option, Some, refl, sym, ap, ◌∙◌, append_assoc, arith}
use Rattle.std.specs.List.{flat_map}
use Rattle.std.proofs.lemmas.List.{length-append}
use Rattle.base64.specs.GeneralPurpose.{IsBytes}
use Rattle.mac_token.specs.RawToken.{CaveatParts}
use Rattle.mac_token.specs.V2.{field, optional, section, end_mark}
use Rattle.mac_token.specs.Section.{SectionParts, caveat_said}
use Rattle.mac_token.specs.V2Reading.{end_at, section_at, AreCaveats}
use Rattle.mac_token.specs.declared.v2.FieldType.TheVariants.{Location, Identifier, Vid}
use Rattle.mac_token.proofs.V2Fields.{end_is}
use Rattle.mac_token.proofs.V2Sections.{end_takes, section_takes, section_again}

abbrev said : CaveatParts → Option CaveatParts
said c = Some c

-- what stands behind a list of sections, the end mark before it
abbrev pub ended : List SectionParts → List ℕ → List ℕ
ended parts rest = flat_map section parts ++ end_mark ++ rest

ended_more : (s : SectionParts) (parts : List SectionParts) (rest : List ℕ) → ended (s ∷ parts) rest ≡ section s ++ ended parts rest
ended_more s parts rest = ap (λ (t : List ℕ). t ++ rest) (append_assoc (section s) (flat_map section parts) end_mark) ∙ append_assoc (section s) (flat_map section parts ++ end_mark) rest

pub section_at-ended : (s : SectionParts) (parts : List SectionParts) (rest : List ℕ) → section_at (ended (s ∷ parts) rest) ≡ Some (s, ended parts rest)
section_at-ended s parts rest = ap section_at (ended_more s parts rest) ∙ section_again s (ended parts rest)

-- the end mark alone: no caveats
pub caveats_end : (bytes rest : List ℕ) → IsBytes bytes → end_at bytes ≡ Some rest → AreCaveats bytes [] rest
caveats_end bytes rest fits e = record { parts = []; spelled = (end_takes bytes rest fits e).parts; each = refl }

-- one more caveat in front
pub caveats_more : (bytes : List ℕ) (s : SectionParts) (c : CaveatParts) (after : List ℕ) (cs : List CaveatParts) (rest : List ℕ) → IsBytes bytes → section_at bytes ≡ Some (s, after) → caveat_said s ≡ Some c → AreCaveats after cs rest → AreCaveats bytes (c ∷ cs) rest
caveats_more bytes s c after cs rest fits read says others = record {
  parts = s ∷ others.parts;
  spelled = (section_takes bytes s after fits read).parts ∙ ap (λ (t : List ℕ). section s ++ t) others.spelled ∙ sym (ended_more s others.parts rest);
  each = ap (λ (r : Option CaveatParts). r ∷ map caveat_said others.parts) says ∙ ap (λ (r : List (Option CaveatParts)). said c ∷ r) others.each;
}

-- ---- reading them one after the other

-- a section takes at least a byte
pub section_shorter : (bytes : List ℕ) (s : SectionParts) (after : List ℕ) → IsBytes bytes → section_at bytes ≡ Some (s, after) → length after < length bytes
section_shorter bytes s after fits read =
    let t = section_takes bytes s after fits read in
    let whole = ap length t.parts ∙ length-append (section s) after in
    let ends = length-append (optional Location s.location ++ field Identifier s.identifier ++ optional Vid s.vid) end_mark in
    let one : length end_mark ≡ 1 = ap length end_is in
    omega (arith, whole, ends, one)
