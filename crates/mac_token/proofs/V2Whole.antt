-- What V2 binary is read as is the one raw token that it spells.
use Rattle.std.proofs.Common.{◌≡◌, ℕ, zero, suc, ◌<◌, ◌≤◌, List, [], ◌∷◌, ◌++◌, map, length, Option, Some, None, refl, ap, subst, ◌∙◌, arith, length-append}
use Rattle.std.specs.List.{flat_map}
use Rattle.std.proofs.lemmas.Option.{same_Some, some_pair_parts}
use Rattle.base64.specs.GeneralPurpose.{IsBytes}
use Rattle.mac_token.specs.RawToken.{CaveatParts, RawParts}
use Rattle.mac_token.specs.Location.{text_at}
use Rattle.mac_token.specs.Steps.{◌>>=◌}
use Rattle.mac_token.specs.V2.{V2, optional, field, section, end_mark}
use Rattle.mac_token.specs.Section.{SectionParts, location_bytes, caveat_said}
use Rattle.mac_token.specs.V2Reading.{end_at, section_at, head_at, signature_at, AreCaveats}
use Rattle.mac_token.specs.V2Whole.{from_section, caveats_at, v2_of}
use Rattle.mac_token.specs.declared.v2.FieldType.TheVariants.{Location, Identifier, Vid, Signature}
use Rattle.mac_token.proofs.Steps.{bind_some}
use Rattle.mac_token.proofs.V2Fields.{end_is}
use Rattle.mac_token.proofs.V2Sections.{end_again, section_takes, section_end, head_takes, signature_again}
use Rattle.mac_token.proofs.V2Caveats.{ended, section_at-ended, caveats_end, caveats_more}
use Rattle.mac_token.proofs.V2Laws.{V2_head, V2_from_parts}

-- ---- what is read is spelled so

abbrev one_more : CaveatParts → List CaveatParts × List ℕ → Option (List CaveatParts × List ℕ)
one_more c cs = Some (c ∷ cs.0, cs.1)

abbrev none_left : List ℕ → Option (List CaveatParts × List ℕ)
none_left rest = Some ([], rest)

abbrev Reads : ℕ → Type 0
Reads n = (bytes : List ℕ) (cs : List CaveatParts) (rest : List ℕ) → IsBytes bytes → caveats_at n bytes ≡ Some (cs, rest) → AreCaveats bytes cs rest

section_cases : (n : ℕ) → Reads n → (found : Option (SectionParts × List ℕ)) (bytes : List ℕ) (cs : List CaveatParts) (rest : List ℕ) → IsBytes bytes → section_at bytes ≡ found
    → from_section (caveats_at n) bytes found ≡ Some (cs, rest) → AreCaveats bytes cs rest
section_cases n again None bytes cs rest fits is e =
    let ends = bind_some (end_at bytes) none_left (cs, rest) e in
    let same = some_pair_parts [] cs ends.0 rest ends.2 in
    let none : AreCaveats bytes [] rest = subst (λ (r : List ℕ). AreCaveats bytes [] r) same.1 (caveats_end bytes ends.0 fits ends.1) in
    subst (λ (l : List CaveatParts). AreCaveats bytes l rest) same.0 none
section_cases n again (Some s) bytes cs rest fits is e =
    let c = bind_some (caveat_said s.0) (λ c. caveats_at n s.1 >>= one_more c) (cs, rest) e in
    let others = bind_some (caveats_at n s.1) (one_more c.0) (cs, rest) c.2 in
    let same = some_pair_parts (c.0 ∷ others.0.0) cs others.0.1 rest others.2 in
    let after = (section_takes bytes s.0 s.1 fits is).rest_fits in
    let all = caveats_more bytes s.0 c.0 s.1 others.0.0 others.0.1 fits is c.1 (again s.1 others.0.0 others.0.1 after others.1) in
    subst (λ (r : List ℕ). AreCaveats bytes cs r) same.1 (subst (λ (l : List CaveatParts). AreCaveats bytes l others.0.1) same.0 all)

caveats_at_takes : (n : ℕ) → Reads n
unfolding caveats_at
caveats_at_takes zero bytes cs rest fits e = absurd cc
caveats_at_takes (suc n) bytes cs rest fits e = section_cases n (caveats_at_takes n) (section_at bytes) bytes cs rest fits refl e

abbrev v2_signature : List ℕ → List ℕ → List CaveatParts → List ℕ → Option RawParts
v2_signature location identifier caveats sig = Some (record { location = location; identifier = identifier; caveats = caveats; sig = sig })

abbrev v2_caveats : List ℕ → List ℕ → List CaveatParts × List ℕ → Option RawParts
v2_caveats location identifier cs = signature_at cs.1 >>= v2_signature location identifier cs.0

abbrev v2_location : SectionParts × List ℕ → List ℕ → Option RawParts
v2_location head location = caveats_at (suc (length head.1)) head.1 >>= v2_caveats location head.0.identifier

abbrev v2_head : SectionParts × List ℕ → Option RawParts
v2_head head = text_at (location_bytes head.0) >>= v2_location head

pub v2_takes : (bytes : List ℕ) (r : RawParts) → IsBytes bytes → v2_of bytes ≡ Some r → V2 bytes r
unfolding v2_of
v2_takes bytes r fits e =
    let h = bind_some (head_at bytes) v2_head r e in
    let l = bind_some (text_at (location_bytes h.0.0)) (v2_location h.0) r h.2 in
    let c = bind_some (caveats_at (suc (length h.0.1)) h.0.1) (v2_caveats l.0 h.0.0.identifier) r l.2 in
    let s = bind_some (signature_at c.0.1) (v2_signature l.0 h.0.0.identifier c.0.0) r c.2 in
    let after = (head_takes bytes h.0.0 h.0.1 fits h.1).0.rest_fits in
    let are = caveats_at_takes (suc (length h.0.1)) h.0.1 c.0.0 c.0.1 after c.1 in
    subst (V2 bytes) (same_Some _ r s.2) (V2_from_parts bytes h.0.0 h.0.1 l.0 c.0.0 c.0.1 s.0 fits h.1 l.1 are s.1)

-- ---- what is spelled is read

abbrev said : CaveatParts → Option CaveatParts
said c = Some c

parts_again : (n : ℕ) (parts : List SectionParts) (cs : List CaveatParts) (rest : List ℕ) → length parts < n → map caveat_said parts ≡ map said cs → caveats_at n (ended parts rest) ≡ Some (cs, rest)
unfolding caveats_at
parts_again zero parts cs rest enough each = absurd (omega arith)
parts_again (suc n) [] [] rest enough each = rw (section_end rest, end_again rest) refl
parts_again (suc n) [] (c ∷ cs) rest enough each = absurd cc
parts_again (suc n) (p ∷ ps) [] rest enough each = absurd cc
parts_again (suc n) (p ∷ ps) (c ∷ cs) rest enough each =
    let first : caveat_said p ≡ said c = cc in
    let others : map caveat_said ps ≡ map said cs = cc in
    let read : section_at (ended (p ∷ ps) rest) ≡ Some (p, ended ps rest) = section_at-ended p ps rest in
    ap (from_section (caveats_at n) (ended (p ∷ ps) rest)) read ∙ rw (first, parts_again n ps cs rest (omega arith) others) refl

section_takes_bytes : (s : SectionParts) → 1 ≤ length (section s)
section_takes_bytes s =
    let front = optional Location s.location ++ field Identifier s.identifier ++ optional Vid s.vid in
    omega (arith, length-append front end_mark, ap length end_is)

sections_take_bytes : (parts : List SectionParts) → length parts ≤ length (flat_map section parts)
sections_take_bytes [] = omega arith
sections_take_bytes (p ∷ ps) = omega (arith, sections_take_bytes ps, section_takes_bytes p, length-append (section p) (flat_map section ps))

pub v2_again : (bytes : List ℕ) (r : RawParts) → V2 bytes r → v2_of bytes ≡ Some r
unfolding v2_of
v2_again bytes r v =
    let end = field Signature r.sig in
    let rest = ended v.caveats end in
    let read = V2_head bytes r v in
    let enough : length v.caveats < suc (length rest) = omega (arith, sections_take_bytes v.caveats, length-append (flat_map section v.caveats ++ end_mark) end, length-append (flat_map section v.caveats) end_mark) in
    let caveats = parts_again (suc (length rest)) v.caveats r.caveats end enough v.each in
    rw (read, v.location, caveats, signature_again r.sig v.sig, v.identifier) refl
