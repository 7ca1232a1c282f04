-- Writing V2 binary: parts appended one after another, and how long they are.
use Rattle.std.proofs.Common.{◌≡◌, ℕ, ◌+◌, ◌<◌, List, [], ◌∷◌, ◌++◌, length, map, take, get_or, cond, Option, None, refl, sym, ap, ◌∙◌, append_assoc, arith}
use Rattle.std.specs.Prelude.{Result, Ok, Err, is_ok, OnOk}
use Rattle.std.specs.declared.alloc.Global.{Global}
use Rattle.std.specs.declared.vec.Vec.{Vec}
use Rattle.std.specs.List.{flat_map}
use Rattle.std.proofs.lemmas.List.{append-nil, length-append, map_push, flat_map_more}
use Rattle.mac_token.specs.Draft.{v2_head, v2_end}
use Rattle.mac_token.specs.Varint.{varint}
use Rattle.mac_token.specs.RawToken.{TokenParts, byte_lists}
use Rattle.mac_token.specs.V2.{type_number, field, optional, end_mark, section, written_location, written_section, v2_bytes}
use Rattle.mac_token.specs.Section.{SectionParts}
use Rattle.mac_token.specs.declared.v2.FieldType.{FieldType}
use Rattle.mac_token.specs.declared.v2.FieldType.TheVariants.{Location, Identifier, Signature}
use Rattle.mac_token.proofs.Lists.{byte_lists_more}
use Rattle.mac_token.proofs.V2Fields.{type_byte, end_is}

-- a field, its type's byte first
pub field_pushed : (out : List ℕ) (kind : FieldType) (bytes : List ℕ) → out ++ type_number kind ∷ [] ++ varint (length bytes) ++ bytes ≡ out ++ field kind bytes
field_pushed out kind bytes =
    ap (λ (t : List ℕ). out ++ t ++ varint (length bytes) ++ bytes) (sym (type_byte kind))
    ∙ ap (λ (t : List ℕ). t ++ bytes) (append_assoc out (varint (type_number kind)) (varint (length bytes)))
    ∙ append_assoc out (varint (type_number kind) ++ varint (length bytes)) bytes

pub length-field : (kind : FieldType) (bytes : List ℕ) → length (field kind bytes) ≡ 1 + length (varint (length bytes)) + length bytes
length-field kind bytes =
    let one : length (varint (type_number kind)) ≡ 1 = ap length (type_byte kind) in
    omega (arith, length-append (varint (type_number kind) ++ varint (length bytes)) bytes, length-append (varint (type_number kind)) (varint (length bytes)), one)

-- an empty location is left out
pub left_out : (location : List ℕ) → length location ≡ 0 → optional Location (written_location location) ≡ []
left_out [] e = refl
left_out (b ∷ bytes) e = absurd (omega arith)

-- a section by its parts
section_is : (location : Option (List ℕ)) (identifier : List ℕ) → section (written_section location identifier) ≡ optional Location location ++ field Identifier identifier ++ 0 ∷ []
section_is location identifier =
    ap (λ (t : List ℕ). t ++ end_mark) (append-nil (optional Location location ++ field Identifier identifier))
    ∙ ap (λ (t : List ℕ). optional Location location ++ field Identifier identifier ++ t) end_is

pub section_pushed : (out : List ℕ) (location : Option (List ℕ)) (identifier : List ℕ) → out ++ optional Location location ++ field Identifier identifier ++ 0 ∷ [] ≡ out ++ section (written_section location identifier)
section_pushed out location identifier =
    ap (λ (t : List ℕ). t ++ 0 ∷ []) (append_assoc out (optional Location location) (field Identifier identifier))
    ∙ append_assoc out (optional Location location ++ field Identifier identifier) (0 ∷ [])
    ∙ ap (λ (t : List ℕ). out ++ t) (sym (section_is location identifier))

pub length-section : (location : Option (List ℕ)) (identifier : List ℕ) → length (section (written_section location identifier)) ≡ length (optional Location location) + length (field Identifier identifier) + 1
length-section location identifier =
    ap length (section_is location identifier)
    ∙ omega (arith, length-append (optional Location location ++ field Identifier identifier) (0 ∷ []), length-append (optional Location location) (field Identifier identifier))

-- the sections of caveats
abbrev pub caveat_sections : List (List ℕ) → List ℕ
caveat_sections caveats = flat_map section (map (written_section None) caveats)

-- one caveat more
caveat_sections_more : (buffers : List (Vec ℕ Global)) (i : ℕ) (buffer : Vec ℕ Global) → i < length buffers → buffer ≡ get_or buffers i buffer
    → caveat_sections (byte_lists (take (i + 1) buffers)) ≡ caveat_sections (byte_lists (take i buffers)) ++ section (written_section None buffer.items)
caveat_sections_more buffers i buffer below is =
    let so_far = byte_lists (take i buffers) in
    ap caveat_sections (byte_lists_more buffers i buffer below is)
    ∙ ap (λ (t : List SectionParts). flat_map section t) (map_push (written_section None) so_far buffer.items)
    ∙ sym (flat_map_more section [] (map (written_section None) so_far) (written_section None buffer.items))

pub length-v2_bytes : (t : TokenParts) → length (v2_bytes t) ≡ 1 + length (optional Location (written_location t.location)) + length (field Identifier t.identifier) + 1 + length (caveat_sections t.caveats) + 1 + length (field Signature t.sig)
length-v2_bytes t =
    let head = section (written_section (written_location t.location) t.identifier) in
    let one : length end_mark ≡ 1 = ap length end_is in
    omega (arith, length-append (2 ∷ head ++ caveat_sections t.caveats ++ end_mark) (field Signature t.sig), length-append (2 ∷ head ++ caveat_sections t.caveats) end_mark, length-append (2 ∷ head) (caveat_sections t.caveats), length-section (written_location t.location) t.identifier, one)

-- the length with one caveat more
pub length-caveat_sections_more : (buffers : List (Vec ℕ Global)) (i : ℕ) (buffer : Vec ℕ Global) → i < length buffers → buffer ≡ get_or buffers i buffer
    → length (caveat_sections (byte_lists (take (i + 1) buffers))) ≡ length (caveat_sections (byte_lists (take i buffers))) + (length (field Identifier buffer.items) + 1)
length-caveat_sections_more buffers i buffer below is =
    ap length (caveat_sections_more buffers i buffer below is)
    ∙ omega (arith, length-append (caveat_sections (byte_lists (take i buffers))) (section (written_section None buffer.items)), length-section None buffer.items)

whole : (a b c d e f g h : ℕ) → a ≡ e → b ≡ f → c ≡ g → d ≡ h → 1 + a + b + 1 + c + 1 + d ≡ 1 + e + f + 1 + g + 1 + h
whole a b c d e f g h p q r s = omega arith

-- what a buffer holds after a last call that appends
pub appended : {E : Type 0} (r : Result (Unit {0}) E) (new old bytes whole : List ℕ) → new ≡ cond (is_ok r) (old ++ bytes) old → old ++ bytes ≡ whole → OnOk r (new ≡ whole)
appended (Ok x) new old bytes whole is same = is ∙ same
appended (Err e) new old bytes whole is same = tt

-- the length, by those of the parts
pub v2_len_sum : (t : TokenParts) (location identifier caveats sig : ℕ) → location ≡ length (optional Location (written_location t.location)) → identifier ≡ length (field Identifier t.identifier) → caveats ≡ length (caveat_sections t.caveats) → sig ≡ length (field Signature t.sig)
    → 1 + location + identifier + 1 + caveats + 1 + sig ≡ length (v2_bytes t)
v2_len_sum t location identifier caveats sig a b c d = whole location identifier caveats sig _ _ _ _ a b c d ∙ sym (length-v2_bytes t)

-- the bytes, part after part
pub v2_written : (t : TokenParts) (o p q r : List ℕ) → o ≡ [] → p ≡ o ++ v2_head t.location t.identifier → q ≡ p ++ caveat_sections t.caveats → r ≡ q ++ v2_end t.sig → r ≡ v2_bytes t
v2_written t o p q r a b c d =
    d ∙ ap (λ (x : List ℕ). x ++ v2_end t.sig) (c ∙ ap (λ (x : List ℕ). x ++ caveat_sections t.caveats) (b ∙ ap (λ (x : List ℕ). x ++ v2_head t.location t.identifier) a))
    ∙ sym (append_assoc (v2_head t.location t.identifier ++ caveat_sections t.caveats) end_mark (field Signature t.sig))
