-- What is written is bytes.
use Rattle.std.proofs.Common.{◌≡◌, ℕ, zero, suc, ◌/◌, ◌%◌, ◌<◌, List, [], ◌∷◌, ◌++◌, map, length, subst, sym, refl, arith, All, true, None}
use Rattle.std.specs.Prelude.{codes}
use Rattle.std.specs.List.{flat_map}
use Rattle.std.proofs.lemmas.List.Concat.{flat_map-append}
use Rattle.base64.specs.GeneralPurpose.{IsBytes}
use Rattle.mac_token.specs.declared.v1.key.PacketKey.{PacketKey}
use Rattle.mac_token.specs.declared.v1.key.PacketKey.TheVariants.{Location, Identifier, Cid, Vid, Cl, Signature}
use Rattle.mac_token.specs.declared.v2.FieldType.{FieldType}
use Rattle.mac_token.specs.declared.v2.FieldType.TheVariants as kinds
use Rattle.mac_token.specs.RawToken.{TokenParts, IsToken}
use Rattle.mac_token.specs.V1.{Field, key_name, hex_digit, hex_digits, packet, packet_length, caveat_field, v1_bytes}
use Rattle.mac_token.specs.Base64Reading.{are_bytes}
use Rattle.mac_token.specs.Varint.{varint, IsLeb128}
use Rattle.mac_token.specs.V2.{type_number, field, optional, end_mark, section, written_location, written_section, v2_bytes}
use Rattle.mac_token.proofs.Base64Read.{bytes_test, bytes_from_all}
use Rattle.mac_token.proofs.VarintLaws.{IsVarint-varint}

pub IsBytes-append : (a b : List ℕ) → IsBytes a → IsBytes b → IsBytes (a ++ b)
IsBytes-append [] b p q i = q i
IsBytes-append (x ∷ a) b p q zero = p 0
IsBytes-append (x ∷ a) b p q (suc i) = IsBytes-append a b (λ k. p (suc k)) q i

IsBytes-nil : IsBytes []
IsBytes-nil i = omega arith

IsBytes-cons : (x : ℕ) (a : List ℕ) → x < 256 → IsBytes a → IsBytes (x ∷ a)
IsBytes-cons x a p q zero = p
IsBytes-cons x a p q (suc i) = q i

-- ---- V1

tested : (bytes : List ℕ) → are_bytes bytes ≡ true → IsBytes bytes
tested bytes e = bytes_from_all bytes ((bytes_test bytes).0 e)

-- a digit is ASCII
hex_digit_is_byte : (n : ℕ) → hex_digit n < 256
hex_digit_is_byte n = tested (codes "0123456789abcdef") refl n

key_name_is_bytes : (key : PacketKey) → IsBytes (key_name key)
key_name_is_bytes Location = tested (codes "location") refl
key_name_is_bytes Identifier = tested (codes "identifier") refl
key_name_is_bytes Cid = tested (codes "cid") refl
key_name_is_bytes Vid = tested (codes "vid") refl
key_name_is_bytes Cl = tested (codes "cl") refl
key_name_is_bytes Signature = tested (codes "signature") refl

four_are_bytes : (a b c d : ℕ) → a < 256 → b < 256 → c < 256 → d < 256 → IsBytes (a ∷ b ∷ c ∷ d ∷ [])
four_are_bytes a b c d p q r s zero = p
four_are_bytes a b c d p q r s (suc zero) = q
four_are_bytes a b c d p q r s (suc (suc zero)) = r
four_are_bytes a b c d p q r s (suc (suc (suc zero))) = s
four_are_bytes a b c d p q r s (suc (suc (suc (suc i)))) = omega arith

packet_is_bytes : (f : Field) → IsBytes f.value → IsBytes (packet f)
unfolding packet
packet_is_bytes f value =
    let n = packet_length f in
    let digits : IsBytes (hex_digits n) = four_are_bytes (hex_digit (n / 4096 % 16)) (hex_digit (n / 256 % 16)) (hex_digit (n / 16 % 16)) (hex_digit (n % 16))
    (hex_digit_is_byte (n / 4096 % 16)) (hex_digit_is_byte (n / 256 % 16)) (hex_digit_is_byte (n / 16 % 16)) (hex_digit_is_byte (n % 16)) in
    let line = IsBytes-append (32 ∷ f.value) (10 ∷ []) (IsBytes-cons 32 f.value (omega arith) value) (IsBytes-cons 10 [] (omega arith) IsBytes-nil) in
    IsBytes-append (hex_digits n) (key_name f.key ++ (32 ∷ f.value ++ 10 ∷ [])) digits (IsBytes-append (key_name f.key) (32 ∷ f.value ++ 10 ∷ []) (key_name_is_bytes f.key) line)

caveats_are_bytes : (caveats : List (List ℕ)) → All IsBytes caveats → IsBytes (flat_map packet (map caveat_field caveats))
caveats_are_bytes [] each = IsBytes-nil
caveats_are_bytes (c ∷ cs) each =
    IsBytes-append (packet (caveat_field c)) (flat_map packet (map caveat_field cs)) (packet_is_bytes (caveat_field c) (each 0 c (omega arith)))
    (caveats_are_bytes cs (λ k d below. each (suc k) d (omega arith)))

pub v1_bytes_are_bytes : (t : TokenParts) → IsToken t → IsBytes (v1_bytes t)
v1_bytes_are_bytes t token =
    let signature : Field = record { key = Signature; value = t.sig } in
    let location : Field = record { key = Location; value = t.location } in
    let identifier : Field = record { key = Identifier; value = t.identifier } in
    let caveats = flat_map packet (map caveat_field t.caveats) in
    let last = packet signature ++ [] in
    let ends = IsBytes-append caveats last (caveats_are_bytes t.caveats token.caveats) (IsBytes-append (packet signature) [] (packet_is_bytes signature token.sig) IsBytes-nil) in
    let behind = subst IsBytes (sym (flat_map-append packet (map caveat_field t.caveats) (signature ∷ []))) ends in
    IsBytes-append (packet location) _ (packet_is_bytes location token.location_bytes) (IsBytes-append (packet identifier) _ (packet_is_bytes identifier token.identifier) behind)

-- ---- V2

leb128_is_bytes : (bytes : List ℕ) → IsLeb128 bytes → IsBytes bytes
leb128_is_bytes [] one = IsBytes-nil
leb128_is_bytes (last ∷ []) one = IsBytes-cons last [] (omega (arith, one)) IsBytes-nil
leb128_is_bytes (b ∷ c ∷ bytes) one = IsBytes-cons b (c ∷ bytes) one.1 (leb128_is_bytes (c ∷ bytes) one.2)

varint_is_bytes : (n : ℕ) → IsBytes (varint n)
varint_is_bytes n = leb128_is_bytes (varint n) (IsVarint-varint n).one

field_is_bytes : (kind : FieldType) (value : List ℕ) → IsBytes value → IsBytes (field kind value)
field_is_bytes kind value is =
    IsBytes-append (varint (type_number kind) ++ varint (length value)) value (IsBytes-append (varint (type_number kind)) (varint (length value)) (varint_is_bytes (type_number kind)) (varint_is_bytes (length value))) is

location_is_bytes : (location : List ℕ) → IsBytes location → IsBytes (optional kinds.Location (written_location location))
location_is_bytes [] is = IsBytes-nil
location_is_bytes (b ∷ bytes) is = field_is_bytes kinds.Location (b ∷ bytes) is

section_is_bytes : (location identifier : List ℕ) → IsBytes location → IsBytes identifier → IsBytes (section (written_section (written_location location) identifier))
section_is_bytes location identifier at id =
    let front = optional kinds.Location (written_location location) in
    let two = IsBytes-append front (field kinds.Identifier identifier) (location_is_bytes location at) (field_is_bytes kinds.Identifier identifier id) in
    let three = IsBytes-append (front ++ field kinds.Identifier identifier) [] two IsBytes-nil in
    IsBytes-append (front ++ field kinds.Identifier identifier ++ []) end_mark three (varint_is_bytes 0)

sections_are_bytes : (caveats : List (List ℕ)) → All IsBytes caveats → IsBytes (flat_map section (map (written_section None) caveats))
sections_are_bytes [] each = IsBytes-nil
sections_are_bytes (c ∷ cs) each =
    IsBytes-append (section (written_section None c)) (flat_map section (map (written_section None) cs)) (section_is_bytes [] c IsBytes-nil (each 0 c (omega arith)))
    (sections_are_bytes cs (λ k d below. each (suc k) d (omega arith)))

pub v2_bytes_are_bytes : (t : TokenParts) → IsToken t → IsBytes (v2_bytes t)
v2_bytes_are_bytes t token =
    let head = section (written_section (written_location t.location) t.identifier) in
    let caveats = flat_map section (map (written_section None) t.caveats) in
    let one = IsBytes-cons 2 head (omega arith) (section_is_bytes t.location t.identifier token.location_bytes token.identifier) in
    let two = IsBytes-append (2 ∷ head) caveats one (sections_are_bytes t.caveats token.caveats) in
    let three = IsBytes-append (2 ∷ head ++ caveats) end_mark two (varint_is_bytes 0) in
    IsBytes-append (2 ∷ head ++ caveats ++ end_mark) (field kinds.Signature t.sig) three (field_is_bytes kinds.Signature t.sig token.sig)
