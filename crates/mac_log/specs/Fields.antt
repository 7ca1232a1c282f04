-- Fields of a line.
use Rattle.std.specs.Prelude.{ℕ, suc, ◌-◌, ◌==◌, ◌&&◌, ◌||◌, nat_le, nat_lt, Bool, true, false, if◌then◌else◌, List, [], ◌∷◌, ◌++◌, length, take, codes}
use Rattle.std.specs.List.{flat_map}
use Rattle.mac_log.specs.declared.fields.TheConstants.{FIELDS_ROOM}
use Rattle.mac_log.specs.declared.key.Key.{Key}
use Rattle.mac_log.specs.Key.{key_word}
use Rattle.mac_log.specs.Value.{escaped, escaped_byte, value_text}

-- a space, the key, an equals sign and the value
abbrev pub field_text : Key → List ℕ → List ℕ
field_text key value = 32 ∷ (key_word key ++ 61 ∷ value_text value)

-- fields as a line has them, and whether one of them was cut
pub record FieldsText : Type 0 where
  pub text : List ℕ
  pub is_cut : Bool

-- no field
abbrev pub no_fields : FieldsText
no_fields = record { text = []; is_cut = false }

-- the room that such a text leaves to the value of one more field and the quotation mark behind it
abbrev pub value_room : List ℕ → Key → ℕ
value_room text key = FIELDS_ROOM - length text - length (key_word key) - 3

-- how many bytes of a value fit, escaped and with a quotation mark behind them: none is cut in two
abbrev pub fitting : ℕ → List ℕ → ℕ
fitting room [] = 0
fitting room (byte ∷ value) =
    if nat_lt (length (escaped_byte byte)) room then suc (fitting (room - length (escaped_byte byte)) value)
    else 0

-- all of them do
abbrev pub is_fitting : ℕ → List ℕ → Bool
is_fitting room value = nat_lt 0 room && fitting room value == length value

-- a field with the front of its value between quotation marks, and the mark that it was cut
abbrev pub cut_field : Key → List ℕ → List ℕ
cut_field key front = 32 ∷ (key_word key ++ 61 ∷ 34 ∷ (escaped front ++ 34 ∷ codes " ..."))

-- a field with as much of its value as fits
abbrev pub cut_text : ℕ → Key → List ℕ → List ℕ
cut_text room key value = cut_field key (take (fitting room value) value)

-- One field more: as it is where it fits, else cut. Behind one that was cut none is told.
abbrev pub with_field : FieldsText → Key → List ℕ → FieldsText
with_field fields key value =
    if fields.is_cut then fields
    else (if is_fitting (value_room fields.text key) value then record { text = fields.text ++ field_text key value; is_cut = false }
    else record { text = fields.text ++ cut_text (value_room fields.text key) key value; is_cut = true })

-- One field more, of whose value so many bytes are told at most: a longer one is cut. Behind one
-- that was cut none is told.
abbrev pub with_front : FieldsText → Key → ℕ → List ℕ → FieldsText
with_front fields key most value =
    if nat_le (length value) most || fields.is_cut then with_field fields key value
    else record { text = fields.text ++ cut_text (value_room fields.text key) key (take most value); is_cut = true }

-- a field: what it is about, and its value
abbrev pub Field : Type 0
Field = Key × List ℕ

-- fields one after the other, behind others
abbrev pub with_fields : FieldsText → List Field → FieldsText
with_fields before [] = before
with_fields before (field ∷ fields) = with_fields (with_field before field.0 field.1) fields

-- fields one after the other
abbrev pub told_fields : List Field → FieldsText
told_fields fields = with_fields no_fields fields

-- fields one after the other, each as it is
abbrev pub whole_text : List Field → List ℕ
whole_text fields = flat_map (λ (field : Field). field_text field.0 field.1) fields
