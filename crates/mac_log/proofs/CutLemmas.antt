-- Fields of which one was cut.
use Rattle.std.proofs.Common.{◌≡◌, ◌∙◌, ℕ, true, false, cond, ◌||◌, List, [], ◌∷◌, ◌++◌, length, take, refl, sym, ap, append_assoc}
use Rattle.std.specs.Prelude.{nat_le}
use Rattle.std.proofs.lemmas.List.{append-nil}
use Rattle.mac_log.specs.declared.key.Key.{Key}
use Rattle.mac_log.specs.Key.{key_word}
use Rattle.mac_log.specs.Value.{escaped}
use Rattle.mac_log.specs.Fields.{Field, FieldsText, cut_text, field_text, fitting, is_fitting, no_fields, told_fields, value_room, whole_text, with_field, with_fields, with_front}

-- the fields with one more that is told as it is, and with one that is cut
abbrev pub added : FieldsText → Key → List ℕ → FieldsText
added fields k value = record { text = fields.text ++ field_text k value; is_cut = false }

abbrev pub cut : FieldsText → Key → List ℕ → FieldsText
cut fields k value = record { text = fields.text ++ cut_text (value_room fields.text k) k value; is_cut = true }

pub stays-cut : (fields : FieldsText) (k : Key) (value : List ℕ) → fields.is_cut ≡ true → with_field fields k value ≡ fields
stays-cut fields k value is = ap (λ t. cond t fields (cond (is_fitting (value_room fields.text k) value) (added fields k value) (cut fields k value))) is

pub adds-one : (fields : FieldsText) (k : Key) (value : List ℕ) → fields.is_cut ≡ false → is_fitting (value_room fields.text k) value ≡ true → with_field fields k value ≡ added fields k value
adds-one fields k value is fits =
    ap (λ t. cond t fields (cond (is_fitting (value_room fields.text k) value) (added fields k value) (cut fields k value))) is
    ∙ ap (λ t. cond t (added fields k value) (cut fields k value)) fits

pub cuts-one : (fields : FieldsText) (k : Key) (value : List ℕ) → fields.is_cut ≡ false → is_fitting (value_room fields.text k) value ≡ false → with_field fields k value ≡ cut fields k value
cuts-one fields k value is fits =
    ap (λ t. cond t fields (cond (is_fitting (value_room fields.text k) value) (added fields k value) (cut fields k value))) is
    ∙ ap (λ t. cond t (added fields k value) (cut fields k value)) fits

-- what holds of fields before and of each that is added or cut, holds of all
pub each : (P : FieldsText → Type 0) (fields : FieldsText) (k : Key) (value : List ℕ) → P fields → (fields.is_cut ≡ false → P (added fields k value)) → (fields.is_cut ≡ false → P (cut fields k value)) → P (with_field fields k value)
each P fields k value same whole part =
    elim fields.is_cut as (λ t. fields.is_cut ≡ t → P (with_field fields k value)) [
      | true ↦ λ is. rw (stays-cut fields k value is) same
      | false ↦ λ is.
          elim (is_fitting (value_room fields.text k) value) as (λ t. is_fitting (value_room fields.text k) value ≡ t → P (with_field fields k value)) [
            | true ↦ λ fits. rw (adds-one fields k value is fits) (whole is)
            | false ↦ λ fits. rw (cuts-one fields k value is fits) (part is)
          ] refl
    ] refl

-- the same of one of which a front is told
pub each-front : (P : FieldsText → Type 0) (fields : FieldsText) (k : Key) (most : ℕ) (value : List ℕ) → P (with_field fields k value) → P (cut fields k (take most value)) → P (with_front fields k most value)
each-front P fields k most value whole part =
    elim (nat_le (length value) most || fields.is_cut) as (λ t. P (cond t (with_field fields k value) (cut fields k (take most value)))) [ true ↦ whole | false ↦ part ]

abbrev IsMarked : FieldsText → Type 0
IsMarked fields = fields.is_cut ≡ true → (front : List ℕ) × (fields.text ≡ front ++ 32 ∷ 46 ∷ 46 ∷ 46 ∷ [])

not-both : {P : Type 0} → false ≡ true → P
not-both bad = cc

marked-cut : (fields : FieldsText) (k : Key) (value : List ℕ) → IsMarked (cut fields k value)
marked-cut fields k value is =
    let front = take (fitting (value_room fields.text k) value) value in
    let mark = 32 ∷ 46 ∷ 46 ∷ 46 ∷ [] in
    let word = key_word k in
    let inner : escaped front ++ 34 ∷ mark ≡ (escaped front ++ 34 ∷ []) ++ mark = sym (append_assoc (escaped front) (34 ∷ []) mark) in
    let keyed : word ++ (61 ∷ 34 ∷ ((escaped front ++ 34 ∷ []) ++ mark)) ≡ (word ++ 61 ∷ 34 ∷ (escaped front ++ 34 ∷ [])) ++ mark = sym (append_assoc word (61 ∷ 34 ∷ (escaped front ++ 34 ∷ [])) mark) in
    let whole : fields.text ++ ((32 ∷ (word ++ 61 ∷ 34 ∷ (escaped front ++ 34 ∷ []))) ++ mark) ≡ (fields.text ++ (32 ∷ (word ++ 61 ∷ 34 ∷ (escaped front ++ 34 ∷ [])))) ++ mark = sym (append_assoc fields.text (32 ∷ (word ++ 61 ∷ 34 ∷ (escaped front ++ 34 ∷ []))) mark) in (
      fields.text ++ (32 ∷ (word ++ 61 ∷ 34 ∷ (escaped front ++ 34 ∷ []))),
      ap (λ (t : List ℕ). fields.text ++ (32 ∷ (word ++ 61 ∷ 34 ∷ t))) inner ∙ ap (λ (t : List ℕ). fields.text ++ (32 ∷ t)) keyed ∙ whole,
    )

marked : (before : FieldsText) (fields : List Field) → IsMarked before → IsMarked (with_fields before fields)
marked before [] is = is
marked before (f ∷ fields) is =
    marked (with_field before f.0 f.1) fields
    (each IsMarked before f.0 f.1 is (λ uncut. λ bad. not-both bad) (λ uncut. marked-cut before f.0 f.1))

pub told-marked : (fields : List Field) → (told_fields fields).is_cut ≡ true → (front : List ℕ) × ((told_fields fields).text ≡ front ++ 32 ∷ 46 ∷ 46 ∷ 46 ∷ [])
told-marked fields = marked no_fields fields (λ bad. not-both bad)

pub front-marked : (fields : List Field) (k : Key) (most : ℕ) (value : List ℕ) → (with_front (told_fields fields) k most value).is_cut ≡ true
    → (front : List ℕ) × ((with_front (told_fields fields) k most value).text ≡ front ++ 32 ∷ 46 ∷ 46 ∷ 46 ∷ [])
front-marked fields k most value =
    let before = told_fields fields in
    each-front IsMarked before k most value
    (each IsMarked before k value (told-marked fields) (λ uncut. λ bad. not-both bad) (λ uncut. marked-cut before k value))
    (marked-cut before k (take most value))

-- fields that were cut stay so
kept-cut : (before : FieldsText) (fields : List Field) → before.is_cut ≡ true → (with_fields before fields).is_cut ≡ true
kept-cut before [] is = is
kept-cut before (f ∷ fields) is = kept-cut (with_field before f.0 f.1) fields (rw (stays-cut before f.0 f.1 is) is)

whole : (before : FieldsText) (fields : List Field) → (with_fields before fields).is_cut ≡ false → (with_fields before fields).text ≡ before.text ++ whole_text fields
whole before [] is = sym (append-nil before.text)
whole before (f ∷ fields) is =
    let ih = whole (with_field before f.0 f.1) fields is in
    elim before.is_cut as (λ t. before.is_cut ≡ t → (with_fields before (f ∷ fields)).text ≡ before.text ++ whole_text (f ∷ fields)) [
      | true ↦ λ cutted.
          let bad = kept-cut (with_field before f.0 f.1) fields (rw (stays-cut before f.0 f.1 cutted) cutted) in
          not-both (sym is ∙ bad)
      | false ↦ λ uncut.
          elim (is_fitting (value_room before.text f.0) f.1) as (λ t. is_fitting (value_room before.text f.0) f.1 ≡ t → (with_fields before (f ∷ fields)).text ≡ before.text ++ whole_text (f ∷ fields)) [
            | true ↦ λ fits.
                let step = ap (λ (t : FieldsText). t.text ++ whole_text fields) (adds-one before f.0 f.1 uncut fits) in
                ih ∙ step ∙ append_assoc before.text (field_text f.0 f.1) (whole_text fields)
            | false ↦ λ fits.
                let bad = kept-cut (with_field before f.0 f.1) fields (rw (cuts-one before f.0 f.1 uncut fits) refl) in
                not-both (sym is ∙ bad)
          ] refl
    ] refl

pub told-whole : (fields : List Field) → (told_fields fields).is_cut ≡ false → (told_fields fields).text ≡ whole_text fields
told-whole fields is = whole no_fields fields is
