-- Fields and sections of V2 binary: what is read is spelled so, and what is spelled so is read.
use Rattle.std.proofs.Common.{◌≡◌, ℕ, suc, ◌+◌, ◌^◌, ◌<◌, ◌≤◌, Bool, true, false, cond, eqb, ltb, List, [], ◌∷◌, ◌++◌, length, take, drop, Option, Some, None, refl, sym, ap, subst, ◌∙◌, append_assoc, arith, inl, inr}
use Rattle.std.proofs.lemmas.Bool.{cases_lt, cases_eq, lt-ltb, le-ltb, ltb-false, eqb-true, eq-eqb, ne_eqb, cond-true, cond-false}
use Rattle.std.proofs.lemmas.List.{take_at, drop_at, take-append-drop, length-append, length-take, get_or-drop}
use Rattle.base64.specs.GeneralPurpose.{IsBytes}
use Rattle.mac_token.specs.Steps.{◌>>=◌}
use Rattle.mac_token.specs.Varint.{varint}
use Rattle.mac_token.specs.V2.{type_number, field, optional, end_mark}
use Rattle.mac_token.specs.V2Reading.{varint_at, counted_at, field_at, optional_at}
use Rattle.mac_token.specs.declared.v2.FieldType.{FieldType}
use Rattle.mac_token.specs.declared.v2.FieldType.TheVariants.{Location, Identifier, Vid, Signature}
use Rattle.mac_token.proofs.Steps.{bind_some, passed}
use Rattle.mac_token.proofs.VarintLemmas.{varint_low, varint_again, varint_takes}

-- ---- a length, and that many bytes

pub counted_large : (bytes rest : List ℕ) (n : ℕ) → varint_at bytes ≡ Some (n, rest) → length rest < n → counted_at bytes ≡ None
unfolding counted_at
counted_large bytes rest n read large = rw (read, lt-ltb (length rest) n large) refl

pub counted_fits : (bytes rest : List ℕ) (n : ℕ) → varint_at bytes ≡ Some (n, rest) → n ≤ length rest → counted_at bytes ≡ Some (take n rest, drop n rest)
unfolding counted_at
counted_fits bytes rest n read fits = rw (read, le-ltb (length rest) n fits) refl

counted_unread : (bytes : List ℕ) → varint_at bytes ≡ None → counted_at bytes ≡ None
unfolding counted_at
counted_unread bytes read = rw read refl

-- where no number below 2^64 stands, no bytes of that length follow
pub counted_none : (bytes : List ℕ) → IsBytes bytes → length bytes < 2 ^ 64 → ((n : ℕ) (rest : List ℕ) → n < 2 ^ 64 → bytes ≡ varint n ++ rest → ⊥) → counted_at bytes ≡ None
counted_none bytes fits short none = from (varint_at bytes) refl where
  from : (r : Option (ℕ × List ℕ)) → varint_at bytes ≡ r → counted_at bytes ≡ None
  from None read = counted_unread bytes read
  from (Some (n, rest)) read =
      let is = varint_takes bytes n rest fits read in
      let count : length bytes ≡ length (varint n) + length rest = ap length is ∙ length-append (varint n) rest in
      elim (cases_lt (length rest) n) [
        | inl large ↦ counted_large bytes rest n read large
        | inr le ↦ absurd (none n rest (omega arith) is)
      ]

-- what a number is that stands at the front
pub read_front : (bytes rest : List ℕ) (n : ℕ) → bytes ≡ varint n ++ rest → varint_at bytes ≡ Some (n, rest)
read_front bytes rest n is = ap varint_at is ∙ varint_again n rest

-- ---- what a reader takes

-- a test that let the rest go on
pub pass_some : {A : Type 0} (b : Bool) (r : Option A) (y : A) → cond b r None ≡ Some y → (b ≡ true) × (r ≡ Some y)
pass_some true r y e = (refl, e)
pass_some false r y e = absurd cc

IsBytes-drop : (n : ℕ) (bytes : List ℕ) → IsBytes bytes → IsBytes (drop n bytes)
IsBytes-drop n bytes fits i = rw get_or-drop (fits (n + i))

IsBytes-cons : (b : ℕ) (bytes : List ℕ) → IsBytes (b ∷ bytes) → IsBytes bytes
IsBytes-cons b bytes fits i = fits (suc i)

pub IsBytes-rest : (front bytes rest : List ℕ) → bytes ≡ front ++ rest → IsBytes bytes → IsBytes rest
IsBytes-rest front bytes rest e fits =
    let r : rest ≡ drop (length front) bytes = sym (ap (drop (length front)) e ∙ drop_at front rest (length front) refl) in
    let P : List ℕ → Type 0 = IsBytes in
    subst P (sym r) (IsBytes-drop (length front) bytes fits)

-- what a reader took from the front
pub record Takes (bytes text rest : List ℕ) : Type 0 where
  pub parts : bytes ≡ text ++ rest
  pub rest_fits : IsBytes rest

abbrev pub maybe_of : {A : Type 0} → A → Option A
maybe_of x = Some x

pub some_is : {A : Type 0} (x y : A) → maybe_of x ≡ maybe_of y → x ≡ y
some_is x y e = cc

-- the same with equal values
pub Takes-same : {X : Type 0} (bytes : List ℕ) (spelling : X → List ℕ) (x y : X) (a b : List ℕ) → Takes bytes (spelling x) a → maybe_of {A = X × List ℕ} (x, a) ≡ maybe_of (y, b) → Takes bytes (spelling y) b
Takes-same {X} bytes spelling x y a b t e = subst (λ (p : X × List ℕ). Takes bytes (spelling p.0) p.1) (some_is (x, a) (y, b) e) t

pub Takes-then : (a x b y c : List ℕ) → Takes a x b → Takes b y c → Takes a (x ++ y) c
Takes-then a x b y c p q = record { parts = p.parts ∙ ap (λ (t : List ℕ). x ++ t) q.parts ∙ sym (append_assoc x y c); rest_fits = q.rest_fits }

-- ---- fields

abbrev counted : List ℕ → List ℕ
counted value = varint (length value) ++ value

abbrev two : List ℕ → List ℕ → Option (List ℕ × List ℕ)
two value rest = Some (value, rest)

counted_read : (bytes value rest : List ℕ) → counted_at bytes ≡ Some (value, rest) → (n : ℕ) × (after : List ℕ) × (varint_at bytes ≡ Some (n, after)) × (take n after ≡ value) × (drop n after ≡ rest) × (n ≤ length after)
unfolding counted_at
counted_read bytes value rest e =
    let r = bind_some (varint_at bytes) (λ n. cond (ltb (length n.1) n.0) None (two (take n.0 n.1) (drop n.0 n.1))) (value, rest) e in
    let g = passed (ltb (length r.0.1) r.0.0) (two (take r.0.0 r.0.1) (drop r.0.0 r.0.1)) (value, rest) r.2 in
    let same = some_is (take r.0.0 r.0.1, drop r.0.0 r.0.1) (value, rest) g.1 in
    (r.0.0, r.0.1, r.1, ap (λ (p : List ℕ × List ℕ). p.0) same, ap (λ (p : List ℕ × List ℕ). p.1) same, ltb-false (length r.0.1) r.0.0 g.0)

counted_takes : (bytes value rest : List ℕ) → IsBytes bytes → counted_at bytes ≡ Some (value, rest) → Takes bytes (counted value) rest
counted_takes bytes value rest fits e =
    let n = counted_read bytes value rest e in
    let front : bytes ≡ varint n.0 ++ n.1 = varint_takes bytes n.0 n.1 fits n.2 in
    let whole : n.1 ≡ value ++ rest = sym (take-append-drop n.0 n.1) ∙ ap (λ (t : List ℕ). t ++ drop n.0 n.1) n.3 ∙ ap (λ (t : List ℕ). value ++ t) n.4 in
    let size : length value ≡ n.0 = sym (ap length n.3) ∙ length-take n.0 n.1 ∙ omega (arith, n.5) in
    let parts : bytes ≡ counted value ++ rest = front ∙ ap (λ (t : List ℕ). varint n.0 ++ t) whole ∙ ap (λ (k : ℕ). varint k ++ (value ++ rest)) (sym size) ∙ sym (append_assoc (varint (length value)) value rest) in
    record { parts = parts; rest_fits = IsBytes-rest (counted value) bytes rest parts fits }

counted_again : (value rest : List ℕ) → counted_at (counted value ++ rest) ≡ Some (value, rest)
counted_again value rest =
    let enough : length value ≤ length (value ++ rest) = omega (arith, length-append value rest) in
    counted_fits (counted value ++ rest) (value ++ rest) (length value) (read_front _ _ _ (append_assoc (varint (length value)) value rest)) enough
    ∙ ap (λ (t : List ℕ). two t (drop (length value) (value ++ rest))) (take_at value rest (length value) refl)
    ∙ ap (λ (t : List ℕ). two value t) (drop_at value rest (length value) refl)

-- a field's type takes one byte
pub type_byte : (kind : FieldType) → varint (type_number kind) ≡ type_number kind ∷ []
type_byte Location = varint_low 1 (omega arith)
type_byte Identifier = varint_low 2 (omega arith)
type_byte Vid = varint_low 4 (omega arith)
type_byte Signature = varint_low 6 (omega arith)

pub end_is : end_mark ≡ 0 ∷ []
end_is = varint_low 0 (omega arith)

pub field_is : (kind : FieldType) (value rest : List ℕ) → field kind value ++ rest ≡ type_number kind ∷ (counted value ++ rest)
field_is kind value rest = ap (λ (t : List ℕ). ((t ++ varint (length value)) ++ value) ++ rest) (type_byte kind)

pub field_takes : (kind : FieldType) (bytes value rest : List ℕ) → IsBytes bytes → field_at kind bytes ≡ Some (value, rest) → Takes bytes (field kind value) rest
unfolding field_at
field_takes kind [] value rest fits e = absurd cc
field_takes kind (b ∷ bytes) value rest fits e =
    let p = pass_some (eqb b (type_number kind)) (counted_at bytes) (value, rest) e in
    let t = counted_takes bytes value rest (IsBytes-cons b bytes fits) p.1 in
    record { parts = ap (λ (n : ℕ). n ∷ bytes) (eqb-true b (type_number kind) p.0) ∙ ap (λ (x : List ℕ). type_number kind ∷ x) t.parts ∙ sym (field_is kind value rest); rest_fits = t.rest_fits }

field_byte : (kind : FieldType) (bytes : List ℕ) → field_at kind (type_number kind ∷ bytes) ≡ counted_at bytes
unfolding field_at
field_byte kind bytes = rw (eq-eqb (type_number kind) (type_number kind) refl) refl

pub field_again : (kind : FieldType) (value rest : List ℕ) → field_at kind (field kind value ++ rest) ≡ Some (value, rest)
field_again kind value rest = ap (field_at kind) (field_is kind value rest) ∙ field_byte kind (counted value ++ rest) ∙ counted_again value rest

abbrev maybe : Option (List ℕ) → List ℕ → Option (Option (List ℕ) × List ℕ)
maybe value rest = Some (value, rest)

absent : (kind : FieldType) (bytes : List ℕ) (value : Option (List ℕ)) (rest : List ℕ) → IsBytes bytes → maybe None bytes ≡ maybe value rest → Takes bytes (optional kind value) rest
absent kind bytes value rest fits e = Takes-same bytes (optional kind) None value bytes rest (record { parts = refl; rest_fits = fits }) e

pub optional_takes : (kind : FieldType) (bytes : List ℕ) (value : Option (List ℕ)) (rest : List ℕ) → IsBytes bytes → optional_at kind bytes ≡ Some (value, rest) → Takes bytes (optional kind value) rest
unfolding optional_at
optional_takes kind [] value rest fits e = absent kind [] value rest fits e
optional_takes kind (b ∷ bytes) value rest fits e =
    elim (cases_eq b (type_number kind)) [
      | inl same ↦
          let there : (counted_at bytes >>= λ v. Some (Some v.0, v.1)) ≡ maybe value rest = sym (cond-true (eqb b (type_number kind)) (counted_at bytes >>= λ v. Some (Some v.0, v.1)) (maybe None (b ∷ bytes)) (eq-eqb b (type_number kind) same)) ∙ e in
          let p = bind_some (counted_at bytes) (λ v. Some (Some v.0, v.1)) (value, rest) there in
          let t = counted_takes bytes p.0.0 p.0.1 (IsBytes-cons b bytes fits) p.1 in
          let made : Takes (b ∷ bytes) (field kind p.0.0) p.0.1 = record { parts = ap (λ (n : ℕ). n ∷ bytes) same ∙ ap (λ (x : List ℕ). type_number kind ∷ x) t.parts ∙ sym (field_is kind p.0.0 p.0.1); rest_fits = t.rest_fits } in
          Takes-same (b ∷ bytes) (optional kind) (Some p.0.0) value p.0.1 rest made p.2
      | inr differs ↦ absent kind (b ∷ bytes) value rest fits (sym (cond-false (eqb b (type_number kind)) (counted_at bytes >>= λ v. Some (Some v.0, v.1)) (maybe None (b ∷ bytes)) (ne_eqb b (type_number kind) differs)) ∙ e)
    ]

optional_byte : (kind : FieldType) (bytes : List ℕ) → optional_at kind (type_number kind ∷ bytes) ≡ (counted_at bytes >>= λ v. Some (Some v.0, v.1))
unfolding optional_at
optional_byte kind bytes = rw (eq-eqb (type_number kind) (type_number kind) refl) refl

pub optional_some_again : (kind : FieldType) (value rest : List ℕ) → optional_at kind (field kind value ++ rest) ≡ Some (Some value, rest)
optional_some_again kind value rest = ap (optional_at kind) (field_is kind value rest) ∙ optional_byte kind (counted value ++ rest) ∙ ap (λ (r : Option (List ℕ × List ℕ)). r >>= λ v. Some (Some v.0, v.1)) (counted_again value rest)

pub optional_none_again : (kind : FieldType) (b : ℕ) (rest : List ℕ) → (b ≡ type_number kind → ⊥) → optional_at kind (b ∷ rest) ≡ Some (None, b ∷ rest)
unfolding optional_at
optional_none_again kind b rest differs = rw (ne_eqb b (type_number kind) differs) refl
