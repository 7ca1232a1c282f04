-- What one text spells under the four engines.
use Rattle.std.proofs.Common.{◌≡◌, ◌≢◌, ◌↔◌, ◌⊎◌, ℕ, zero, suc, ◌-◌, ◌/◌, ◌==◌, not, ap, Option, None, ◌<◌, Bool, true, false, if◌then◌else◌, List, [], ◌∷◌, ◌++◌, length, replicate, slice_get, slice_index, Some, ◌∙◌, sym, subst, refl, arith, inl, inr}
use Rattle.std.specs.Bool.{IsTrue}
use Rattle.std.proofs.lemmas.Bool.{false≢true, and_parts, eqb-true, eqb-false, eq-eqb, ne_eqb, not-true}
use Rattle.std.proofs.lemmas.List.{append-nil, length-append, take_at}
use Rattle.std.proofs.lemmas.List.Sums.{AllPass-from_list_all, list_all-from_AllPass}
use Rattle.std.proofs.lemmas.List.Elements.{All-from_recursion, recursion_from_All, All-replicate, All-take, All-nil, All-append, All-same, All-weaker}
use Rattle.std.proofs.lemmas.Option.{slice_get_within, get_or_from_slice_get}
use Rattle.std.specs.declared.result.Result.TheVariants.{Ok, Err}
use Rattle.std.specs.List.{All, AllByRecursion, list_all}
use Rattle.base64.specs.declared.decode.DecodeError.{DecodeError}
use Rattle.base64.specs.declared.engine.general_purpose.GeneralPurpose.{GeneralPurpose}
use Rattle.base64.specs.GeneralPurpose.{IsBytes, IsConsistent, decode_of, encode_of}
use Rattle.base64.specs.Rfc4648.{encode, encode_symbols, padding_len, unpadded_len}
use Rattle.base64.proofs.RoundTrip.{length-encode_symbols}
use Rattle.base64.proofs.EngineFacts.{decode_of-encode_of}
use Rattle.mac_token.specs.Base64Reading.{is_no_url_letter, is_padding, engine_for}
use Rattle.mac_token.specs.Base64Text.{IsBase64Of, base64_of}
use Rattle.mac_token.proofs.Base64Alphabets.{IsNoUrlLetter, standard_letters, url_safe_letters, standard_lacks_url_letters, standard_lacks_padding, url_safe_lacks_padding, shared_letter, encoded_letters, same_encoding}

-- the last letter is the padding
abbrev pub EndsInPadding : List ℕ → Type 0
EndsInPadding text = slice_get text (length text - 1) ≡ Some 61

-- ---- the last letter

last_replicate : (n x : ℕ) → slice_get (x ∷ replicate n x) (length (replicate n x)) ≡ Some x
last_replicate zero x = refl
last_replicate (suc n) x = last_replicate n x

last_append : (xs : List ℕ) (y : ℕ) (ys : List ℕ)
    → slice_get (xs ++ y ∷ ys) (length (xs ++ y ∷ ys) - 1) ≡ slice_get (y ∷ ys) (length ys)
last_append [] y ys =
    let e : length (y ∷ ys) - 1 ≡ length ys = omega arith in
    rw e refl
last_append (x ∷ xs) y ys =
    let more : 0 < length (xs ++ y ∷ ys) = simp length-append (omega arith) in
    let e : length (x ∷ (xs ++ y ∷ ys)) - 1 ≡ suc (length (xs ++ y ∷ ys) - 1) = omega (arith, more) in
    rw e (last_append xs y ys)

ends_in_padding : (xs : List ℕ) (n : ℕ) → EndsInPadding (xs ++ replicate (suc n) 61)
ends_in_padding xs n = last_append xs 61 (replicate n 61) ∙ last_replicate n 61

-- a text that does not end in the padding has none
no_padding : (xs : List ℕ) (n : ℕ) → (EndsInPadding (xs ++ replicate n 61) → ⊥) → xs ++ replicate n 61 ≡ xs ++ []
no_padding xs zero ends = refl
no_padding xs (suc n) ends = absurd (ends (ends_in_padding xs n))

-- letters without the padding do not end in it
ends_in_letter : (xs : List ℕ) → AllByRecursion (λ x. x ≢ 61) xs → EndsInPadding xs → ⊥
ends_in_letter xs all ends =
    let last = length xs - 1 in
    let lt = slice_get_within xs last 61 ends in
    All-from_recursion (λ x. x ≢ 61) xs all last 0 lt (get_or_from_slice_get xs last 61 0 ends)

-- ---- the choice

abbrev pub letters_for : Bool → List ℕ
letters_for true = standard_letters
letters_for false = url_safe_letters

letters_for_lack_padding : (plain : Bool) (i : ℕ) → i < 64 → slice_index (letters_for plain) i ≢ 61
letters_for_lack_padding true = standard_lacks_padding
letters_for_lack_padding false = url_safe_lacks_padding

encode_for : (plain padded : Bool) (m : List ℕ) → encode (letters_for plain) 61 padded m ≡ encode_of (engine_for plain padded) m
encode_for true true m = refl
encode_for true false m = refl
encode_for false true m = refl
encode_for false false m = refl

-- the last letter tells the padding
padding_choice : (t m text : List ℕ) (padded : Bool) → ((i : ℕ) → i < 64 → slice_index t i ≢ 61) → IsBytes m
    → (IsTrue padded ↔ EndsInPadding text) → (text ≡ encode t 61 true m) ⊎ (text ≡ encode t 61 false m)
    → text ≡ encode t 61 padded m
padding_choice t m text true lacks bytes ends (inl e) = e
padding_choice t m text true lacks bytes ends (inr e) =
    let bare : text ≡ encode_symbols t m = e ∙ append-nil (encode_symbols t m) in
    absurd (ends_in_letter (encode_symbols t m) (encoded_letters (λ x. x ≢ 61) t m lacks bytes) (subst EndsInPadding bare (ends.0 refl)))
padding_choice t m text false lacks bytes ends (inl e) =
    e ∙ no_padding (encode_symbols t m) (padding_len (length m)) (λ w. false≢true (ends.1 (subst EndsInPadding (sym e) w)))
padding_choice t m text false lacks bytes ends (inr e) = e

no_url_padding : (padded : Bool) (n : ℕ) → All IsNoUrlLetter (if padded then replicate n 61 else [])
no_url_padding true n = All-replicate IsNoUrlLetter n 61 (omega arith, omega arith)
no_url_padding false n = All-nil IsNoUrlLetter

standard_text : (m : List ℕ) (padded : Bool) → IsBytes m → All IsNoUrlLetter (encode standard_letters 61 padded m)
standard_text m padded bytes =
    All-append IsNoUrlLetter (encode_symbols standard_letters m) (if padded then replicate (padding_len (length m)) 61 else [])
    (All-from_recursion IsNoUrlLetter (encode_symbols standard_letters m) (encoded_letters IsNoUrlLetter standard_letters m standard_lacks_url_letters bytes))
    (no_url_padding padded (padding_len (length m)))

-- a text of the URL-safe alphabet without that alphabet's own letters is one of the standard alphabet
shared_text : (m : List ℕ) (padded : Bool) → IsBytes m → All IsNoUrlLetter (encode url_safe_letters 61 padded m)
    → encode url_safe_letters 61 padded m ≡ encode standard_letters 61 padded m
shared_text m padded bytes all =
    let letters = encode_symbols url_safe_letters m in
    let padding : List ℕ = if padded then replicate (padding_len (length m)) 61 else [] in
    let front = rw (take_at letters padding (length letters) refl) at (All-take IsNoUrlLetter (length letters) (letters ++ padding) all) in
    let each = recursion_from_All IsNoUrlLetter letters front in
    rw (same_encoding IsNoUrlLetter standard_letters url_safe_letters m shared_letter bytes each) refl

-- the letters tell the alphabet
alphabet_choice : (m text : List ℕ) (plain padded : Bool) → IsBytes m → (IsTrue plain ↔ All IsNoUrlLetter text)
    → (text ≡ encode standard_letters 61 padded m) ⊎ (text ≡ encode url_safe_letters 61 padded m)
    → text ≡ encode (letters_for plain) 61 padded m
alphabet_choice m text true padded bytes letters (inl e) = e
alphabet_choice m text false padded bytes letters (inl e) =
    absurd (false≢true (letters.1 (All-same IsNoUrlLetter text (encode standard_letters 61 padded m) e (standard_text m padded bytes))))
alphabet_choice m text true padded bytes letters (inr e) =
    e ∙ shared_text m padded bytes (All-same IsNoUrlLetter (encode url_safe_letters 61 padded m) text (sym e) (letters.0 refl))
alphabet_choice m text false padded bytes letters (inr e) = e

-- what a text spells, it spells under the one engine that its letters and its end name
pub encoded_by_engine_for : (text bytes : List ℕ) (plain padded : Bool) → IsBase64Of text bytes
    → (IsTrue plain ↔ All IsNoUrlLetter text) → (IsTrue padded ↔ EndsInPadding text)
    → text ≡ encode_of (engine_for plain padded) bytes
encoded_by_engine_for text m plain padded (bytes, spelled) letters ends =
    let padded_or_not : (text ≡ encode (letters_for plain) 61 true m) ⊎ (text ≡ encode (letters_for plain) 61 false m) =
    elim spelled [
      | inl a ↦ inl (alphabet_choice m text plain true bytes letters (inl a))
      | inr x ↦ elim x [
        | inl b ↦ inr (alphabet_choice m text plain false bytes letters (inl b))
        | inr y ↦ elim y [
          | inl c ↦ inl (alphabet_choice m text plain true bytes letters (inr c))
          | inr d ↦ inr (alphabet_choice m text plain false bytes letters (inr d))
        ]
      ]
    ] in
    padding_choice (letters_for plain) m text padded (letters_for_lack_padding plain) bytes ends padded_or_not
    ∙ encode_for plain padded m

-- an engine that refuses a text spells no bytes by it
pub refused_text : (e : GeneralPurpose) (text bytes : List ℕ) (error : DecodeError) → IsConsistent e → IsBytes bytes
    → decode_of e text ≡ Err error → text ≡ encode_of e bytes → ⊥
refused_text e text bytes error consistent is_bytes refused spelled =
    let accepted : decode_of e text ≡ Ok bytes = rw spelled (decode_of-encode_of e bytes consistent is_bytes) in
    let both : Ok bytes ≡ Err error = sym accepted ∙ refused in
    cc

-- ---- one text, one list of bytes

no_url_letter_iff : (letter : ℕ) → (is_no_url_letter letter ≡ true) ↔ IsNoUrlLetter letter
no_url_letter_iff letter = (
  λ e. let parts = and_parts (not (letter == 45)) (not (letter == 95)) e in
      (eqb-false letter 45 (not-true (letter == 45) parts.0), eqb-false letter 95 (not-true (letter == 95) parts.1)),
  λ h. rw (ne_eqb letter 45 h.0, ne_eqb letter 95 h.1) refl,
)

pub lacks_url_letters_iff : (text : List ℕ) → IsTrue (list_all is_no_url_letter text) ↔ All IsNoUrlLetter text
lacks_url_letters_iff text = (
  λ e. All-weaker (λ x. is_no_url_letter x ≡ true) IsNoUrlLetter (λ x h. (no_url_letter_iff x).0 h) text (AllPass-from_list_all is_no_url_letter text e),
  λ all. list_all-from_AllPass is_no_url_letter text (All-weaker IsNoUrlLetter (λ x. is_no_url_letter x ≡ true) (λ x h. (no_url_letter_iff x).1 h) text all),
)

pub padding_iff : (last : Option ℕ) → IsTrue (is_padding last) ↔ (last ≡ Some 61)
padding_iff None = (λ e. absurd (false≢true e), λ e. cc)
padding_iff (Some letter) = (λ e. ap Some (eqb-true letter 61 e), λ e. eq-eqb letter 61 cc)

pub consistent_for : (plain padded : Bool) → IsConsistent (engine_for plain padded)
consistent_for true true = refl
consistent_for true false = refl
consistent_for false true = refl
consistent_for false false = refl

-- ---- what is written

pub base64_of_is_base64 : (bytes : List ℕ) → IsBytes bytes → IsBase64Of (base64_of bytes) bytes
base64_of_is_base64 bytes is_bytes = (is_bytes, inr (inr (inr refl)))

pub length-base64_of : (bytes : List ℕ) → length (base64_of bytes) ≡ unpadded_len (length bytes)
length-base64_of bytes = ap length (append-nil (encode_symbols url_safe_letters bytes)) ∙ length-encode_symbols url_safe_letters bytes

-- the first letter stands for the first byte's upper six bits
pub base64_of-cons : (b : ℕ) (bytes : List ℕ) → slice_index (base64_of (b ∷ bytes)) 0 ≡ slice_index url_safe_letters (b / 4)
unfolding encode_symbols
base64_of-cons b [] = refl
base64_of-cons b (c ∷ []) = refl
base64_of-cons b (c ∷ d ∷ rest) = refl
