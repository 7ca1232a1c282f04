-- The verdict as a function is the verdict, and there is one.
use Rattle.std.proofs.Common.{◌≡◌, ◌↔◌, inl, inr, ℕ, suc, ◌+◌, ◌<◌, ℤ, List, [], ◌∷◌, take, length, get_or, Option, Some, None, IsSomeAnd, MatchOption, ◌⊎◌, Bool, true, false, ◌||◌, if◌then◌else◌, arith, refl, sym, ap, ◌∙◌}
use Rattle.std.specs.List.{list_any, All, slice_get}
use Rattle.std.specs.Option.{option_to_list}
use Rattle.std.specs.Str.{bytes_eq}
use Rattle.std.specs.Cmp.Lexicographic.{nat_list_eq_equiv}
use Rattle.std.proofs.lemmas.Bool.{false≢true, cases_order}
use Rattle.std.proofs.lemmas.Int.{ints}
use Rattle.std.proofs.lemmas.List.{get_or-take, length-take}
use Rattle.std.proofs.lemmas.List.Elements.{All-nil, All-cons}
use Rattle.std.proofs.lemmas.Map.Views.{list_any-from_Contains, Contains-from_any}
use Rattle.std.proofs.lemmas.Option.{slice_get_within, get_or_from_slice_get}
use Rattle.std.proofs.lemmas.Slice.Eq.{bytes_eq-Decides}
use Rattle.mac_hmac.specs.Chain.{chain}
use Rattle.mac_token.specs.RawToken.{TokenParts}
use Rattle.mac_decide.specs.declared.context.Context.{Context}
use Rattle.mac_decide.specs.declared.verdict.Verdict.{Verdict}
use Rattle.mac_decide.specs.declared.verdict.Verdict.TheVariants.{Granted, BadSignature, Unsatisfied}
use Rattle.mac_decide.specs.Reading.{limit_of, since_of, is_below, is_from, is_satisfied, caveats_verdict, is_minted, verdict_of}
use Rattle.mac_decide.specs.Minted.{Signs, Minted, minted}
use Rattle.mac_decide.specs.Prepared.{is_given, verdict_by}
use Rattle.mac_decide.specs.Verdict.{IsBefore, IsSince, Satisfied, IsFirstUnsatisfied, IsVerdict, found_verdict}
use Rattle.mac_decide.proofs.WalkLemmas.{found-verdict}
use Rattle.mac_decide.proofs.KeysLemmas.{Any-here, Any-later, Any-cases, Any-none}
use Rattle.mac_decide.proofs.ReadingLemmas.{or-cases, or-left, or-right, limit_of-exact, since_of-exact}

-- a limit that is read and that the moment is below
pub IsBefore-read : (moment : ℕ) (caveat : List ℕ) (o : Option ℤ) → limit_of caveat ≡ o → is_below moment o ≡ true → IsBefore moment caveat
IsBefore-read moment caveat None e below = absurd (false≢true below)
IsBefore-read moment caveat (Some v) e below = (v, (limit_of-exact caveat v).0 e, grind (arith, ints))

pub read-IsBefore : (moment : ℕ) (caveat : List ℕ) → IsBefore moment caveat → is_below moment (limit_of caveat) ≡ true
read-IsBefore moment caveat (v, h, below) = rw ((limit_of-exact caveat v).1 h) (grind (arith, ints))

-- a lower bound that is read and that the moment has reached
pub IsSince-read : (moment : ℕ) (caveat : List ℕ) (o : Option ℤ) → since_of caveat ≡ o → is_from moment o ≡ true → IsSince moment caveat
IsSince-read moment caveat None e reached = absurd (false≢true reached)
IsSince-read moment caveat (Some v) e reached = (v, (since_of-exact caveat v).0 e, grind (arith, ints))

pub read-IsSince : (moment : ℕ) (caveat : List ℕ) → IsSince moment caveat → is_from moment (since_of caveat) ≡ true
read-IsSince moment caveat (v, h, reached) = rw ((since_of-exact caveat v).1 h) (grind (arith, ints))

-- the test is the statement
pub is_satisfied-exact : (caveat : List ℕ) (x : Context) → (is_satisfied caveat x ≡ true) ↔ Satisfied caveat x
unfolding is_satisfied
is_satisfied-exact caveat x = (
  (λ e. elim (or-cases (list_any (bytes_eq caveat) x.facts) (is_below x.moment (limit_of caveat) || is_from x.moment (since_of caveat)) e) [
    | inl found ↦ inl (Contains-from_any (λ a b. (bytes_eq-Decides a b).0) caveat x.facts found)
    | inr bound ↦ elim (or-cases (is_below x.moment (limit_of caveat)) (is_from x.moment (since_of caveat)) bound) [
      | inl below ↦ inr (inl (IsBefore-read x.moment caveat (limit_of caveat) refl below))
      | inr reached ↦ inr (inr (IsSince-read x.moment caveat (since_of caveat) refl reached))
    ]
  ]),
  (λ h. elim h [
    | inl has ↦ or-left (list_any (bytes_eq caveat) x.facts) _ (list_any-from_Contains nat_list_eq_equiv caveat x.facts has)
    | inr bound ↦ or-right (list_any (bytes_eq caveat) x.facts) _ (elim bound [
      | inl before ↦ or-left (is_below x.moment (limit_of caveat)) _ (read-IsBefore x.moment caveat before)
      | inr since ↦ or-right (is_below x.moment (limit_of caveat)) _ (read-IsSince x.moment caveat since)
    ])
  ]),
)

-- what the verdict on caveats says
abbrev pub IsCaveatsVerdict : Context → ℕ → List (List ℕ) → Verdict → Type 0
IsCaveatsVerdict x index caveats Granted = All (λ c. Satisfied c x) caveats
IsCaveatsVerdict x index caveats BadSignature = ⊥
IsCaveatsVerdict x index caveats (Unsatisfied n) = (k : ℕ) × (n ≡ index + k) × IsFirstUnsatisfied caveats x k

-- a satisfied caveat before them
pub more-verdict : (x : Context) (index : ℕ) (caveat : List ℕ) (caveats : List (List ℕ)) (v : Verdict) → Satisfied caveat x → IsCaveatsVerdict x (index + 1) caveats v → IsCaveatsVerdict x index (caveat ∷ caveats) v
more-verdict x index caveat caveats Granted here more = All-cons (λ c. Satisfied c x) caveat caveats here more
more-verdict x index caveat caveats BadSignature here more = more
more-verdict x index caveat caveats (Unsatisfied n) here (k, same, first) =
    (suc k, omega arith, record { before = All-cons (λ c. Satisfied c x) caveat (take k caveats) here first.before; here = first.here })

-- a caveat, and then the verdict on the others
pub step-verdict : (x : Context) (index : ℕ) (caveat : List ℕ) (caveats : List (List ℕ)) (b : Bool) (rest : Verdict) → is_satisfied caveat x ≡ b → IsCaveatsVerdict x (index + 1) caveats rest → IsCaveatsVerdict x index (caveat ∷ caveats) (if b then rest else Unsatisfied index)
step-verdict x index caveat caveats true rest e more = more-verdict x index caveat caveats rest ((is_satisfied-exact caveat x).0 e) more
step-verdict x index caveat caveats false rest e more =
    (0, omega arith, record { before = All-nil (λ c. Satisfied c x); here = λ s. false≢true (sym e ∙ (is_satisfied-exact caveat x).1 s) })

pub caveats_verdict-is : (x : Context) (index : ℕ) (caveats : List (List ℕ)) → IsCaveatsVerdict x index caveats (caveats_verdict x index caveats)
unfolding caveats_verdict
caveats_verdict-is x index [] = All-nil (λ c. Satisfied c x)
caveats_verdict-is x index (caveat ∷ caveats) =
    step-verdict x index caveat caveats (is_satisfied caveat x) (caveats_verdict x (index + 1) caveats) refl (caveats_verdict-is x (index + 1) caveats)

-- where a key gives the signature, the verdict is that on the caveats
pub minted-verdict : (keys : List (List ℕ)) (t : TokenParts) (x : Context) (v : Verdict) → Minted keys t → IsCaveatsVerdict x 0 t.caveats v → IsVerdict keys t x v
minted-verdict keys t x Granted minted each = record { minted = minted; satisfied = each }
minted-verdict keys t x BadSignature minted none = absurd none
minted-verdict keys t x (Unsatisfied n) minted (k, same, first) =
    let index : n ≡ k = omega arith in (minted, rw index first)

-- the test of the keys is the statement
pub minted-tested : (keys : List (List ℕ)) (t : TokenParts) → is_minted keys t ≡ true → Minted keys t
minted-tested [] t e = absurd (false≢true e)
minted-tested (key ∷ keys) t e =
    elim (or-cases (bytes_eq t.sig (chain key t.identifier t.caveats)) (is_minted keys t) e) [
      | inl signs ↦ Any-here key keys ((bytes_eq-Decides _ _).0 signs)
      | inr later ↦ Any-later key keys (minted-tested keys t later)
    ]

pub tested-minted : (keys : List (List ℕ)) (t : TokenParts) → Minted keys t → is_minted keys t ≡ true
tested-minted [] t minted = absurd (Any-none minted)
tested-minted (key ∷ keys) t minted =
    elim (Any-cases key keys minted) [
      | inl signs ↦ or-left _ _ ((bytes_eq-Decides t.sig (chain key t.identifier t.caveats)).1 signs)
      | inr later ↦ or-right _ _ (tested-minted keys t later)
    ]

pub tested-verdict : (keys : List (List ℕ)) (t : TokenParts) (x : Context) (b : Bool) → is_minted keys t ≡ b → IsVerdict keys t x (if b then caveats_verdict x 0 t.caveats else BadSignature)
tested-verdict keys t x true e = minted-verdict keys t x _ (minted-tested keys t e) (caveats_verdict-is x 0 t.caveats)
tested-verdict keys t x false e = λ minted. false≢true (sym e ∙ tested-minted keys t minted)

-- the function gives the verdict
pub verdict_of-is : (keys : List (List ℕ)) (t : TokenParts) (x : Context) → IsVerdict keys t x (verdict_of keys t x)
unfolding verdict_of
verdict_of-is keys t x = tested-verdict keys t x _ refl

-- where each is satisfied, none is unsatisfied
pub none-unsatisfied : (P : List ℕ → Type 0) (caveats : List (List ℕ)) (i : ℕ) (o : Option (List ℕ)) → slice_get caveats i ≡ o → All P caveats → ¬ (IsSomeAnd o (λ c. ¬ (P c)))
none-unsatisfied P caveats i None e each none = none
none-unsatisfied P caveats i (Some c) e each none =
    let same : get_or caveats i c ≡ c = get_or_from_slice_get caveats i c c e in
    none (rw same at (each i c (slice_get_within caveats i c e)))

-- the same of those before an index
pub none-before : (P : List ℕ → Type 0) (caveats : List (List ℕ)) (i j : ℕ) (o : Option (List ℕ)) → i < j → slice_get caveats i ≡ o → All P (take j caveats) → ¬ (IsSomeAnd o (λ c. ¬ (P c)))
none-before P caveats i j None below e each none = none
none-before P caveats i j (Some c) below e each none =
    let within : i < length caveats = slice_get_within caveats i c e in
    let reach : i < length (take j caveats) = omega (arith, length-take j caveats) in
    let same : get_or (take j caveats) i c ≡ c = get_or-take j caveats i c below ∙ get_or_from_slice_get caveats i c c e in
    none (rw same at (each i c reach))

-- there is one first
pub one_first : (x : Context) (caveats : List (List ℕ)) (i j : ℕ) → IsFirstUnsatisfied caveats x i → IsFirstUnsatisfied caveats x j → i ≡ j
one_first x caveats i j p q = elim (cases_order i j) [
  | inl same ↦ same
  | inr apart ↦ elim apart [
    | inl less ↦ absurd (none-before (λ c. Satisfied c x) caveats i j _ less refl q.before p.here)
    | inr more ↦ absurd (none-before (λ c. Satisfied c x) caveats j i _ more refl p.before q.here)
  ]
]

-- there is one verdict
pub one_verdict : (keys : List (List ℕ)) (t : TokenParts) (x : Context) (v w : Verdict) → IsVerdict keys t x v → IsVerdict keys t x w → v ≡ w
one_verdict keys t x Granted Granted p q = refl
one_verdict keys t x Granted BadSignature p q = absurd (q p.minted)
one_verdict keys t x Granted (Unsatisfied j) p q = absurd (none-unsatisfied (λ c. Satisfied c x) t.caveats j _ refl p.satisfied q.1.here)
one_verdict keys t x BadSignature Granted p q = absurd (p q.minted)
one_verdict keys t x BadSignature BadSignature p q = refl
one_verdict keys t x BadSignature (Unsatisfied j) p q = absurd (p q.0)
one_verdict keys t x (Unsatisfied i) Granted p q = absurd (none-unsatisfied (λ c. Satisfied c x) t.caveats i _ refl q.satisfied p.1.here)
one_verdict keys t x (Unsatisfied i) BadSignature p q = absurd (q p.0)
one_verdict keys t x (Unsatisfied i) (Unsatisfied j) p q = ap Unsatisfied (one_first x t.caveats i j p.1 q.1)

-- what a walk over all caveats finds is the verdict on them
pub found-caveats : (t : TokenParts) (x : Context) (found : Option ℕ) → MatchOption found (All (λ c. Satisfied c x) t.caveats) (IsFirstUnsatisfied t.caveats x) → found_verdict found ≡ caveats_verdict x 0 t.caveats
found-caveats t x found each =
    let u = minted [] t.location t.identifier t.caveats in
    let signed : Minted ([] ∷ []) u = Any-here [] [] refl in
    one_verdict ([] ∷ []) u x (found_verdict found) (caveats_verdict x 0 t.caveats)
    (found-verdict ([] ∷ []) u x found signed each) (minted-verdict ([] ∷ []) u x _ signed (caveats_verdict-is x 0 t.caveats))

-- the test of a signature and a second key is the statement
given-test : (signature : List ℕ) (second : Option (List ℕ)) (t : TokenParts) → (is_given signature second t ≡ true) ↔ ((t.sig ≡ signature) ⊎ IsSomeAnd second (λ key. Signs key t))
given-test signature None t = (
  (λ e. elim (or-cases (bytes_eq t.sig signature) false e) [
    | inl same ↦ inl ((bytes_eq-Decides t.sig signature).0 same)
    | inr wrong ↦ absurd (false≢true wrong)
  ]),
  (λ h. elim h [
    | inl same ↦ or-left _ _ ((bytes_eq-Decides t.sig signature).1 same)
    | inr none ↦ absurd none
  ]),
)
given-test signature (Some key) t = (
  (λ e. elim (or-cases (bytes_eq t.sig signature) (is_minted (key ∷ []) t) e) [
    | inl same ↦ inl ((bytes_eq-Decides t.sig signature).0 same)
    | inr later ↦ elim (Any-cases key [] (minted-tested (key ∷ []) t later)) [
      | inl signs ↦ inr signs
      | inr none ↦ absurd (Any-none none)
    ]
  ]),
  (λ h. elim h [
    | inl same ↦ or-left _ _ ((bytes_eq-Decides t.sig signature).1 same)
    | inr signs ↦ or-right _ _ (tested-minted (key ∷ []) t (Any-here key [] signs))
  ]),
)

-- the verdict where the signature is given, and where it isn't
pub given-verdict : (signature : List ℕ) (second : Option (List ℕ)) (t : TokenParts) (x : Context) (found : Option ℕ) → (t.sig ≡ signature) ⊎ IsSomeAnd second (λ key. Signs key t)
    → MatchOption found (All (λ c. Satisfied c x) t.caveats) (IsFirstUnsatisfied t.caveats x) → found_verdict found ≡ verdict_by signature second t x
given-verdict signature second t x found given each =
    rw ((given-test signature second t).1 given) (found-caveats t x found each)

pub other-verdict : (signature : List ℕ) (second : Option (List ℕ)) (t : TokenParts) (x : Context) → ¬ ((t.sig ≡ signature) ⊎ IsSomeAnd second (λ key. Signs key t)) → BadSignature ≡ verdict_by signature second t x
other-verdict signature second t x other =
    by_test (is_given signature second t) refl
  where
    by_test : (b : Bool) → is_given signature second t ≡ b → BadSignature ≡ (if b then caveats_verdict x 0 t.caveats else BadSignature)
    by_test true test = absurd (other ((given-test signature second t).0 test))
    by_test false test = refl

-- the verdict under keys is that by the signature which the first gives
pub verdict_of-by : (first : List ℕ) (second : Option (List ℕ)) (t : TokenParts) (x : Context) → verdict_by (chain first t.identifier t.caveats) second t x ≡ verdict_of (first ∷ option_to_list second) t x
unfolding verdict_of
verdict_of-by first second t x = refl

minted_alike : (keys others : List (List ℕ)) (t : TokenParts) (x : Context) (v : Verdict) → (Minted others t ↔ Minted keys t) → IsVerdict others t x v → IsVerdict keys t x v
minted_alike keys others t x Granted alike p = record { minted = alike.0 p.minted; satisfied = p.satisfied }
minted_alike keys others t x BadSignature alike p = λ minted. p (alike.1 minted)
minted_alike keys others t x (Unsatisfied i) alike p = (alike.0 p.0, p.1)

-- keys that sign a token alike give it one verdict
pub verdict_of-alike : (keys others : List (List ℕ)) (t : TokenParts) (x : Context) → (Minted others t ↔ Minted keys t) → verdict_of others t x ≡ verdict_of keys t x
verdict_of-alike keys others t x alike =
    one_verdict keys t x (verdict_of others t x) (verdict_of keys t x) (minted_alike keys others t x (verdict_of others t x) alike (verdict_of-is others t x)) (verdict_of-is keys t x)
