-- The text of a token that is looked at, as it is put together.
use Rattle.std.proofs.Common.{◌≡◌, ◌∙◌, ℕ, ℤ, suc, ◌+◌, ◌<◌, ◌↔◌, inl, inr, List, [], ◌∷◌, ◌++◌, length, get_or, Option, Some, None, refl, sym, ap, subst, add-one}
use Rattle.std.specs.List.{slice_get}
use Rattle.std.proofs.lemmas.Option.{slice_get_read}
use Rattle.mac_decide.specs.Time.{IsTimeLimit, IsLowerBound}
use Rattle.mac_token.specs.RawToken.{CaveatParts, RawParts}
use Rattle.mac_words.specs.Escaped.{escaped}
use Rattle.mac_words.specs.Warned.{IsNoBound, no_bound_words}
use Rattle.mac_words.proofs.Appends.{two, three}
use Rattle.mac_words.specs.Inspected.{AreBareWords, AreBoundWords, AreLines, AreWords, IsCaveatLine, IsInspected, caveat_front, head_text, limit_words, place_words, since_words, tail_text, third_party}

-- lines behind what was there
abbrev pub Adds : (List ℕ → Type 0) → List ℕ → List ℕ → Type 0
Adds P old new = (text : List ℕ) × P text × (new ≡ old ++ text)

pub text_made : (token : List ℕ) (raw : RawParts) (o0 o1 o2 o3 : List ℕ) → o0 ≡ [] → o1 ≡ o0 ++ head_text token raw → Adds (AreLines (length raw.caveats) raw.caveats) o1 o2 → o3 ≡ o2 ++ tail_text token raw
    → IsInspected token raw o3
text_made token raw o0 o1 o2 o3 e0 e1 (lines, are, e2) e3 =
    (lines, are, three o0 o1 o2 o3 (head_text token raw) lines (tail_text token raw) e1 e2 e3 ∙ ap (λ o. o ++ (head_text token raw ++ (lines ++ tail_text token raw))) e0)

pub more_lines : (i place : ℕ) (caveats : List CaveatParts) (c : CaveatParts) (start before now : List ℕ) → place ≡ i → i < length caveats → c ≡ get_or caveats i c
    → Adds (AreLines i caveats) start before → Adds (IsCaveatLine place c) before now → Adds (AreLines (i + 1) caveats) start now
more_lines i place caveats c start before now same within is (text, lines, was) (last, here, grown) =
    let found : slice_get caveats i ≡ Some c = slice_get_read caveats (length caveats) i c refl within is in
    let at : IsCaveatLine i c last = subst (λ p. IsCaveatLine p c last) same here in
    let all : AreLines (suc i) caveats (text ++ last) = (text, last, c, lines, found, at, refl) in
    (text ++ last, subst (λ n. AreLines n caveats (text ++ last)) (sym (add-one i)) all, two start before now text last was grown)

pub all_lines : (i : ℕ) (caveats : List CaveatParts) (start now : List ℕ) → i ≡ length caveats → Adds (AreLines i caveats) start now → Adds (AreLines (length caveats) caveats) start now
all_lines i caveats start now e adds = subst (λ n. Adds (AreLines n caveats) start now) e adds

pub line_made : (place : ℕ) (c : CaveatParts) (o0 o1 o2 o3 : List ℕ) → o1 ≡ o0 ++ caveat_front place → Adds (AreWords c.vid c.location c.id) o1 o2 → o3 ≡ o2 ++ 10 ∷ []
    → Adds (IsCaveatLine place c) o0 o3
line_made place c o0 o1 o2 o3 e1 (words, are, e2) e3 =
    (caveat_front place ++ (words ++ 10 ∷ []), (words, are, refl), three o0 o1 o2 o3 (caveat_front place) words (10 ∷ []) e1 e2 e3)

-- a text that is told apart is no bound
never : (P : ℤ → Type 0) → ((v : ℤ) → (◌≡◌ {A = Option ℤ} None (Some v)) ↔ P v) → (v : ℤ) → ¬ (P v)
never P exact v at = let same : ◌≡◌ {A = Option ℤ} None (Some v) = (exact v).1 at in cc

pub limit_told : (id : List ℕ) (second : ℤ) (o0 o1 : List ℕ) → ((v : ℤ) → (◌≡◌ {A = Option ℤ} (Some second) (Some v)) ↔ IsTimeLimit id v) → o1 ≡ o0 ++ limit_words second → Adds (AreBoundWords id) o0 o1
limit_told id second o0 o1 limit e1 = (limit_words second, inl (second, (limit second).0 refl, refl), e1)

pub since_told : (id : List ℕ) (second : ℤ) (o0 o1 : List ℕ) → ((v : ℤ) → (◌≡◌ {A = Option ℤ} (Some second) (Some v)) ↔ IsLowerBound id v) → o1 ≡ o0 ++ since_words second → Adds (AreBoundWords id) o0 o1
since_told id second o0 o1 since e1 = (since_words second, inr (inl (second, (since second).0 refl, refl)), e1)

pub no_bound : (id : List ℕ) → ((v : ℤ) → (◌≡◌ {A = Option ℤ} None (Some v)) ↔ IsTimeLimit id v) → ((v : ℤ) → (◌≡◌ {A = Option ℤ} None (Some v)) ↔ IsLowerBound id v) → IsNoBound id
no_bound id limit since = λ v. (never (IsTimeLimit id) limit v, never (IsLowerBound id) since v)

pub none_told : (id o0 o1 : List ℕ) → ((v : ℤ) → (◌≡◌ {A = Option ℤ} None (Some v)) ↔ IsTimeLimit id v) → ((v : ℤ) → (◌≡◌ {A = Option ℤ} None (Some v)) ↔ IsLowerBound id v) → o1 ≡ o0 ++ no_bound_words id → Adds (AreBoundWords id) o0 o1
none_told id o0 o1 limit since e1 = (no_bound_words id, inr (inr (no_bound id limit since, refl)), e1)

pub bare_told : (id o0 o1 o2 : List ℕ) → o1 ≡ o0 ++ escaped id → Adds (AreBoundWords id) o1 o2 → Adds (AreBareWords id) o0 o2
bare_told id o0 o1 o2 e1 (bound, are, e2) = (escaped id ++ bound, (bound, are, refl), two o0 o1 o2 (escaped id) bound e1 e2)

pub third_told : (vid : List ℕ) (place : Option (List ℕ)) (id : List ℕ) (o0 o1 o2 o3 : List ℕ) → o1 ≡ o0 ++ third_party → o2 ≡ o1 ++ place_words place → o3 ≡ o2 ++ escaped id → Adds (AreWords (Some vid) place id) o0 o3
third_told vid place id o0 o1 o2 o3 e1 e2 e3 =
    (third_party ++ (place_words place ++ escaped id), refl, three o0 o1 o2 o3 third_party (place_words place) (escaped id) e1 e2 e3)

pub placed_told : (location id o0 o1 o2 : List ℕ) → o1 ≡ o0 ++ place_words (Some location) → o2 ≡ o1 ++ escaped id → Adds (AreWords None (Some location) id) o0 o2
placed_told location id o0 o1 o2 e1 e2 = (place_words (Some location) ++ escaped id, refl, two o0 o1 o2 (place_words (Some location)) (escaped id) e1 e2)
