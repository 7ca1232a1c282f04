-- The lines of a list that stay, one after the other.
use Rattle.std.proofs.Common.{◌≡◌, ℕ, List, [], ◌∷◌, ◌++◌, Bool, true, false, cond, refl, sym, ap, ◌∙◌, append_assoc}
use Rattle.std.proofs.Common.{Bor}
use Rattle.std.specs.Prelude.{filter, map}
use Rattle.std.proofs.lemmas.List.{map-append}
use Rattle.std.proofs.lemmas.List.Elements.{filter-append}
use Rattle.mac_words.specs.Revoked.{joined}

-- whether there is none
abbrev pub is_none : List (List ℕ) → Bool
is_none [] = true
is_none (line ∷ lines) = false

joined-more : (first : List ℕ) (lines : List (List ℕ)) (line : List ℕ) → joined ((first ∷ lines) ++ line ∷ []) ≡ joined (first ∷ lines) ++ 10 ∷ line
joined-more first [] line = refl
joined-more first (next ∷ lines) line =
    ap (λ l. first ++ 10 ∷ l) (joined-more next lines line) ∙ sym (append_assoc first (10 ∷ joined (next ∷ lines)) (10 ∷ line))

-- these lines, with a line feed between each two, are kept, and whether there is none yet
abbrev pub Keeps : List (List ℕ) → List ℕ → Bool → Type 0
Keeps lines kept is_first = (kept ≡ joined lines) × (is_first ≡ is_none lines)

-- the first line is kept as it is
pub keeps-first : (lines : List (List ℕ)) (kept line : List ℕ) → Keeps lines kept true → Keeps (lines ++ line ∷ []) (kept ++ line) false
keeps-first [] kept line (are, none) = (ap (λ l. l ++ line) are, refl)
keeps-first (l ∷ lines) kept line (are, none) = cc

-- each other behind a line feed
pub keeps-more : (lines : List (List ℕ)) (kept line : List ℕ) → Keeps lines kept false → Keeps (lines ++ line ∷ []) ((kept ++ 10 ∷ []) ++ line) false
keeps-more [] kept line (are, none) = cc
keeps-more (l ∷ lines) kept line (are, none) =
    (append_assoc kept (10 ∷ []) line ∙ ap (λ k. k ++ 10 ∷ line) are ∙ sym (joined-more l lines line), refl)

one-kept : (p : List ℕ → Bool) (line : List ℕ) → p line ≡ true → filter p (line ∷ []) ≡ line ∷ []
one-kept p line stays = ap (λ b. cond b (line ∷ []) []) stays

-- a line that stays is behind those that do
pub kept-line : (p : List ℕ → Bool) (lines : List (Bor (List ℕ))) (line : Bor (List ℕ)) → p line.now ≡ true
    → filter p (map (λ (s : Bor (List ℕ)). s.now) (lines ++ line ∷ [])) ≡ filter p (map (λ (s : Bor (List ℕ)). s.now) lines) ++ line.now ∷ []
kept-line p lines line stays =
    ap (filter p) (map-append (λ (s : Bor (List ℕ)). s.now) lines (line ∷ []))
    ∙ filter-append p (map (λ (s : Bor (List ℕ)). s.now) lines) (line.now ∷ [])
    ∙ ap (λ l. filter p (map (λ (s : Bor (List ℕ)). s.now) lines) ++ l) (one-kept p line.now stays)
