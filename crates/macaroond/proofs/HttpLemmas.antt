-- Tests of the words of a list, over what they lend.
use Rattle.std.proofs.Common.{◌≡◌, ◌∙◌, ◌&&◌, ◌||◌, Bool, Bor, List, [], ◌∷◌, ℕ, map, refl, ap, sym}
use Rattle.std.specs.List.{list_all, list_any}
use Rattle.std.specs.Str.{bytes_eq}

all_of_map : {A B : Type 0} (f : A → B) (t : B → Bool) (xs : List A) → list_all t (map f xs) ≡ list_all (λ x. t (f x)) xs
all_of_map f t [] = refl
all_of_map f t (x ∷ xs) = ap (λ b. t (f x) && b) (all_of_map f t xs)

any_of_map : {A B : Type 0} (f : A → B) (t : B → Bool) (xs : List A) → list_any t (map f xs) ≡ list_any (λ x. t (f x)) xs
any_of_map f t [] = refl
any_of_map f t (x ∷ xs) = ap (λ b. t (f x) || b) (any_of_map f t xs)

-- what is asked of each word is asked of the words of the list
pub all_lent : (t : List ℕ → Bool) {words lent : List (Bor (List ℕ))} {named : List (List ℕ)}
    → map (λ (w : Bor (List ℕ)). w.now) words ≡ named → lent ≡ words
    → list_all t named ≡ list_all (λ (w : Bor (List ℕ)). t w.now) lent
all_lent t {words} {lent} {named} are is =
    ap (list_all t) (sym are)
    ∙ all_of_map (λ (w : Bor (List ℕ)). w.now) t words
    ∙ ap (λ (ws : List (Bor (List ℕ))). list_all (λ (w : Bor (List ℕ)). t w.now) ws) (sym is)

-- and a word that is sought among them is sought in the list
pub any_lent : (sought : List ℕ) {words lent : List (Bor (List ℕ))} {named : List (List ℕ)}
    → map (λ (w : Bor (List ℕ)). w.now) words ≡ named → lent ≡ words
    → list_any (λ (w : Bor (List ℕ)). bytes_eq w.now sought) lent ≡ list_any (λ w. bytes_eq w sought) named
any_lent sought {words} {lent} {named} are is =
    ap (λ (ws : List (Bor (List ℕ))). list_any (λ (w : Bor (List ℕ)). bytes_eq w.now sought) ws) is
    ∙ sym (any_of_map (λ (w : Bor (List ℕ)). w.now) (λ w. bytes_eq w sought) words)
    ∙ ap (list_any (λ w. bytes_eq w sought)) are
