-- Lists that are put together element by element.
use Rattle.std.proofs.Common.{◌≡◌, List, [], ◌∷◌, ◌++◌, ap, ◌∙◌, append_assoc}

-- two elements put one after the other
pub two_put : {X : Type 0} (old mid new : List X) (x y x' y' : X) → x ≡ x' → y ≡ y' → mid ≡ old ++ x ∷ [] → new ≡ mid ++ y ∷ [] → new ≡ old ++ x' ∷ y' ∷ []
two_put old mid new x y x' y' is is_too first second =
    second ∙ ap (λ l. l ++ y ∷ []) first ∙ append_assoc old (x ∷ []) (y ∷ [])
    ∙ ap (λ a. old ++ a ∷ y ∷ []) is ∙ ap (λ b. old ++ x' ∷ b ∷ []) is_too

-- two lists put one after the other
pub two_lists : {X : Type 0} (old mid new a b : List X) → mid ≡ old ++ a → new ≡ mid ++ b → new ≡ old ++ (a ++ b)
two_lists old mid new a b first second = second ∙ ap (λ l. l ++ b) first ∙ append_assoc old a b

-- five lists put one after the other
pub five_lists : {X : Type 0} (o0 o1 o2 o3 o4 o5 a b c d e : List X) → o1 ≡ o0 ++ a → o2 ≡ o1 ++ b → o3 ≡ o2 ++ c → o4 ≡ o3 ++ d → o5 ≡ o4 ++ e
    → o5 ≡ o0 ++ (a ++ (b ++ (c ++ (d ++ e))))
five_lists o0 o1 o2 o3 o4 o5 a b c d e e1 e2 e3 e4 e5 =
    two_lists o0 o1 o5 a (b ++ (c ++ (d ++ e))) e1
    (two_lists o1 o2 o5 b (c ++ (d ++ e)) e2 (two_lists o2 o3 o5 c (d ++ e) e3 (two_lists o3 o4 o5 d e e4 e5)))

-- three lists put one after the other into nothing
pub three_lists : {X : Type 0} (o0 o1 o2 o3 a b c : List X) → o0 ≡ [] → o1 ≡ o0 ++ a → o2 ≡ o1 ++ b → o3 ≡ o2 ++ c → o3 ≡ a ++ (b ++ c)
three_lists o0 o1 o2 o3 a b c e0 e1 e2 e3 =
    two_lists o0 o1 o3 a (b ++ c) e1 (two_lists o1 o2 o3 b c e2 e3) ∙ ap (λ l. l ++ (a ++ (b ++ c))) e0
