-- Texts that are appended one after the other.
use Rattle.std.proofs.Common.{◌≡◌, ◌∙◌, ℕ, List, ◌++◌, append_assoc, ap}

pub two : (o0 o1 o2 a b : List ℕ) → o1 ≡ o0 ++ a → o2 ≡ o1 ++ b → o2 ≡ o0 ++ (a ++ b)
two o0 o1 o2 a b e1 e2 = e2 ∙ ap (λ o. o ++ b) e1 ∙ append_assoc o0 a b

pub three : (o0 o1 o2 o3 a b d : List ℕ) → o1 ≡ o0 ++ a → o2 ≡ o1 ++ b → o3 ≡ o2 ++ d → o3 ≡ o0 ++ (a ++ (b ++ d))
three o0 o1 o2 o3 a b d e1 e2 e3 = two o0 o1 o3 a (b ++ d) e1 (two o1 o2 o3 b d e2 e3)

pub four : (o0 o1 o2 o3 o4 a b d e : List ℕ) → o1 ≡ o0 ++ a → o2 ≡ o1 ++ b → o3 ≡ o2 ++ d → o4 ≡ o3 ++ e → o4 ≡ o0 ++ (a ++ (b ++ (d ++ e)))
four o0 o1 o2 o3 o4 a b d e e1 e2 e3 e4 = two o0 o1 o4 a (b ++ (d ++ e)) e1 (three o1 o2 o3 o4 b d e e2 e3 e4)

pub five : (o0 o1 o2 o3 o4 o5 a b d e f : List ℕ) → o1 ≡ o0 ++ a → o2 ≡ o1 ++ b → o3 ≡ o2 ++ d → o4 ≡ o3 ++ e → o5 ≡ o4 ++ f → o5 ≡ o0 ++ (a ++ (b ++ (d ++ (e ++ f))))
five o0 o1 o2 o3 o4 o5 a b d e f e1 e2 e3 e4 e5 = two o0 o1 o5 a (b ++ (d ++ (e ++ f))) e1 (four o1 o2 o3 o4 o5 b d e f e2 e3 e4 e5)
