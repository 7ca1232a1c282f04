-- The moments of terms that were taken.
use Rattle.std.proofs.Common.{◌≡◌, ℕ, List, [], ◌∷◌, ◌++◌, Option, map, ap, sym, ◌∙◌, append_assoc}
use Rattle.std.specs.Prelude.{Bool}
use Rattle.std.proofs.lemmas.List.{append-nil}
use Rattle.mac_board.specs.Noticed.{Noticed}
use Rattle.mac_decide.specs.Terms.{Terms}
use Rattle.mac_decide.specs.declared.rights.Rights.{Rights}
use Rattle.mac_serve.specs.Receiving.{TakesUnder}

abbrev moments_of : List Terms → List (Option ℕ)
moments_of terms = map (λ (t : Terms). t.moment) terms

pub moments-told : (rights : Rights) (tells : Bool) (known last : Noticed) (terms : List Terms) → TakesUnder rights tells known last terms
    → last.told ≡ known.told ++ moments_of terms
moments-told rights tells known last [] taken = ap (λ (k : Noticed). k.told) taken ∙ sym (append-nil known.told)
moments-told rights tells known last (t ∷ terms) (now, looks, current, right, more) =
    moments-told rights tells now last terms more
    ∙ ap (λ (l : List (Option ℕ)). l ++ moments_of terms) looks.told
    ∙ append_assoc known.told (now.moment ∷ []) (moments_of terms)
    ∙ ap (λ (m : Option ℕ). known.told ++ m ∷ moments_of terms) (sym current.1)
