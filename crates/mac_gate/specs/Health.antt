-- How a daemon is, as it tells it (this project's own).
use Rattle.std.specs.Prelude.{ℕ, Bool, false, true, List, [], ◌∷◌, ◌++◌, codes}
use Rattle.mac_http.specs.declared.page.PageTold.{PageTold}
use Rattle.mac_http.specs.declared.page.PageTold.TheVariants.{Unwell, Well}

-- it is well where it wasn't told to end, and its last key file wasn't refused
abbrev pub health_of : (is_ending are_keys_refused : Bool) → PageTold
health_of false false = Well
health_of false true = Unwell
health_of true refused = Unwell

-- the line that says so
abbrev pub health_text : (is_ending are_keys_refused : Bool) → List ℕ
health_text false false = codes "ok" ++ 10 ∷ []
health_text false true = codes "the last key file was refused; the keys stay as they were" ++ 10 ∷ []
health_text true refused = codes "it was told to end" ++ 10 ∷ []
