-- What is told of caveats that can hardly hold.
use Rattle.std.specs.Prelude.{ℕ, zero, suc, ℤ, List, [], ◌∷◌, ◌++◌, codes, get_or, length, Option, Some, None, if◌then◌else◌}
use Rattle.mac_decide.specs.Doubt.{begins_as_bound, doubt_at, doubt_words}
use Rattle.mac_decide.specs.declared.doubts.Doubt.{Doubt}
use Rattle.mac_decide.specs.Time.{IsTimeLimit, IsLowerBound}
use Rattle.mac_words.specs.Escaped.{escaped}

-- the text is no bound of time
abbrev pub IsNoBound : List ℕ → Type 0
IsNoBound id = (v : ℤ) → ¬ (IsTimeLimit id v) × ¬ (IsLowerBound id v)

-- what is told behind a caveat that is no bound of time
unfoldable pub no_bound_words : List ℕ → List ℕ
no_bound_words id =
    if begins_as_bound id then codes " (is no bound of time, and holds only as a fact)" else []

-- the line that warns of a caveat
unfoldable pub warning_line : Doubt → List ℕ → List ℕ
warning_line doubt caveat =
    codes "warning: a caveat " ++ (doubt_words doubt ++ (codes ": " ++ (escaped caveat ++ 10 ∷ [])))

-- the same, if there is a doubt about it
abbrev pub warning_of : Option Doubt → List ℕ → List ℕ
warning_of None caveat = []
warning_of (Some doubt) caveat = warning_line doubt caveat

-- what is told of the caveat at a place, at a moment
abbrev pub warning_at : List (List ℕ) → ℕ → ℕ → List ℕ
warning_at caveats moment place =
    warning_of (doubt_at caveats moment place) (get_or caveats place [])

-- what is told of the first n caveats
abbrev pub warnings_to : ℕ → List (List ℕ) → ℕ → List ℕ
warnings_to zero caveats moment = []
warnings_to (suc n) caveats moment = warnings_to n caveats moment ++ warning_at caveats moment n

-- what is told of all
abbrev pub warnings_of : List (List ℕ) → ℕ → List ℕ
warnings_of caveats moment = warnings_to (length caveats) caveats moment
