-- What is told of caveats that can hardly hold, as JSON (this project's own).
use Rattle.std.specs.Prelude.{ℕ, zero, suc, List, [], ◌∷◌, ◌++◌, codes, length, Option, Some, None}
use Rattle.std.specs.Fmt.{decimal}
use Rattle.mac_decide.specs.Doubt.{doubt_at, doubt_words}
use Rattle.mac_decide.specs.declared.doubts.Doubt.{Doubt}

-- a doubt about the caveat at a place, counted from 0, behind a comma; its words need no escape
abbrev pub warning_json : Doubt → ℕ → List ℕ
warning_json doubt place =
    codes ",{\"caveat\":" ++ (decimal place ++ (codes ",\"reason\":\"a caveat "
    ++ (doubt_words doubt ++ codes "\"}")))

-- the same, if there is one
abbrev pub warning_of : Option Doubt → ℕ → List ℕ
warning_of None place = []
warning_of (Some doubt) place = warning_json doubt place

-- what is told of the caveat at a place, at a moment
abbrev pub warning_at : List (List ℕ) → ℕ → ℕ → List ℕ
warning_at caveats moment place = warning_of (doubt_at caveats moment place) place

-- what is told of the first n caveats
abbrev pub warnings_to : ℕ → List (List ℕ) → ℕ → List ℕ
warnings_to zero caveats moment = []
warnings_to (suc n) caveats moment = warnings_to n caveats moment ++ warning_at caveats moment n

-- what is told of all
abbrev pub all_warnings : List (List ℕ) → ℕ → List ℕ
all_warnings caveats moment = warnings_to (length caveats) caveats moment

-- the member that has these, without the first comma, if there are any
abbrev pub warnings_member : List ℕ → List ℕ
warnings_member [] = []
warnings_member (comma ∷ items) = codes ",\"warnings\":[" ++ (items ++ codes "]")
