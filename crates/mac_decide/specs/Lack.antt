-- Why a caveat isn't satisfied (this project's own): what is asked after a refusal.
use Rattle.std.specs.Prelude.{ℕ, ℤ, Bool, ◌&&◌, ◌==◌, not, if◌then◌else◌, nat_lt, List, [], ◌∷◌, codes, length, Option, Some, None, false}
use Rattle.std.specs.List.{list_any, take_while, zip}
use Rattle.mac_decide.specs.Doubt.{begins, doubt_of}
use Rattle.mac_decide.specs.Reading.{is_satisfied, limit_of, since_of}
use Rattle.mac_decide.specs.declared.context.Context.{Context}
use Rattle.mac_decide.specs.declared.doubts.Doubt.{Doubt}
use Rattle.mac_decide.specs.declared.lacks.Lack.{Lack}
use Rattle.mac_decide.specs.declared.lacks.Lack.TheVariants.{Ended, Ahead, Doubted, NoPath, NoFact}

-- how what the path is under is told, and asked for
abbrev pub under : List ℕ
under = codes "path under "

-- it asks what the path is under, and no fact tells that: of a path that isn't plain none does
abbrev pub is_pathless : List ℕ → List (List ℕ) → Bool
is_pathless caveat facts = begins under caveat && not (list_any (begins under) facts)

-- what a caveat lacks that is no bound of time: by the doubt about it, or a fact
abbrev pub fact_lack : Option Doubt → List ℕ → List (List ℕ) → Lack
fact_lack (Some doubt) caveat facts = Doubted doubt
fact_lack None caveat facts = if is_pathless caveat facts then NoPath else NoFact

-- what a caveat lacks that is a time limit or a lower bound of these seconds, or none of both
abbrev pub lack_by : Option ℤ → Option ℤ → List ℕ → Context → Lack
lack_by (Some limit) since caveat x = Ended limit
lack_by None (Some bound) caveat x = Ahead bound
lack_by None None caveat x = fact_lack (doubt_of caveat false x.moment) caveat x.facts

-- why a caveat isn't satisfied, or nothing where it is
unfoldable pub lack_of : List ℕ → Context → Option Lack
lack_of caveat x = if is_satisfied caveat x then None
    else Some (lack_by (limit_of caveat) (since_of caveat) caveat x)

-- how many first bytes two texts share
abbrev pub shared : List ℕ → List ℕ → ℕ
shared one other = length (take_while (λ pair. pair.0 == pair.1) (zip one other))

-- the fact, where it shares more with the caveat than the best so far
abbrev pub nearer : List ℕ → List ℕ → List ℕ → List ℕ
nearer caveat best fact =
    if nat_lt (shared caveat best) (shared caveat fact) then fact else best

-- the first of the facts that share most with the caveat, if that is more than the best so far does
abbrev pub nearest : List ℕ → List ℕ → List (List ℕ) → List ℕ
nearest caveat best [] = best
nearest caveat best (fact ∷ facts) = nearest caveat (nearer caveat best fact) facts
