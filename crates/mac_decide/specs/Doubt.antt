-- Doubts about caveats (this project's own): one that can hardly hold is seldom meant.
use Rattle.std.specs.Prelude.{ℕ, Bool, ◌&&◌, ◌||◌, not, if◌then◌else◌, nat_eq, List, [], ◌∷◌, codes, get_or, take, drop, length, Option, Some, None}
use Rattle.std.specs.List.{list_any, starts_with, ends_with}
use Rattle.std.specs.Option.{is_none}
use Rattle.std.specs.Str.{bytes_eq, str_eq_ignore_ascii_case}
use Rattle.mac_decide.specs.Reading.{is_from, limit_of, since_of}
use Rattle.mac_decide.specs.declared.doubts.Doubt.{Doubt}
use Rattle.mac_decide.specs.declared.doubts.Doubt.TheVariants.{NoBound, Passed, EndsInSlash, Misspaced, Repeated}

-- the text begins with this one
abbrev pub begins : List ℕ → List ℕ → Bool
begins front text = starts_with nat_eq text front

-- a space or none, and `<` or `>`
abbrev pub begins_with_sign : List ℕ → Bool
begins_with_sign text = begins (codes "<") text
    || (begins (codes ">") text || (begins (codes " <") text || begins (codes " >") text))

-- the word `time` in any case, and such a sign
abbrev pub begins_as_bound : List ℕ → Bool
begins_as_bound caveat =
    str_eq_ignore_ascii_case (take 4 caveat) (codes "time") && begins_with_sign (drop 4 caveat)

-- the text is no bound of time
abbrev pub is_no_bound : List ℕ → Bool
is_no_bound caveat = is_none (limit_of caveat) && is_none (since_of caveat)

-- it begins as one all the same
unfoldable pub is_near_bound : List ℕ → Bool
is_near_bound caveat = begins_as_bound caveat && is_no_bound caveat

-- it asks for a path under one that ends in a slash, and isn't the root
abbrev pub ends_in_slash : List ℕ → Bool
ends_in_slash caveat = begins (codes "path under /") caveat
    && (ends_with nat_eq caveat (codes "/") && not (bytes_eq caveat (codes "path under /")))

-- an equals sign, or one behind a space, but not between two
abbrev pub is_missigned : List ℕ → Bool
is_missigned text =
    (begins (codes "=") text || begins (codes " =") text) && not (begins (codes " = ") text)

-- the same behind a name
abbrev pub is_misspaced_behind : List ℕ → List ℕ → Bool
is_misspaced_behind caveat name =
    begins name caveat && is_missigned (drop (length name) caveat)

-- the names of which gateways tell facts by an equals sign
abbrev pub fact_names : List (List ℕ)
fact_names =
    codes "method" ∷ codes "path" ∷ codes "host" ∷ codes "scheme" ∷ codes "ip" ∷ []

-- it tells of one of these, but not as a fact does
abbrev pub is_misspaced : List ℕ → Bool
is_misspaced caveat = list_any (is_misspaced_behind caveat) fact_names

-- the first doubt about a caveat at a moment; it is repeated where an earlier one equals it
unfoldable pub doubt_of : List ℕ → Bool → ℕ → Option Doubt
doubt_of caveat is_repeated moment = if is_near_bound caveat then Some NoBound
    else (if is_from moment (limit_of caveat) then Some Passed
    else (if ends_in_slash caveat then Some EndsInSlash
    else (if is_misspaced caveat then Some Misspaced
    else (if is_repeated then Some Repeated else None))))

-- the caveat at a place equals one before it
abbrev pub is_repeated : List (List ℕ) → ℕ → Bool
is_repeated caveats place = list_any (bytes_eq (get_or caveats place [])) (take place caveats)

-- the first doubt about the caveat at a place of a list, at a moment
abbrev pub doubt_at : List (List ℕ) → ℕ → ℕ → Option Doubt
doubt_at caveats moment place =
    doubt_of (get_or caveats place []) (is_repeated caveats place) moment

-- what is told of a caveat, behind the words `a caveat`
abbrev pub doubt_words : Doubt → List ℕ
doubt_words NoBound = codes "is no bound of time, and holds only as a fact"
doubt_words Passed = codes "is a time limit that has passed, and holds only as a fact"
doubt_words EndsInSlash = codes "ends in a slash, and no path is under it"
doubt_words Misspaced = codes "has not one space on each side of its equals sign"
doubt_words Repeated = codes "stands there twice"
