-- How a token that is looked at is printed.
use Rattle.std.specs.Prelude.{◌≡◌, ◌⊎◌, ℕ, zero, suc, ℤ, List, [], ◌∷◌, ◌++◌, codes, length, slice_get, Option, Some, None, Result, Ok, Err}
use Rattle.std.specs.Fmt.{decimal, signed_decimal}
use Rattle.std.specs.declared.alloc.Global.{Global}
use Rattle.std.specs.declared.vec.Vec.{Vec}
use Rattle.hex.specs.Hex.{encode_lower}
use Rattle.mac_decide.specs.Time.{IsTimeLimit, IsLowerBound}
use Rattle.mac_token.specs.RawToken.{CaveatParts, RawParts}
use Rattle.mac_token.specs.Read.{raw_read_of}
use Rattle.mac_token.specs.declared.fault.TokenFault.{TokenFault}
use Rattle.mac_token.specs.declared.fault.TokenFault.TheVariants as fault
use Rattle.mac_words.specs.Escaped.{escaped}
use Rattle.mac_words.specs.declared.inspected.Whose.{Whose}
use Rattle.mac_words.specs.Warned.{IsNoBound, no_bound_words}
use Rattle.mac_words.specs.Spelling.{spelling_name, spelling_of}

-- words with a second
abbrev pub second_words : List ℕ → ℤ → List ℕ
second_words front v = front ++ (signed_decimal v ++ codes " since 1970)")

-- what a time limit of this second means
unfoldable pub limit_words : ℤ → List ℕ
limit_words v = second_words (codes " (holds before second ") v

-- what a lower bound of time of this second means
unfoldable pub since_words : ℤ → List ℕ
since_words v = second_words (codes " (holds from second ") v

-- what is told behind a caveat: what it means as a bound of time, or that it only begins as one
abbrev pub AreBoundWords : List ℕ → List ℕ → Type 0
AreBoundWords id words = ((v : ℤ) × IsTimeLimit id v × (words ≡ limit_words v))
    ⊎ ((v : ℤ) × IsLowerBound id v × (words ≡ since_words v))
    ⊎ (IsNoBound id × (words ≡ no_bound_words id))

-- the words of a first-party caveat: its bytes, and what a bound of time means
abbrev pub AreBareWords : List ℕ → List ℕ → Type 0
AreBareWords id words =
    (bound : List ℕ) × AreBoundWords id bound × (words ≡ escaped id ++ bound)

-- a location, if there is one
unfoldable pub place_words : Option (List ℕ) → List ℕ
place_words None = []
place_words (Some location) = codes "at " ++ (escaped location ++ codes ": ")

-- said of a caveat that has a verifier's id
unfoldable pub third_party : List ℕ
third_party = codes "third-party "

-- the words of a caveat with this verifier's id, location and bytes
abbrev pub AreWords : Option (List ℕ) → Option (List ℕ) → List ℕ → List ℕ → Type 0
AreWords (Some vid) place id words =
    words ≡ third_party ++ (place_words place ++ escaped id)
AreWords None (Some location) id words = words ≡ place_words (Some location) ++ escaped id
AreWords None None id words = AreBareWords id words

-- how the line of the caveat at a place begins
unfoldable pub caveat_front : ℕ → List ℕ
caveat_front place = codes "caveat " ++ (decimal place ++ codes ": ")

-- the line of the caveat at a place, counted from 0
abbrev pub IsCaveatLine : ℕ → CaveatParts → List ℕ → Type 0
IsCaveatLine place c text = (words : List ℕ) × AreWords c.vid c.location c.id words
    × (text ≡ caveat_front place ++ (words ++ 10 ∷ []))

-- the lines of the first n caveats
abbrev pub AreLines : ℕ → List CaveatParts → List ℕ → Type 0
AreLines zero caveats text = text ≡ []
AreLines (suc n) caveats text = (before : List ℕ) × (last : List ℕ) × (c : CaveatParts)
    × AreLines n caveats before × (slice_get caveats n ≡ Some c) × IsCaveatLine n c last
    × (text ≡ before ++ last)

-- a line: a name, and what is told under it
unfoldable pub line : List ℕ → List ℕ → List ℕ
line name words = name ++ (words ++ 10 ∷ [])

-- whose the token is
abbrev pub whose_text : RawParts → List ℕ
whose_text raw = line (codes "location: ") (escaped raw.location)
    ++ line (codes "identifier: ") (escaped raw.identifier)

-- whose token it is that the bytes spell, or why they spell none
abbrev pub TellsWhose : List ℕ → Result Whose TokenFault → Type 0
TellsWhose token (Ok whose) = (raw : RawParts) × (raw_read_of token ≡ Ok raw)
    × (whose.identifier.items ≡ raw.identifier) × (whose.text.items ≡ whose_text raw)
TellsWhose token (Err fault.Memory) = Unit {0}
TellsWhose token (Err (fault.Refused why)) = raw_read_of token ≡ Err why

-- what is told before the caveats
abbrev pub head_text : List ℕ → RawParts → List ℕ
head_text token raw = line (codes "form: ") (spelling_name (spelling_of token)) ++ whose_text raw

-- and behind them
abbrev pub tail_text : List ℕ → RawParts → List ℕ
tail_text token raw = line (codes "signature: ") (encode_lower raw.sig)
    ++ line (codes "bytes: ") (decimal (length token))

-- the text that tells what is spelled
abbrev pub IsInspected : List ℕ → RawParts → List ℕ → Type 0
IsInspected token raw text = (lines : List ℕ) × AreLines (length raw.caveats) raw.caveats lines
    × (text ≡ head_text token raw ++ (lines ++ tail_text token raw))

-- looking at bytes gives the text of what they spell, or why they spell nothing
abbrev pub Inspects : List ℕ → Result (Vec ℕ Global) TokenFault → Type 0
Inspects token (Ok text) =
    (raw : RawParts) × (raw_read_of token ≡ Ok raw) × IsInspected token raw text.items
Inspects token (Err fault.Memory) = Unit {0}
Inspects token (Err (fault.Refused why)) = raw_read_of token ≡ Err why
