-- What reading answers, in the order of its tests.
use Rattle.std.specs.Prelude.{◌⊎◌, ℕ, ◌<◌, ◌≤◌, ◌==◌, ◌||◌, nat_lt, Bool, false, if◌then◌else◌, List, [], ◌∷◌, map, length, is_some, Option, Some, None, IsSome, Result, Ok, Err, Any}
use Rattle.std.specs.List.{list_any}
use Rattle.mac_token.specs.declared.fault.TokenRefusal.{TokenRefusal}
use Rattle.mac_token.specs.declared.fault.TokenRefusal.TheVariants.{Transport, Malformed, ThirdParty, Limit, CaveatLocation}
use Rattle.mac_token.specs.declared.limits.TheConstants.{TOKEN_MAX}
use Rattle.mac_token.specs.RawToken.{RawParts, TokenParts, token_parts, raw_of}
use Rattle.mac_token.specs.Limits.{IsWithinLimits, token_or_limit}
use Rattle.mac_token.specs.Spells.{Carries, Spells}
use Rattle.mac_token.specs.Base64Reading.{base64_bytes}
use Rattle.mac_token.specs.V1Reading.{v1_of}
use Rattle.mac_token.specs.V2Whole.{v2_of}
use Rattle.mac_token.specs.JsonReading.{json_text_of}

-- ---- the meaning, in the words of the forms

-- a caveat of the raw token is third-party: it has a verifier's id, be it empty
abbrev pub AnyVid : RawParts → Type 0
AnyVid r = Any (λ c. IsSome c.vid) r.caveats

-- a caveat of the raw token has a location
abbrev pub AnyLocation : RawParts → Type 0
AnyLocation r = Any (λ c. IsSome c.location) r.caveats

-- the parts of a raw token that a token has too
abbrev pub parts_of : RawParts → TokenParts
parts_of r = token_parts r.location r.identifier (map (λ c. c.id) r.caveats) r.sig

-- the input is no longer than a token may be
abbrev pub IsInBound : List ℕ → Type 0
IsInBound bytes = length bytes ≤ TOKEN_MAX

-- what an input is taken for: by its length, else by what it carries
abbrev pub Carried : List ℕ → Result (List ℕ) TokenRefusal → Type 0
Carried bytes (Ok bare) = IsInBound bytes × Carries bytes bare
Carried bytes (Err Limit) = TOKEN_MAX < length bytes
Carried bytes (Err Transport) = IsInBound bytes × (¬ ((bare : List ℕ) × Carries bytes bare))
Carried bytes (Err _) = ⊥

-- how reading ends up to the grammar: by the input's length, else its transport, else its form
abbrev pub ReadRaw : List ℕ → Result RawParts TokenRefusal → Type 0
ReadRaw bytes (Ok r) = IsInBound bytes × Spells bytes r
ReadRaw bytes (Err Limit) = TOKEN_MAX < length bytes
ReadRaw bytes (Err Transport) = IsInBound bytes × (¬ ((bare : List ℕ) × Carries bytes bare))
ReadRaw bytes (Err Malformed) =
    IsInBound bytes × ((bare : List ℕ) × Carries bytes bare) × (¬ ((r : RawParts) × Spells bytes r))
ReadRaw bytes (Err _) = ⊥

-- how reading ends: as up to the grammar; else by a verifier's id, else a location, else a limit
abbrev pub Read : List ℕ → Result TokenParts TokenRefusal → Type 0
Read bytes (Ok t) = ReadRaw bytes (Ok (raw_of t)) × IsWithinLimits t
Read bytes (Err Transport) = ReadRaw bytes (Err Transport)
Read bytes (Err Malformed) = ReadRaw bytes (Err Malformed)
Read bytes (Err ThirdParty) = (r : RawParts) × ReadRaw bytes (Ok r) × AnyVid r
Read bytes (Err CaveatLocation) =
    (r : RawParts) × ReadRaw bytes (Ok r) × (¬ AnyVid r) × AnyLocation r
Read bytes (Err Limit) = ReadRaw bytes (Err Limit)
    ⊎ ((r : RawParts) × ReadRaw bytes (Ok r) × (¬ AnyVid r) × (¬ AnyLocation r)
    × (¬ IsWithinLimits (parts_of r)))

-- ---- for proofs: the same as functions; laws `carried_is_meant`, `raw_read_is_meant`,
-- `read_is_meant` tie them to it

-- the first byte is one of `0`, 2 and `{`
abbrev pub calls_for_bare : ℕ → Bool
calls_for_bare b = b == 48 || (b == 2 || b == 123)

-- an input is itself to be a bare form
abbrev pub begins_bare : List ℕ → Bool
begins_bare [] = false
begins_bare (b ∷ bytes) = calls_for_bare b

-- the bytes that are to be a bare form
unfoldable pub bare_bytes : List ℕ → Option (List ℕ)
bare_bytes [] = None
bare_bytes (b ∷ bytes) = if calls_for_bare b then Some (b ∷ bytes) else base64_bytes (b ∷ bytes)

-- the raw token that a bare form spells
unfoldable pub bare_of : List ℕ → Option RawParts
bare_of [] = None
bare_of (b ∷ bytes) = if b == 48 then v1_of (b ∷ bytes) else if b == 2 then v2_of (b ∷ bytes)
    else if b == 123 then json_text_of (b ∷ bytes) else None

-- the raw token, or Malformed
abbrev pub or_malformed : Option RawParts → Result RawParts TokenRefusal
or_malformed None = Err Malformed
or_malformed (Some r) = Ok r

-- the bytes that are carried, or Transport
abbrev pub or_transport : Option (List ℕ) → Result (List ℕ) TokenRefusal
or_transport None = Err Transport
or_transport (Some bare) = Ok bare

-- what `bare` answers
unfoldable pub carried_of : List ℕ → Result (List ℕ) TokenRefusal
carried_of bytes =
    if nat_lt TOKEN_MAX (length bytes) then Err Limit else or_transport (bare_bytes bytes)

-- what an input carries: itself, or what was decoded of it
abbrev pub carried_in : List ℕ → List ℕ → Bool → List ℕ
carried_in input decoded itself = if itself then input else decoded

-- the raw token in what is carried, or the refusal of the input
abbrev pub raw_of_carried : Result (List ℕ) TokenRefusal → Result RawParts TokenRefusal
raw_of_carried (Err fault) = Err fault
raw_of_carried (Ok bare) = or_malformed (bare_of bare)

-- what `read_raw` answers
unfoldable pub raw_read_of : List ℕ → Result RawParts TokenRefusal
raw_read_of bytes = raw_of_carried (carried_of bytes)

-- a raw token as a token, or why it is none
unfoldable pub token_of : RawParts → Result TokenParts TokenRefusal
token_of r = if list_any (λ c. is_some c.vid) r.caveats then Err ThirdParty
    else if list_any (λ c. is_some c.location) r.caveats then Err CaveatLocation
    else token_or_limit (parts_of r)

-- a token, or the refusal of what was read before
abbrev pub token_of_read : Result RawParts TokenRefusal → Result TokenParts TokenRefusal
token_of_read (Err fault) = Err fault
token_of_read (Ok r) = token_of r

-- what `read` answers
unfoldable pub read_of : List ℕ → Result TokenParts TokenRefusal
read_of bytes = token_of_read (raw_read_of bytes)
