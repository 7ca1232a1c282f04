-- The limits of a token.
use Rattle.std.specs.Prelude.{ℕ, ◌≤◌, nat_le, Bool, ◌&&◌, if◌then◌else◌, List, length, All, Result, Ok, Err}
use Rattle.std.specs.List.{list_all}
use Rattle.mac_token.specs.declared.fault.TokenRefusal.{TokenRefusal}
use Rattle.mac_token.specs.declared.fault.TokenRefusal.TheVariants.{Limit}
use Rattle.mac_token.specs.RawToken.{TokenParts}
use Rattle.mac_token.specs.declared.limits.TheConstants.{LOCATION_MAX, IDENTIFIER_MAX, CAVEAT_MAX, CAVEATS_MAX}

-- each caveat is within its limit
abbrev pub AreShort : List (List ℕ) → Type 0
AreShort caveats = All (λ caveat. length caveat ≤ CAVEAT_MAX) caveats

-- no part passes its limit: the location, the identifier, the number of caveats, each caveat
pub record PartsFit (l i : List ℕ) (cs : List (List ℕ)) : Type 0 where
  pub location : length l ≤ LOCATION_MAX
  pub identifier : length i ≤ IDENTIFIER_MAX
  pub count : length cs ≤ CAVEATS_MAX
  pub each : AreShort cs

-- a token is within the limits; its signature has none
abbrev pub IsWithinLimits : TokenParts → Type 0
IsWithinLimits t = PartsFit t.location t.identifier t.caveats

-- the test of the same
unfoldable pub is_within : TokenParts → Bool
is_within t = nat_le (length t.location) LOCATION_MAX && nat_le (length t.identifier) IDENTIFIER_MAX
    && nat_le (length t.caveats) CAVEATS_MAX
    && list_all (λ caveat. nat_le (length caveat) CAVEAT_MAX) t.caveats

-- the token, or Limit where a part passes its limit
abbrev pub token_or_limit : TokenParts → Result TokenParts TokenRefusal
token_or_limit t = if is_within t then Ok t else Err Limit
