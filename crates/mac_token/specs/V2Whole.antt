-- For proofs: what is read from V2 binary, as a function; law `v2_is_meant` ties it to `V2`.
use Rattle.std.specs.Prelude.{ℕ, zero, suc, List, [], ◌∷◌, length, Option, Some, None}
use Rattle.mac_token.specs.RawToken.{CaveatParts, RawParts}
use Rattle.mac_token.specs.Location.{text_at}
use Rattle.mac_token.specs.Steps.{◌>>=◌}
use Rattle.mac_token.specs.Section.{SectionParts, location_bytes, caveat_said}
use Rattle.mac_token.specs.V2Reading.{end_at, section_at, head_at, signature_at}

-- no caveat is left where no section comes next, but the end mark
abbrev pub no_caveats : List ℕ → Option (List CaveatParts × List ℕ)
no_caveats bytes = end_at bytes >>= λ rest. Some ([], rest)

-- what a section and those behind it give; `more` reads those behind it
abbrev pub from_section : (List ℕ → Option (List CaveatParts × List ℕ)) → List ℕ
    → Option (SectionParts × List ℕ) → Option (List CaveatParts × List ℕ)
from_section more bytes None = no_caveats bytes
from_section more bytes (Some s) = caveat_said s.0 >>= λ c. more s.1 >>= λ cs. Some (c ∷ cs.0, cs.1)

-- fewer than so many caveats, and the end mark behind them
unfoldable pub caveats_at : ℕ → List ℕ → Option (List CaveatParts × List ℕ)
caveats_at zero bytes = None
caveats_at (suc n) bytes = from_section (caveats_at n) bytes (section_at bytes)

-- all of the bytes
unfoldable pub v2_of : List ℕ → Option RawParts
v2_of bytes = do
  head ← head_at bytes
  location ← text_at (location_bytes head.0)
  caveats ← caveats_at (suc (length head.1)) head.1
  signature ← signature_at caveats.1
  Some (record {
    location = location;
    identifier = head.0.identifier;
    caveats = caveats.0;
    sig = signature;
  })
