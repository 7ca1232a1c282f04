-- Which bytes spell which raw token, by the form that the first byte calls for.
use Rattle.std.specs.Prelude.{◌≡◌, ◌≢◌, ◌⊎◌, ℕ, List, [], slice_get, Some}
use Rattle.mac_token.specs.RawToken.{RawParts}
use Rattle.mac_token.specs.Base64Text.{IsBase64Of}
use Rattle.mac_token.specs.V1.{V1}
use Rattle.mac_token.specs.V2.{V2}
use Rattle.mac_token.specs.Json.{JsonText}

-- the first byte is this one
abbrev pub BeginsWith : ℕ → List ℕ → Type 0
BeginsWith b bytes = slice_get bytes 0 ≡ Some b

-- the first byte calls for a bare form: `0` for V1 packets, 2 for V2 binary, `{` for V2 JSON
abbrev pub CallsForBare : List ℕ → Type 0
CallsForBare bytes = BeginsWith 48 bytes ⊎ BeginsWith 2 bytes ⊎ BeginsWith 123 bytes

-- the bytes are a bare form of the raw token, the one that their first byte calls for
abbrev pub IsBare : List ℕ → RawParts → Type 0
IsBare bytes r = (BeginsWith 48 bytes × V1 bytes r) ⊎ (BeginsWith 2 bytes × V2 bytes r)
    ⊎ (BeginsWith 123 bytes × JsonText bytes r)

-- the bytes carry these: themselves where they are to be a bare form, else what their base64 spells
abbrev pub Carries : List ℕ → List ℕ → Type 0
Carries bytes bare = (CallsForBare bytes × (bare ≡ bytes))
    ⊎ ((¬ CallsForBare bytes) × (bytes ≢ []) × IsBase64Of bytes bare)

-- the bytes spell the raw token: what they carry is a bare form of it; base64 text is decoded once
abbrev pub Spells : List ℕ → RawParts → Type 0
Spells bytes r = (bare : List ℕ) × Carries bytes bare × IsBare bare r
