-- For proofs: what private clauses say of one member of a JSON object, read or written.
use Rattle.std.specs.Prelude.{◌≡◌, ℕ, List, [], ◌∷◌, ◌++◌, Option, Some, None, option_map, codes, if◌then◌else◌, Result, OnOk}
use Rattle.std.specs.Str.{is_utf8}
use Rattle.json.specs.Token.{Token, begin_object, end_object, key, string as string_token}
use Rattle.json.specs.Written.{Written}
use Rattle.serde_json.specs.Data.{Data}
use Rattle.serde_json.specs.Find.{as_str}
use Rattle.mac_token.specs.Base64Text.{base64_of}

-- the text of a member that may be absent; None where it is of another kind
abbrev pub text_member_of : Option Data → Option (Option (List ℕ))
text_member_of None = Some None
text_member_of (Some d) = option_map Some (as_str d)

-- the tokens of the member that has these bytes as an identifier
abbrev pub identifier_tokens : List ℕ → List Token
identifier_tokens bytes = if is_utf8 bytes then key (codes "i") ∷ string_token bytes ∷ []
    else key (codes "i64") ∷ string_token (base64_of bytes) ∷ []

-- of the member that has the location, where it isn't empty
abbrev pub location_tokens : List ℕ → List Token
location_tokens [] = []
location_tokens (b ∷ bs) = key (codes "l") ∷ string_token (b ∷ bs) ∷ []

-- of a first-party caveat's object
abbrev pub caveat_tokens : List ℕ → List Token
caveat_tokens caveat = begin_object ∷ (identifier_tokens caveat ++ end_object ∷ [])

-- these tokens are appended to what is written
abbrev pub Puts : {E : Type 0} → Result (Unit {0}) E → Written → Written → List Token → Type 0
Puts result old new tokens =
    OnOk result ((new.tokens ≡ old.tokens ++ tokens) × (new.before ≡ old.before))
