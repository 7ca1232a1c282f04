-- The token that a request brings (RFC 9110, section 11.4, and RFC 6750).
use Rattle.std.specs.Prelude.{ℕ, Bool, not, ◌==◌, position, unwrap_or, List, [], ◌∷◌, length, take, drop, map, codes, bytes_eq, Option, Some, None, option_map, option_and_then, if◌then◌else◌}
use Rattle.std.specs.Char.{to_ascii_lowercase}
use Rattle.std.specs.Option.{option_or}
use Rattle.http_header.specs.FieldValue.{FieldValue}
use Rattle.http_header.specs.HeaderMap.{Entries, get_all}
use Rattle.mac_http.specs.declared.authorization.Scheme.{Scheme}
use Rattle.mac_http.specs.declared.authorization.Scheme.TheVariants.{Macaroon, Bearer}

abbrev pub is_no_blank : ℕ → Bool
is_no_blank b = not (b == 32)

-- how many blanks a text begins with
abbrev pub blanks : List ℕ → ℕ
blanks text = unwrap_or (position is_no_blank text) (length text)

-- the text without the blanks that it begins with
abbrev pub without_blanks : List ℕ → List ℕ
without_blanks text = drop (blanks text) text

-- what stands behind a scheme in any case and blanks, if the value begins so
abbrev pub behind_scheme : List ℕ → List ℕ → Option (List ℕ)
behind_scheme scheme value =
    if bytes_eq (map to_ascii_lowercase (take (length scheme) value)) (map to_ascii_lowercase scheme)
    then Some (without_blanks (drop (length scheme) value)) else None

-- the scheme and the token of a value
abbrev pub credentials_of : List ℕ → Option (Scheme × List ℕ)
credentials_of value = option_or
    (option_map (λ token. (Macaroon, token)) (behind_scheme (codes "macaroon ") value))
    (option_map (λ token. (Bearer, token)) (behind_scheme (codes "bearer ") value))

-- the one element of a list of one
abbrev pub only : {X : Type 0} → List X → Option X
only [] = None
only (x ∷ []) = Some x
only (x ∷ y ∷ more) = None

-- the scheme and the token that the fields bring: there has to be one field alone
abbrev pub credentials_in : Entries FieldValue → Option (Scheme × List ℕ)
credentials_in headers =
    option_and_then (λ v. credentials_of v.bytes) (only (get_all headers (codes "authorization")))

-- the field that asks for another token than the one that came by this scheme
abbrev pub challenge : Scheme → List ℕ
challenge Macaroon = codes "Macaroon error=\"invalid_token\""
challenge Bearer = codes "Bearer error=\"invalid_token\""
