-- Base64 text (RFC 4648) as a relation between a text and bytes.
use Rattle.std.specs.Prelude.{◌≡◌, ℕ, List, codes, ◌⊎◌}
use Rattle.base64.specs.Engines.{standard, standard_no_pad, url_safe, url_safe_no_pad}
use Rattle.base64.specs.GeneralPurpose.{IsBytes, encode_of}

-- the text spells the bytes by an alphabet of RFC 4648 (sections 4 and 5), padded (3.2) or not
abbrev pub IsBase64Of : List ℕ → List ℕ → Type 0
IsBase64Of text bytes =
    IsBytes bytes
    × ((text ≡ encode_of standard bytes) ⊎ (text ≡ encode_of standard_no_pad bytes)
    ⊎ (text ≡ encode_of url_safe bytes) ⊎ (text ≡ encode_of url_safe_no_pad bytes))

-- the alphabet of RFC 4648, section 4
abbrev pub plain_letters : List ℕ
plain_letters = codes "ABCDEFGHIJKLMNOPQRSTUVWXYZabcdefghijklmnopqrstuvwxyz0123456789+/"

-- the alphabet of RFC 4648, section 5
abbrev pub url_safe_letters : List ℕ
url_safe_letters = codes "ABCDEFGHIJKLMNOPQRSTUVWXYZabcdefghijklmnopqrstuvwxyz0123456789-_"

-- the base64 text that is written: URL-safe and unpadded (RFC 4648, sections 5 and 3.2)
abbrev pub base64_of : List ℕ → List ℕ
base64_of bytes = encode_of url_safe_no_pad bytes
