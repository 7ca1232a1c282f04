-- Fingerprints of keys (this project's own).
use Rattle.std.specs.Prelude.{ℕ, List, codes, take}
use Rattle.hex.specs.Hex.{encode_lower}
use Rattle.mac_hmac.specs.Hmac.{hmac}

-- the digits of the first four bytes of a fixed text's HMAC under the key
abbrev pub fingerprint : List ℕ → List ℕ
fingerprint key = encode_lower (take 4 (hmac key (codes "macaroond fingerprint")))
