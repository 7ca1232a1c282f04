-- The hash values after a key's two pads (RFC 2104, section 2), which begin both hashes of an HMAC.
use Rattle.std.specs.Prelude.{ℕ, List}
use Rattle.sha2.specs.Sha256.{compress, initial_hash_256}
use Rattle.mac_hmac.specs.Hmac.{inner_block, outer_block}

-- after K xor ipad
abbrev pub begun_inner : List ℕ → List ℕ
begun_inner key = compress initial_hash_256 (inner_block key)

-- after K xor opad
abbrev pub begun_outer : List ℕ → List ℕ
begun_outer key = compress initial_hash_256 (outer_block key)
