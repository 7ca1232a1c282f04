-- HMAC (RFC 2104, section 2) with SHA-256 (FIPS 180-4), on lists of bytes.
use Rattle.std.specs.Prelude.{ℕ, ◌-◌, List, ◌++◌, length, map, replicate, bit_xor, nat_le, if◌then◌else◌}
use Rattle.sha2.specs.Sha256.{sha256}

-- a key that is longer than a block of 64 bytes is first hashed
unfoldable pub fitted_key : List ℕ → List ℕ
fitted_key key = if nat_le (length key) 64 then key else sha256 key

-- zero bytes appended to the fitted key, to the 64 bytes of a block
unfoldable pub block_key : List ℕ → List ℕ
block_key key = fitted_key key ++ replicate (64 - length (fitted_key key)) 0

-- the exclusive or of each byte with the pad's byte
unfoldable pub xor_pad : List ℕ → ℕ → List ℕ
xor_pad block pad = map (λ byte. bit_xor byte pad) block

-- K xor ipad, the first block of the inner hash
unfoldable pub inner_block : List ℕ → List ℕ
inner_block key = xor_pad (block_key key) 0x36

-- K xor opad, the first block of the outer hash
unfoldable pub outer_block : List ℕ → List ℕ
outer_block key = xor_pad (block_key key) 0x5c

-- H(K xor opad, H(K xor ipad, text))
unfoldable pub hmac : List ℕ → List ℕ → List ℕ
hmac key text = sha256 (outer_block key ++ sha256 (inner_block key ++ text))
