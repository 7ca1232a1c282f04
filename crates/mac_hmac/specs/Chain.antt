-- Keys and signatures of macaroons: the chain of HMACs of Birgisson et al., "Macaroons: Cookies
-- with Contextual Caveats for Decentralized Authorization in the Cloud" (NDSS 2014), under the key
-- that libmacaroons derives from a secret.
use Rattle.std.specs.Prelude.{ℕ, List, [], ◌∷◌, ◌++◌, replicate, codes}
use Rattle.mac_hmac.specs.Hmac.{hmac}

-- libmacaroons' key generator: its 23 letters, and zero bytes to 32
unfoldable pub key_generator : List ℕ
key_generator = codes "macaroons-key-generator" ++ replicate 9 0

-- the root key that libmacaroons derives from a secret
unfoldable pub root_of : List ℕ → List ℕ
root_of secret = hmac key_generator secret

-- the signature after these caveats, in order: each replaces the signature s by HMAC(s, caveat)
abbrev pub extended : List ℕ → List (List ℕ) → List ℕ
extended signature [] = signature
extended signature (caveat ∷ caveats) = extended (hmac signature caveat) caveats

-- the signature of a token: HMAC(root key, identifier), and then each caveat folded on
abbrev pub chain : List ℕ → List ℕ → List (List ℕ) → List ℕ
chain key identifier caveats = extended (hmac key identifier) caveats
