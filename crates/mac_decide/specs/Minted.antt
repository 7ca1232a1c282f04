-- Tokens made under a key, and narrowed without it (NDSS 2014).
use Rattle.std.specs.Prelude.{◌≡◌, ℕ, List, Any}
use Rattle.mac_hmac.specs.Chain.{chain, extended}
use Rattle.mac_token.specs.RawToken.{TokenParts, token_parts}
use Rattle.mac_token.specs.Push.{with_caveats}

-- the key's chain over the identifier and the caveats gives the signature
abbrev pub Signs : List ℕ → TokenParts → Type 0
Signs key t = t.sig ≡ chain key t.identifier t.caveats

-- the chain of one of the keys gives it
abbrev pub Minted : List (List ℕ) → TokenParts → Type 0
Minted keys t = Any (λ key. Signs key t) keys

-- the token of these parts under the key
abbrev pub minted : List ℕ → List ℕ → List ℕ → List (List ℕ) → TokenParts
minted key location identifier caveats =
    token_parts location identifier caveats (chain key identifier caveats)

-- the token with these caveats added, each folded onto its own signature: no key is asked for
abbrev pub add : TokenParts → List (List ℕ) → TokenParts
add t caveats = with_caveats t caveats (extended t.sig caveats)
