-- The chain of a list of caveats that is made of two.
use Rattle.std.proofs.Common.{◌≡◌, ℕ, List, [], ◌∷◌, ◌++◌, refl}
use Rattle.mac_hmac.specs.Hmac.{hmac}
use Rattle.mac_hmac.specs.Chain.{chain, extended}

-- caveats folded on in two runs are those folded on in one
pub extended-append : (signature : List ℕ) (first second : List (List ℕ)) →
    extended signature (first ++ second) ≡ extended (extended signature first) second
extended-append signature [] second = refl
extended-append signature (caveat ∷ first) second = extended-append (hmac signature caveat) first second

-- a caveat appended replaces the signature s by HMAC(s, caveat)
pub chain-one_more : (key identifier caveat : List ℕ) (caveats : List (List ℕ)) →
    chain key identifier (caveats ++ caveat ∷ []) ≡ hmac (chain key identifier caveats) caveat
chain-one_more key identifier caveat caveats = extended-append (hmac key identifier) caveats (caveat ∷ [])
