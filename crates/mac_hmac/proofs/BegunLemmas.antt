-- The blocks of a key's two pads, and the hash values after them.
use Rattle.std.proofs.Common.{◌≡◌, ℕ, ◌-◌, ◌<◌, ◌≤◌, inl, inr, List, [], get_or, subst, length, replicate, arith, sym, ap, ◌∙◌, length-append}
use Rattle.std.proofs.lemmas.Bool.{cases_lt}
use Rattle.std.proofs.lemmas.List.{get_or_default, length-map, length-replicate}
use Rattle.std.specs.Int.Bits.{bit_xor}
use Rattle.sha2.proofs.Facts256.{length-sha256}
use Rattle.mac_hmac.specs.Hmac.{fitted_key, block_key, xor_pad, inner_block, outer_block}
use Rattle.sha256x8.specs.Begun.{IsBegun}
use Rattle.mac_hmac.specs.Begun.{begun_inner, begun_outer}
use Rattle.mac_hmac.proofs.HmacLemmas.{fitted_key-short, fitted_key-long}

length-fitted_key : (key : List ℕ) → length (fitted_key key) ≤ 64
length-fitted_key key = elim (cases_lt 64 (length key)) [
  | inl long ↦ rw (fitted_key-long key long) (omega (arith, length-sha256 key))
  | inr short ↦ rw (fitted_key-short key short) short
]

length-block_key : (key : List ℕ) → length (block_key key) ≡ 64
unfolding block_key
length-block_key key =
    let fitted = fitted_key key in
    omega (
      arith,
      length-fitted_key key,
      length-append fitted (replicate (64 - length fitted) 0),
      length-replicate {A = ℕ} (64 - length fitted) 0,
    )

length-xor_pad : (block : List ℕ) (pad : ℕ) → length (xor_pad block pad) ≡ length block
unfolding xor_pad
length-xor_pad block pad = length-map block (λ byte. bit_xor byte pad)

pub length-inner_block : (key : List ℕ) → length (inner_block key) ≡ 64
unfolding inner_block
length-inner_block key = length-xor_pad (block_key key) 0x36 ∙ length-block_key key

pub length-outer_block : (key : List ℕ) → length (outer_block key) ≡ 64
unfolding outer_block
length-outer_block key = length-xor_pad (block_key key) 0x5c ∙ length-block_key key

-- the hash value that a key keeps is that after its inner pad
pub begun-inner : (bytes key hash : List ℕ) → bytes ≡ key → begun_inner bytes ≡ hash
    → IsBegun hash (inner_block key)
begun-inner bytes key hash same begun =
    record { whole = length-inner_block key; is = sym begun ∙ ap begun_inner same }

-- and the other that after its outer pad
pub begun-outer : (bytes key hash : List ℕ) → bytes ≡ key → begun_outer bytes ≡ hash
    → IsBegun hash (outer_block key)
begun-outer bytes key hash same begun =
    record { whole = length-outer_block key; is = sym begun ∙ ap begun_outer same }

-- a key of a list, whatever stands for one that it hasn't
pub begun-at : (block : List ℕ → List ℕ) (keys : List (List ℕ)) (k : ℕ) (other hash : List ℕ)
    → k < length keys → IsBegun hash (block (get_or keys k other))
    → IsBegun hash (block (get_or keys k []))
begun-at block keys k other hash lt begun =
    subst (λ (key : List ℕ). IsBegun hash (block key)) (get_or_default keys k other [] lt) begun
