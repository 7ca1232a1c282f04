-- A block that is filled byte by byte and masked with a pad, and the first blocks of a key.
use Rattle.std.proofs.Common.{◌≡◌, ℕ, suc, zero, List, [], ◌∷◌, ◌++◌, ◌+◌, ◌-◌, ◌<◌, ◌≤◌, length, map, take, get_or, replicate, refl, ap, ◌∙◌, arith}
use Rattle.std.proofs.Math.ListN.{set}
use Rattle.std.proofs.lemmas.List.{append-nil, map-append, length-map, length-take-le, take_more}
use Rattle.std.proofs.lemmas.Bool.{le-leb, lt-leb}
use Rattle.std.specs.Int.Bits.{bit_xor, xor_zero_l}
use Rattle.sha2.specs.Sha256.{sha256}
use Rattle.sha2.specs.Hashers.{Holds256}
use Rattle.mac_hmac.specs.HmacState.{Holds}
use Rattle.mac_hmac.specs.declared.hmac_state.HmacState.{HmacState}
use Rattle.mac_hmac.specs.Hmac.{fitted_key, block_key, xor_pad, inner_block, outer_block}

-- one more byte written over the first byte that is still the pad's
pub set-front : (front : List ℕ) (n pad byte : ℕ) →
    set (front ++ replicate (suc n) pad) (length front) byte ≡ (front ++ byte ∷ []) ++ replicate n pad
set-front [] n pad byte = refl
set-front (x ∷ front) n pad byte = ap (λ (l : List ℕ). x ∷ l) (set-front front n pad byte)

pub map-replicate : (f : ℕ → ℕ) (n x : ℕ) → map f (replicate n x) ≡ replicate n (f x)
map-replicate f zero x = refl
map-replicate f (suc n) x = ap (λ (l : List ℕ). f x ∷ l) (map-replicate f n x)

-- a block of which the first i bytes are masked key, with byte i written
pub filled_more : (key : List ℕ) (f : ℕ → ℕ) (pad i : ℕ) → i < length key → length key ≤ 64 →
    set (map f (take i key) ++ replicate (64 - i) pad) i (f (get_or key i 0)) ≡
    map f (take (i + 1) key) ++ replicate (64 - (i + 1)) pad
filled_more key f pad i within fits =
    let front = map f (take i key) in
    let byte = get_or key i 0 in
    let len : length front ≡ i = length-map (take i key) f ∙ length-take-le i key (omega arith) in
    let room : 64 - i ≡ suc (64 - (i + 1)) = omega arith in
    let step = set-front front (64 - (i + 1)) pad (f byte) in
    let more : map f (take (i + 1) key) ≡ front ++ f byte ∷ [] =
    ap (map f) (take_more key i 0 within) ∙ map-append f (take i key) (byte ∷ []) in
    rw (room, more) (rw len at step)

-- zero bytes masked are the pad's byte
pub xor_pad-zeros : (key : List ℕ) (n pad : ℕ) →
    xor_pad (key ++ replicate n 0) pad ≡ map (λ byte. bit_xor byte pad) key ++ replicate n pad
unfolding xor_pad
xor_pad-zeros key n pad =
    let f : ℕ → ℕ = λ byte. bit_xor byte pad in
    map-append f key (replicate n 0) ∙
    ap (λ (l : List ℕ). map f key ++ l) (map-replicate f n 0 ∙ ap (replicate n) (xor_zero_l pad))

-- a key that fits a block is not hashed
pub fitted_key-short : (key : List ℕ) → length key ≤ 64 → fitted_key key ≡ key
unfolding fitted_key
fitted_key-short key fits = rw (le-leb (length key) 64 fits)

-- a longer one is
pub fitted_key-long : (key : List ℕ) → 64 < length key → fitted_key key ≡ sha256 key
unfolding fitted_key
fitted_key-long key long = rw (lt-leb (length key) 64 long)

-- the blocks of a key's fitted key, and the empty text
pub Holds-fitted : (s : HmacState) (key fitted : List ℕ) → fitted_key key ≡ fitted →
    Holds256 s.inner (xor_pad (fitted ++ replicate (64 - length fitted) 0) 0x36) →
    Holds256 s.outer (xor_pad (fitted ++ replicate (64 - length fitted) 0) 0x5c) → Holds s key []
unfolding inner_block outer_block block_key
Holds-fitted s key fitted e inner outer = record {
  inner = rw (append-nil, e) inner;
  outer = rw e outer;
}
