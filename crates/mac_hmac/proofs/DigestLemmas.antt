-- What HMAC gives is 32 bytes.
use Rattle.std.proofs.Common.{◌≡◌, ℕ, zero, suc, ◌<◌, List, [], ◌∷◌, ◌++◌, length, slice_index, arith}
use Rattle.std.specs.Int.{w32, to_be_bytes}
use Rattle.std.proofs.lemmas.Nat.{mod_below}
use Rattle.sha2.specs.Sha256.{sha256, digest_bytes, final_hash, initial_hash_256}
use Rattle.sha2.proofs.Facts256.{length-sha256}
use Rattle.mac_hmac.specs.Hmac.{hmac, inner_block, outer_block}

abbrev AreBytes : List ℕ → Type 0
AreBytes bytes = (i : ℕ) → slice_index bytes i < 256

joined-bytes : (a b : List ℕ) → AreBytes a → AreBytes b → AreBytes (a ++ b)
joined-bytes [] b p q i = q i
joined-bytes (x ∷ a) b p q zero = p 0
joined-bytes (x ∷ a) b p q (suc i) = joined-bytes a b (λ k. p (suc k)) q i

word-bytes : (n : ℕ) → AreBytes (to_be_bytes w32 n)
word-bytes n zero = mod_below _ 256 (omega arith)
word-bytes n (suc zero) = mod_below _ 256 (omega arith)
word-bytes n (suc (suc zero)) = mod_below _ 256 (omega arith)
word-bytes n (suc (suc (suc zero))) = mod_below _ 256 (omega arith)
word-bytes n (suc (suc (suc (suc i)))) = omega arith

digest-bytes : (words : List ℕ) (n : ℕ) → AreBytes (digest_bytes words n)
unfolding digest_bytes
digest-bytes words zero i = omega arith
digest-bytes words (suc n) i =
    joined-bytes (digest_bytes words n) (to_be_bytes w32 (slice_index words n)) (digest-bytes words n) (word-bytes (slice_index words n)) i

pub hmac-length : (key text : List ℕ) → length (hmac key text) ≡ 32
unfolding hmac
hmac-length key text = length-sha256 (outer_block key ++ sha256 (inner_block key ++ text))

pub hmac-bytes : (key text : List ℕ) → AreBytes (hmac key text)
unfolding hmac sha256
hmac-bytes key text = digest-bytes (final_hash initial_hash_256 (outer_block key ++ sha256 (inner_block key ++ text))) 8
