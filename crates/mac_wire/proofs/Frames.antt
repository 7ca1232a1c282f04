-- The arrivals of a stream, by what its front is.
use Rattle.std.proofs.Common.{◌≡◌, ℕ, zero, suc, ◌+◌, ◌<◌, ◌≤◌, ◌^◌, inl, inr, cond, eqb, ltb, List, [], ◌∷◌, ◌++◌, length, take, drop, refl, sym, ap, subst, ◌∙◌, arith}
use Rattle.std.specs.Int.{w32, from_be_bytes, to_be_bytes}
use Rattle.std.proofs.lemmas.Bool.{lt-ltb, le-ltb, ne_eqb, eq-eqb, cases_lt}
use Rattle.std.proofs.lemmas.List.{take_at, drop_at, take-take, take-append-le, drop-append-le, length-append, length-take, length-drop}
use Rattle.std.proofs.lemmas.Nat.{from_be_bytes-to_be_bytes_4}
use Rattle.mac_wire.specs.declared.arrival.Arrival.TheVariants as arrival
use Rattle.mac_wire.specs.declared.arrival.Ending.TheVariants as ending
use Rattle.mac_wire.specs.declared.arrival.TheConstants.{FRAME_MAX}
use Rattle.mac_wire.specs.Frame.{Frames, frame, told_length, followed_by, frames_within, frames_of, IsUnfinished}
use Rattle.mac_wire.specs.Partial.{IsWhole, IsTooLong}

-- the arrivals of a stream of that length, whose first frame tells a length and would have a payload, and of the rest
abbrev step : (len told : ℕ) → List ℕ → Frames → Frames
step len told payload rest =
    cond (eqb len 0) (record { arrived = []; ending = ending.Clean })
    (cond (ltb len 4) (record { arrived = []; ending = ending.Torn })
    (cond (ltb FRAME_MAX told) (record { arrived = arrival.Oversize ∷ []; ending = ending.Oversize })
    (cond (ltb len (4 + told)) (record { arrived = []; ending = ending.Torn })
    (followed_by (arrival.Payload payload ∷ []) rest))))

step-cut : (len told : ℕ) (payload : List ℕ) (rest : Frames) → 0 < len → (4 ≤ len → (told ≤ FRAME_MAX) × (len < 4 + told)) → step len told payload rest ≡ record { arrived = []; ending = ending.Torn }
step-cut len told payload rest some lacks =
    elim (cases_lt len 4) [
      | inl short ↦ rw (ne_eqb len 0 (λ e. omega arith), lt-ltb len 4 short) refl
      | inr long ↦ rw (ne_eqb len 0 (λ e. omega arith), le-ltb len 4 long, le-ltb FRAME_MAX told (lacks long).0, lt-ltb len (4 + told) (lacks long).1) refl
    ]

step-too_long : (len told : ℕ) (payload : List ℕ) (rest : Frames) → 4 ≤ len → FRAME_MAX < told → step len told payload rest ≡ record { arrived = arrival.Oversize ∷ []; ending = ending.Oversize }
step-too_long len told payload rest long passed = rw (ne_eqb len 0 (λ e. omega arith), le-ltb len 4 long, lt-ltb FRAME_MAX told passed) refl

step-whole : (len told : ℕ) (payload : List ℕ) (rest : Frames) → told ≤ FRAME_MAX → 4 + told ≤ len → step len told payload rest ≡ followed_by (arrival.Payload payload ∷ []) rest
step-whole len told payload rest allowed whole = rw (ne_eqb len 0 (λ e. omega arith), le-ltb len 4 (omega arith), le-ltb FRAME_MAX told allowed, le-ltb len (4 + told) whole) refl

-- as many frames as bytes are enough, and more make no difference
enough : (n m : ℕ) (stream : List ℕ) → length stream ≤ n → length stream ≤ m → frames_within n stream ≡ frames_within m stream
unfolding frames_within
enough zero zero stream ln lm = refl
enough zero (suc m) stream ln lm = rw (eq-eqb (length stream) 0 (omega arith)) refl
enough (suc n) zero stream ln lm = rw (eq-eqb (length stream) 0 (omega arith)) refl
enough (suc n) (suc m) stream ln lm =
    let told = told_length stream in
    let after : List ℕ = drop (4 + told) stream in
    let shorter = length-drop (4 + told) stream in
    ap (step (length stream) told (take told (drop 4 stream))) (enough n m after (omega (arith, shorter)) (omega (arith, shorter)))

-- a stream is read frame by frame
by_frame : (stream : List ℕ) → frames_of stream ≡ step (length stream) (told_length stream) (take (told_length stream) (drop 4 stream)) (frames_of (drop (4 + told_length stream) stream))
unfolding frames_of frames_within
by_frame [] = refl
by_frame (b ∷ bytes) =
    let stream : List ℕ = b ∷ bytes in
    let told = told_length stream in
    let after : List ℕ = drop (4 + told) stream in
    ap (step (length stream) told (take told (drop 4 stream))) (enough (length bytes) (length after) after (omega (arith, length-drop (4 + told) stream)) (omega arith))

-- the length that is told is that of the front
told_length-append : (bytes more : List ℕ) → 4 ≤ length bytes → told_length (bytes ++ more) ≡ told_length bytes
told_length-append bytes more long = ap (from_be_bytes w32) (take-append-le 4 bytes more long)

-- nothing is Clean
pub frames_of-nothing : frames_of [] ≡ record { arrived = []; ending = ending.Clean }
frames_of-nothing = by_frame []

-- a part of a frame is Torn
pub frames_of-unfinished : (bytes : List ℕ) → 0 < length bytes → IsUnfinished bytes → frames_of bytes ≡ record { arrived = []; ending = ending.Torn }
frames_of-unfinished bytes some lacks = by_frame bytes ∙ step-cut (length bytes) (told_length bytes) _ _ some lacks

-- after too great a length nothing is read
pub frames_of-too_long : (bytes more : List ℕ) → IsTooLong bytes → frames_of (bytes ++ more) ≡ record { arrived = arrival.Oversize ∷ []; ending = ending.Oversize }
frames_of-too_long bytes more h =
    let stream : List ℕ = bytes ++ more in
    by_frame stream ∙ step-too_long (length stream) (told_length stream) (take (told_length stream) (drop 4 stream)) (frames_of (drop (4 + told_length stream) stream)) (omega (arith, h.long, length-append bytes more))
    (subst (λ n. FRAME_MAX < n) (sym (told_length-append bytes more h.long)) h.passed)

-- after a whole frame the rest is read
pub frames_of-whole : (bytes payload more : List ℕ) → IsWhole bytes payload → frames_of (bytes ++ more) ≡ followed_by (arrival.Payload payload ∷ []) (frames_of more)
frames_of-whole bytes payload more h =
    let stream : List ℕ = bytes ++ more in
    let told : ℕ = told_length bytes in
    let same : told_length stream ≡ told = told_length-append bytes more h.long in
    let rest : drop (4 + told) stream ≡ more = drop_at bytes more (4 + told) h.complete in
    let body : take told (drop 4 stream) ≡ payload =
    ap (take told) (drop-append-le 4 bytes more h.long) ∙ take_at (drop 4 bytes) more told (omega (arith, length-drop 4 bytes, h.complete)) ∙ sym h.is_payload in
    by_frame stream
    ∙ ap (λ n. step (length stream) n (take n (drop 4 stream)) (frames_of (drop (4 + n) stream))) same
    ∙ ap (λ p. step (length stream) told p (frames_of (drop (4 + told) stream))) body
    ∙ ap (λ r. step (length stream) told payload (frames_of r)) rest
    ∙ step-whole (length stream) told payload (frames_of more) h.allowed (omega (arith, h.complete, length-append bytes more))

-- the length that a frame tells
pub told_length-frame : (payload : List ℕ) → length payload < 2 ^ 32 → told_length (frame payload) ≡ length payload
told_length-frame payload fits =
    ap (from_be_bytes w32) (take_at (to_be_bytes w32 (length payload)) payload 4 refl) ∙ from_be_bytes-to_be_bytes_4 (length payload) fits

-- a whole frame and its payload
pub IsWhole-frame : (payload : List ℕ) → length payload ≤ FRAME_MAX → IsWhole (frame payload) payload
IsWhole-frame payload fits =
    let told : told_length (frame payload) ≡ length payload = told_length-frame payload (omega arith) in
    record {
      long = omega (arith, length-append (to_be_bytes w32 (length payload)) payload);
      allowed = subst (λ n. n ≤ FRAME_MAX) (sym told) fits;
      complete = subst (λ n. length (frame payload) ≡ 4 + n) (sym told) (length-append (to_be_bytes w32 (length payload)) payload);
      is_payload = sym (drop_at (to_be_bytes w32 (length payload)) payload 4 refl);
    }

-- a part of a frame
pub IsUnfinished-part : (payload : List ℕ) (n : ℕ) → length payload ≤ FRAME_MAX → n < length (frame payload) → IsUnfinished (take n (frame payload))
IsUnfinished-part payload n fits part long =
    let len = length-take n (frame payload) in
    let told : told_length (take n (frame payload)) ≡ length payload =
    ap (from_be_bytes w32) (take-take 4 n (frame payload) (omega (arith, len))) ∙ told_length-frame payload (omega arith) in
    subst (λ k. (k ≤ FRAME_MAX) × (length (take n (frame payload)) < 4 + k)) (sym told)
    (fits, omega (arith, length-append (to_be_bytes w32 (length payload)) payload))

-- a length that passes the greatest
pub IsTooLong-told : (n : ℕ) → FRAME_MAX < n → n < 2 ^ 32 → IsTooLong (to_be_bytes w32 n)
IsTooLong-told n passed fits = record {
  long = omega arith;
  passed = subst (λ k. FRAME_MAX < k) (sym (from_be_bytes-to_be_bytes_4 n fits)) passed;
}
