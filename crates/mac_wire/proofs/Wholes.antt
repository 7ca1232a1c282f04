-- Frames that are counted one after the other.
use Rattle.std.proofs.Common.{◌≡◌, ℕ, ◌+◌, ◌-◌, ◌<◌, ◌≤◌, List, [], ◌∷◌, ◌++◌, length, take, drop, refl, sym, ap, ◌∙◌, append_assoc, inl, inr, arith}
use Rattle.std.specs.Int.{w32, from_be_bytes, to_be_bytes}
use Rattle.std.specs.List.{AllByRecursion}
use Rattle.std.proofs.lemmas.Bool.{cases_lt}
use Rattle.std.proofs.lemmas.List.{take_at, drop_at, take-take, take-append-le, drop-take, length-append, length-take, length-drop, append-nil}
use Rattle.std.proofs.lemmas.List.Concat.{flat_map-append, flat_map-cons}
use Rattle.mac_wire.specs.declared.arrival.TheConstants.{FRAME_MAX}
use Rattle.mac_wire.specs.Frame.{frame, framed, told_length}
use Rattle.mac_wire.specs.Whole.{HasWhole}
use Rattle.mac_wire.proofs.Frames.{told_length-frame}

-- a payload that a frame may have
abbrev pub Fits : List ℕ → Type 0
Fits payload = length payload ≤ FRAME_MAX

-- some frames were counted, and the rest of the bytes begins the others
pub record Counted (payloads : List (List ℕ)) (bytes rest : List ℕ) (count : ℕ) : Type 0 where
  pub done : List (List ℕ)
  pub todo : List (List ℕ)
  pub parts : payloads ≡ done ++ todo
  pub fit : AllByRecursion Fits todo
  pub number : count ≡ length done
  pub size : length bytes ≡ length (framed done) + length rest
  pub begins : rest ≡ take (length rest) (framed todo)

-- the length that the front of a frame tells
told-front : (payload more rest : List ℕ) → length payload ≤ FRAME_MAX → rest ≡ take (length rest) (frame payload ++ more) → 4 ≤ length rest → told_length rest ≡ length payload
told-front payload more rest fits begins long =
    let whole : List ℕ = frame payload ++ more in
    let front : take 4 rest ≡ take 4 (frame payload) =
    ap (take 4) begins ∙ take-take 4 (length rest) whole long
    ∙ take-append-le 4 (frame payload) more (omega (arith, length-append (to_be_bytes w32 (length payload)) payload)) in
    ap (from_be_bytes w32) front ∙ told_length-frame payload (omega arith)

text-snoc : (done : List (List ℕ)) (r : List ℕ) → length (framed (done ++ r ∷ [])) ≡ length (framed done) + length (frame r)
text-snoc done r = ap length (flat_map-append frame done (r ∷ [])) ∙ length-append (framed done) (frame r ++ [])
    ∙ ap (λ (l : List ℕ). length (framed done) + length l) (append-nil (frame r))

-- one more frame is whole
pub counted-next : (payloads : List (List ℕ)) (bytes rest behind : List ℕ) (count : ℕ) → Counted payloads bytes rest count
    → 4 + told_length rest ≤ length rest → behind ≡ drop (4 + told_length rest) rest → Counted payloads bytes behind (count + 1)
counted-next payloads bytes rest behind count c long after = next c.done c.todo c.parts c.fit c.number c.size c.begins where
  next : (done todo : List (List ℕ)) → payloads ≡ done ++ todo → AllByRecursion Fits todo → count ≡ length done
      → length bytes ≡ length (framed done) + length rest → rest ≡ take (length rest) (framed todo) → Counted payloads bytes behind (count + 1)
  next done [] parts fit number size begins = absurd (let none = ap length begins in omega (arith, length-take (length rest) (framed [])))
  next done (r ∷ rs) parts fit number size begins =
      let payload : List ℕ = r in
      let more : List ℕ = framed rs in
      let text : rest ≡ take (length rest) (frame payload ++ more) = begins ∙ ap (take (length rest)) (flat_map-cons frame r rs) in
      let told : told_length rest ≡ length payload = told-front payload more rest fit.0 text (omega arith) in
      let k : ℕ = length (frame payload) in
      let sized : k ≡ 4 + length payload = length-append (to_be_bytes w32 (length payload)) payload in
      let exactly : 4 + told_length rest ≡ k = omega (arith, told, sized) in
      let skipped : behind ≡ drop k rest = after ∙ ap (λ (n : ℕ). drop n rest) exactly in
      let left : ℕ = length rest - k in
      let exact : length rest ≡ k + left = omega (arith, long, exactly) in
      let others : drop k rest ≡ take left more =
      ap (drop k) (text ∙ ap (λ (n : ℕ). take n (frame payload ++ more)) exact) ∙ drop-take k left (frame payload ++ more)
      ∙ ap (take left) (drop_at (frame payload) more k refl) in
      let size' : length behind ≡ left = ap length skipped ∙ omega (arith, length-drop k rest) in
      record {
        done = done ++ r ∷ [];
        todo = rs;
        parts = parts ∙ sym (append_assoc done (r ∷ []) rs);
        fit = fit.1;
        number = omega (arith, length-append done (r ∷ []));
        size = omega (arith, text-snoc done r);
        begins = skipped ∙ others ∙ ap (λ (n : ℕ). take n more) (sym size');
      }

-- no further frame is whole
pub counted-all : (payloads : List (List ℕ)) (bytes rest : List ℕ) (count : ℕ) → Counted payloads bytes rest count
    → length rest < 4 + told_length rest → HasWhole payloads (length bytes) count
counted-all payloads bytes rest count c short = record {
  there = omega (arith, ap length c.parts, length-append c.done c.todo, c.number);
  whole = let front : take count payloads ≡ c.done = ap (take count) c.parts ∙ take_at c.done c.todo count (sym c.number) in
      let size : length (framed (take count payloads)) ≡ length (framed c.done) = ap (λ (l : List (List ℕ)). length (framed l)) front in
      omega (arith, c.size);
  cut = λ more. ends c.done c.todo c.parts c.fit c.number c.size c.begins more;
} where
  ends : (done todo : List (List ℕ)) → payloads ≡ done ++ todo → AllByRecursion Fits todo → count ≡ length done
      → length bytes ≡ length (framed done) + length rest → rest ≡ take (length rest) (framed todo) → count < length payloads
      → length bytes < length (framed (take (count + 1) payloads))
  ends done [] parts fit number size begins more = absurd (omega (arith, ap length parts, ap length (append-nil done)))
  ends done (r ∷ rs) parts fit number size begins more =
      let payload : List ℕ = r in
      let front : take (count + 1) payloads ≡ done ++ r ∷ [] =
      ap (take (count + 1)) (parts ∙ sym (append_assoc done (r ∷ []) rs)) ∙ take_at (done ++ r ∷ []) rs (count + 1) (omega (arith, length-append done (r ∷ []))) in
      let text : rest ≡ take (length rest) (frame payload ++ framed rs) = begins ∙ ap (take (length rest)) (flat_map-cons frame r rs) in
      let sized : length (frame r) ≡ 4 + length payload = length-append (to_be_bytes w32 (length payload)) payload in
      let grown : length (framed (take (count + 1) payloads)) ≡ length (framed done) + length (frame r) = ap (λ (l : List (List ℕ)). length (framed l)) front ∙ text-snoc done r in
      elim (cases_lt (length rest) 4) [
        | inl few ↦ omega (arith, size, grown, sized)
        | inr long ↦ omega (arith, size, grown, sized, short, told-front payload (framed rs) rest fit.0 text long)
      ]
