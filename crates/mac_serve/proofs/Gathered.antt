-- Payloads whose frames were gathered, and the frames that went out.
use Rattle.std.proofs.Common.{◌≡◌, ℕ, zero, suc, ◌+◌, ◌<◌, ◌≤◌, List, [], ◌∷◌, ◌++◌, length, take, drop, refl, sym, ap, ◌∙◌, append_assoc, inl, inr, arith}
use Rattle.std.specs.Prelude.{Some, slice_get}
use Rattle.std.proofs.lemmas.Bool.{cases_lt}
use Rattle.std.proofs.lemmas.List.{take_at, take_all, take-append-le, length-append, length-take-le, append-nil, take-append-drop}
use Rattle.std.proofs.lemmas.List.Concat.{flat_map-append}
use Rattle.mac_wire.specs.Frame.{frame, framed}
use Rattle.mac_wire.specs.Whole.{HasWhole}
use Rattle.mac_serve.specs.Gathered.{Gathered}

pub gathered-none : (payloads : List (List ℕ)) → Gathered payloads 0 0 0 []
gathered-none payloads = record { out = []; held = []; others = payloads; parts = refl; is_sent = refl; is_next = refl; is_written = refl; is_gathered = refl }

-- more payloads are to be released
pub gathered-longer : (payloads more : List (List ℕ)) (next sent written : ℕ) (gathered : List ℕ) → Gathered payloads next sent written gathered
    → Gathered (payloads ++ more) next sent written gathered
gathered-longer payloads more next sent written gathered g = record {
  out = g.out;
  held = g.held;
  others = g.others ++ more;
  parts = ap (λ (l : List (List ℕ)). l ++ more) g.parts ∙ append_assoc g.out (g.held ++ g.others) more ∙ ap (λ (l : List (List ℕ)). g.out ++ l) (append_assoc g.held g.others more);
  is_sent = g.is_sent;
  is_next = g.is_next;
  is_written = g.is_written;
  is_gathered = g.is_gathered;
}

-- the reply of the next place is the first of the others
others-first : (front others : List (List ℕ)) (n : ℕ) (r : List ℕ) → n ≡ length front → slice_get (front ++ others) n ≡ Some r
    → (rest : List (List ℕ)) × (others ≡ r ∷ rest)
others-first [] [] n r is_n at = absurd cc
others-first [] (x ∷ xs) n r is_n at =
    let here : Some x ≡ Some r = ap (slice_get (x ∷ xs)) (sym is_n) ∙ at in
    let same : x ≡ r = cc in
    (xs, ap (λ (y : List ℕ). y ∷ xs) same)
others-first (f ∷ fs) others zero r is_n at = absurd (omega arith)
others-first (f ∷ fs) others (suc n) r is_n at = others-first fs others n r (omega arith) at

-- the next reply is gathered
pub gathered-one : (payloads : List (List ℕ)) (next sent written : ℕ) (gathered gathered' : List ℕ) (r : List ℕ) → Gathered payloads next sent written gathered
    → slice_get payloads next ≡ Some r → gathered' ≡ gathered ++ frame r → Gathered payloads (next + 1) sent written gathered'
gathered-one payloads next sent written gathered gathered' r g at more =
    let front : payloads ≡ (g.out ++ g.held) ++ g.others = g.parts ∙ sym (append_assoc g.out g.held g.others) in
    let first = others-first (g.out ++ g.held) g.others next r (omega (arith, g.is_next, length-append g.out g.held))
    (ap (λ (l : List (List ℕ)). slice_get l next) (sym front) ∙ at) in
    record {
      out = g.out;
      held = g.held ++ r ∷ [];
      others = first.0;
      parts = g.parts ∙ ap (λ (l : List (List ℕ)). g.out ++ (g.held ++ l)) first.1 ∙ ap (λ (l : List (List ℕ)). g.out ++ l) (sym (append_assoc g.held (r ∷ []) first.0));
      is_sent = g.is_sent;
      is_next = omega (arith, g.is_next, length-append g.held (r ∷ []));
      is_written = g.is_written;
      is_gathered = more ∙ ap (λ (l : List ℕ). l ++ frame r) g.is_gathered ∙ ap (λ (l : List ℕ). framed g.held ++ l) (sym (append-nil (frame r)))
          ∙ sym (flat_map-append frame g.held (r ∷ []));
    }

-- all that was gathered went out
pub gathered-flushed : (payloads : List (List ℕ)) (next sent written : ℕ) (gathered : List ℕ) → Gathered payloads next sent written gathered
    → Gathered payloads next next (written + length gathered) []
gathered-flushed payloads next sent written gathered g =
    let text : framed (g.out ++ g.held) ≡ framed g.out ++ framed g.held = flat_map-append frame g.out g.held in
    let size = ap length text in
    let held = ap length g.is_gathered in
    record {
      out = g.out ++ g.held;
      held = [];
      others = g.others;
      parts = g.parts ∙ sym (append_assoc g.out g.held g.others);
      is_sent = omega (arith, g.is_next, length-append g.out g.held);
      is_next = omega (arith, g.is_next, length-append g.out g.held);
      is_written = omega (arith, size, held, g.is_written, length-append (framed g.out) (framed g.held));
      is_gathered = refl;
    }

-- what went out are the frames of the first payloads
pub gathered-sent : (payloads : List (List ℕ)) (next sent written : ℕ) (gathered : List ℕ) → Gathered payloads next sent written gathered
    → (sent ≤ length payloads) × (take written (framed payloads) ≡ framed (take sent payloads))
gathered-sent payloads next sent written gathered g =
    let rest = g.held ++ g.others in
    let front : take sent payloads ≡ g.out = ap (take sent) g.parts ∙ take_at g.out rest sent (sym g.is_sent) in (
      (let size = ap length g.parts in omega (arith, size, length-append g.out rest, g.is_sent)),
      ap (λ (l : List (List ℕ)). take written (framed l)) g.parts ∙ ap (take written) (flat_map-append frame g.out rest)
          ∙ take_at (framed g.out) (framed rest) written (sym g.is_written) ∙ ap framed (sym front),
    )

-- a beginning of what is gathered goes on with what went out
pub gathered-begins : (payloads : List (List ℕ)) (next sent written n : ℕ) (gathered : List ℕ) → Gathered payloads next sent written gathered → n ≤ length gathered
    → take (written + n) (framed payloads) ≡ take written (framed payloads) ++ take n gathered
gathered-begins payloads next sent written n gathered g within =
    let rest = g.held ++ g.others in
    let text : framed payloads ≡ framed g.out ++ (gathered ++ framed g.others) =
    ap framed g.parts ∙ flat_map-append frame g.out rest
    ∙ ap (λ (l : List ℕ). framed g.out ++ l) (flat_map-append frame g.held g.others ∙ ap (λ (l : List ℕ). l ++ framed g.others) (sym g.is_gathered)) in
    let split : gathered ≡ take n gathered ++ drop n gathered = sym (take-append-drop n gathered) in
    let tail : List ℕ = drop n gathered ++ framed g.others in
    let cut : framed payloads ≡ (framed g.out ++ take n gathered) ++ tail =
    text ∙ ap (λ (l : List ℕ). framed g.out ++ (l ++ framed g.others)) split
    ∙ ap (λ (l : List ℕ). framed g.out ++ l) (append_assoc (take n gathered) (drop n gathered) (framed g.others))
    ∙ sym (append_assoc (framed g.out) (take n gathered) tail) in
    let size : length (framed g.out ++ take n gathered) ≡ written + n =
    length-append (framed g.out) (take n gathered) ∙ omega (arith, g.is_written, length-take-le n gathered within) in
    let front : take written (framed payloads) ≡ framed g.out = ap (take written) text ∙ take_at (framed g.out) (gathered ++ framed g.others) written (sym g.is_written) in
    ap (take (written + n)) cut ∙ take_at (framed g.out ++ take n gathered) tail (written + n) size ∙ ap (λ (l : List ℕ). l ++ take n gathered) (sym front)

-- the frames that are out, and the first k of those that are gathered
gathered-front : (payloads out held others : List (List ℕ)) (sent k : ℕ) → payloads ≡ out ++ (held ++ others) → sent ≡ length out → k ≤ length held
    → length (framed (take (sent + k) payloads)) ≡ length (framed out) + length (framed (take k held))
gathered-front payloads out held others sent k parts is_sent within =
    let tail : List (List ℕ) = drop k held ++ others in
    let cut : payloads ≡ (out ++ take k held) ++ tail =
    parts ∙ ap (λ (l : List (List ℕ)). out ++ (l ++ others)) (sym (take-append-drop k held))
    ∙ ap (λ (l : List (List ℕ)). out ++ l) (append_assoc (take k held) (drop k held) others)
    ∙ sym (append_assoc out (take k held) tail) in
    let size : length (out ++ take k held) ≡ sent + k = length-append out (take k held) ∙ omega (arith, is_sent, length-take-le k held within) in
    let front : take (sent + k) payloads ≡ out ++ take k held = ap (take (sent + k)) cut ∙ take_at (out ++ take k held) tail (sent + k) size in
    ap (λ (l : List (List ℕ)). length (framed l)) front ∙ ap length (flat_map-append frame out (take k held))
    ∙ length-append (framed out) (framed (take k held))

-- where a beginning of what is gathered went out, so many frames are out whole
pub gathered-cut : (payloads : List (List ℕ)) (next sent written n count : ℕ) (gathered : List ℕ) (g : Gathered payloads next sent written gathered) → n < length gathered
    → HasWhole g.held n count → HasWhole payloads (written + n) (sent + count)
gathered-cut payloads next sent written n count gathered g cut h =
    let size = ap length g.is_gathered in
    let few : count < length g.held = elim (cases_lt count (length g.held)) [
      | inl less ↦ less
      | inr all ↦ absurd (
          let whole : length (framed (take count g.held)) ≡ length (framed g.held) = ap (λ (l : List (List ℕ)). length (framed l)) (take_all count g.held all) in
          omega (arith, whole, h.whole, size, cut))
    ] in
    let front = gathered-front payloads g.out g.held g.others sent in
    record {
      there = (let long = ap length g.parts in omega (arith, long, length-append g.out (g.held ++ g.others), length-append g.held g.others, g.is_sent, few));
      whole = omega (arith, front count g.parts g.is_sent h.there, h.whole, g.is_written);
      cut = λ more.
          let one_more = front (count + 1) g.parts g.is_sent (omega (arith, few)) in
          let same : length (framed (take (sent + (count + 1)) payloads)) ≡ length (framed (take (sent + count + 1) payloads)) =
          ap (λ (k : ℕ). length (framed (take k payloads))) (omega arith) in
          omega (arith, same, one_more, h.cut few, g.is_written);
    }

-- a frame is not empty
text-grows-suc : (payloads : List (List ℕ)) (n : ℕ) → n < length payloads → length (framed (take n payloads)) < length (framed (take (suc n) payloads))
text-grows-suc [] n within = absurd (omega arith)
text-grows-suc (r ∷ rs) zero within = omega arith
text-grows-suc (r ∷ rs) (suc n) within =
    omega (arith, text-grows-suc rs n (omega arith), length-append r (framed (take n rs)), length-append r (framed (take (suc n) rs)))

text-grows : (payloads : List (List ℕ)) (n : ℕ) → n < length payloads → length (framed (take n payloads)) < length (framed (take (n + 1) payloads))
text-grows payloads n within =
    let same : suc n ≡ n + 1 = omega arith in
    let size = ap (λ (k : ℕ). length (framed (take k payloads))) same in
    omega (arith, size, text-grows-suc payloads n within)

-- what went out are whole frames
pub gathered-whole : (payloads : List (List ℕ)) (next sent written : ℕ) (gathered : List ℕ) → Gathered payloads next sent written gathered
    → HasWhole payloads written sent × (written ≤ length (framed payloads))
gathered-whole payloads next sent written gathered g =
    let rest = g.held ++ g.others in
    let long = ap length g.parts in
    let front : take sent payloads ≡ g.out = ap (take sent) g.parts ∙ take_at g.out rest sent (sym g.is_sent) in
    let size : length (framed (take sent payloads)) ≡ written = ap (λ (l : List (List ℕ)). length (framed l)) front ∙ sym g.is_written in
    let all = ap (λ (l : List (List ℕ)). length (framed l)) g.parts in (
      record {
        there = omega (arith, long, length-append g.out rest, g.is_sent);
        whole = omega (arith, size);
        cut = λ more. omega (arith, size, text-grows payloads sent more);
      },
      omega (arith, all, ap length (flat_map-append frame g.out rest), length-append (framed g.out) (framed rest), g.is_written),
    )

-- among more payloads as many are whole
pub whole-longer : (payloads more : List (List ℕ)) (n count : ℕ) → HasWhole payloads n count → n ≤ length (framed payloads) → HasWhole (payloads ++ more) n count
whole-longer payloads more n count h within =
    let same : (k : ℕ) → k ≤ length payloads → take k (payloads ++ more) ≡ take k payloads = λ k few. take-append-le k payloads more few in
    record {
      there = omega (arith, h.there, length-append payloads more);
      whole = (let front = ap (λ (l : List (List ℕ)). length (framed l)) (same count h.there) in omega (arith, front, h.whole));
      cut = λ among. elim (cases_lt count (length payloads)) [
        | inl few ↦ (let front = ap (λ (l : List (List ℕ)). length (framed l)) (same (count + 1) (omega (arith, few))) in omega (arith, front, h.cut few))
        | inr all ↦ (
            let whole : length (framed (take count payloads)) ≡ length (framed payloads) = ap (λ (l : List (List ℕ)). length (framed l)) (take_all count payloads all) in
            let front = ap (λ (l : List (List ℕ)). length (framed l)) (same count h.there) in
            omega (arith, front, whole, h.whole, within, text-grows (payloads ++ more) count among))
      ];
    }
