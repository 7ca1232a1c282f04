-- Requests, where they lie, and whose they are.
use Rattle.std.proofs.Common.{◌≡◌, ℕ, ◌+◌, ◌-◌, ◌≤◌, List, [], ◌∷◌, ◌++◌, length, map, take, drop, refl, sym, ap, subst, ◌∙◌, append_assoc, arith}
use Rattle.std.specs.Prelude.{false}
use Rattle.std.proofs.lemmas.List.{append-nil, length-drop, length-take, drop-drop, map-append}
use Rattle.std.proofs.lemmas.List.Elements.{All-append, All-nil}
use Rattle.mac_wire.specs.declared.arrival.Arrival.{Arrival}
use Rattle.mac_wire.specs.declared.arrival.Arrival.TheVariants as arrival
use Rattle.mac_wire.specs.Frame.{Arrive, told_length}
use Rattle.mac_wire.specs.Cut.{IsFront}
use Rattle.mac_wire.proofs.Sessions.{arrive_both, front_arrives}
use Rattle.mac_plain.specs.Goes.{asked}
use Rattle.mac_plain.specs.Requests.{AreOwned, AreWithin, payload_at}
use Rattle.mac_plain.specs.Receiving.{CutsTo}
use Rattle.mac_plain.specs.declared.request.RoundRequest.{RoundRequest}
use Rattle.mac_wire.specs.declared.arrival.TheConstants.{FRAME_MAX}
use Rattle.mac_plain.specs.Dear.{AreCheap, is_dear}

-- ---- cutting

pub owned-append : (owner : ℕ) (a b : List RoundRequest) → AreOwned owner a → AreOwned owner b → AreOwned owner (a ++ b)
owned-append owner [] b x y = y
owned-append owner (r ∷ a) b x y = (x.0, owned-append owner a b x.1 y)

within_one : (room : ℕ) (r : RoundRequest) → r.start ≤ r.end → r.end ≤ room → AreWithin room (r ∷ [])
within_one room r a b = λ k d below. rw (let zero_is : k ≡ 0 = omega arith in zero_is) (a, b)

one_cheap : (p : List ℕ) → is_dear p ≡ false → AreCheap (p ∷ [])
one_cheap p kept = λ k d below. rw (let zero_is : k ≡ 0 = omega arith in zero_is) kept

pub cuts_begin : (arena : List ℕ) (from owner : ℕ) (requests : List RoundRequest) → from ≤ length arena → CutsTo arena from from owner requests requests
cuts_begin arena from owner requests inside = record {
  own = [];
  adds = record { are = sym (append-nil requests); owned = tt; within = All-nil (λ (r : RoundRequest). (r.start ≤ r.end) × (r.end ≤ length arena)) };
  ahead = omega arith;
  inside = inside;
  arrive = λ more. refl;
  cheap = All-nil (λ (p : List ℕ). is_dear p ≡ false);
}

-- one more request was cut off
pub cuts_next : (arena : List ℕ) (from at end start owner : ℕ) (before after : List RoundRequest) (payload rest : List ℕ)
    → CutsTo arena from at owner before after → IsFront FRAME_MAX (drop at arena) payload rest → is_dear payload ≡ false
    → end ≡ length arena - length rest → start ≡ end - length payload
    → CutsTo arena from end owner before (after ++ record { owner = owner; start = start; end = end } ∷ [])
cuts_next arena from at end start owner before after payload rest c f kept end_is start_is =
    let r : RoundRequest = record { owner = owner; start = start; end = end } in
    let told : ℕ = told_length (drop at arena) in
    let size : length (drop at arena) ≡ length arena - at = length-drop at arena in
    let behind : length rest ≡ (length arena - at) - (4 + told) = ap length f.rest_is ∙ length-drop (4 + told) (drop at arena) ∙ ap (λ (n : ℕ). n - (4 + told)) size in
    let body : length (drop 4 (drop at arena)) ≡ (length arena - at) - 4 = length-drop 4 (drop at arena) ∙ ap (λ (n : ℕ). n - 4) size in
    let long : length payload ≡ told = ap length f.payload_is ∙ omega (arith, length-take told (drop 4 (drop at arena)), body, f.whole, size) in
    let ends : end ≡ at + (4 + told) = omega (arith, behind, f.whole, size, c.inside, end_is) in
    let starts : start ≡ at + 4 = omega (arith, ends, long, start_is) in
    let lies : payload_at arena r ≡ payload =
    ap (λ (n : ℕ). take n (drop start arena)) (let e : end - start ≡ told = omega (arith, ends, starts) in e)
    ∙ ap (λ (n : ℕ). take told (drop n arena)) starts ∙ ap (take told) (sym (drop-drop 4 at arena)) ∙ sym f.payload_is in
    let left : rest ≡ drop end arena = f.rest_is ∙ drop-drop (4 + told) at arena ∙ ap (λ (n : ℕ). drop n arena) (sym ends) in
    record {
      own = c.own ++ r ∷ [];
      adds = record {
        are = ap (λ (l : List RoundRequest). l ++ r ∷ []) c.adds.are ∙ append_assoc before c.own (r ∷ []);
        owned = owned-append owner c.own (r ∷ []) c.adds.owned (refl, tt);
        within = All-append (λ (q : RoundRequest). (q.start ≤ q.end) × (q.end ≤ length arena)) c.own (r ∷ []) c.adds.within
            (within_one (length arena) r (omega (arith, ends, starts)) (omega (arith, end_is)));
      };
      ahead = omega (arith, c.ahead, ends);
      inside = omega (arith, end_is);
      cheap = subst AreCheap (sym (map-append (payload_at arena) c.own (r ∷ [])))
          (All-append (λ (p : List ℕ). is_dear p ≡ false) (map (payload_at arena) c.own) (payload_at arena r ∷ []) c.cheap (one_cheap (payload_at arena r) (ap is_dear lies ∙ kept)));
      arrive = subst (λ (l : List Arrival). Arrive (drop from arena) l (drop end arena))
          (ap (λ (p : List ℕ). asked (map (payload_at arena) c.own) ++ arrival.Payload p ∷ []) (sym lies)
          ∙ sym (map-append (λ (p : List ℕ). arrival.Payload p) (map (payload_at arena) c.own) (payload_at arena r ∷ []))
          ∙ ap asked (sym (map-append (payload_at arena) c.own (r ∷ []))))
          (arrive_both (drop from arena) (drop at arena) (drop end arena) (asked (map (payload_at arena) c.own)) (arrival.Payload payload ∷ []) c.arrive
          (subst (Arrive (drop at arena) (arrival.Payload payload ∷ [])) left (front_arrives FRAME_MAX (drop at arena) payload rest (omega arith) f)));
    }
