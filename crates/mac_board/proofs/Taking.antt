-- Tables that are taken one after the other.
use Rattle.std.proofs.Common.{◌≡◌, ℕ, zero, suc, ◌≤◌, List, [], ◌∷◌, ◌++◌, slice_get, sym, ap, subst, ◌∙◌, arith, append_assoc, append-nil, le_refl}
use Rattle.std.specs.Prelude.{Bool, Some, All}
use Rattle.std.proofs.lemmas.List.Elements.{All-nil, All-cons}
use Rattle.mac_keys.specs.KeyTable.{Table}
use Rattle.mac_board.specs.Follows.{Known, Begins, Takes, Follows, StandIn, AreInOrder}
use Rattle.mac_board.proofs.Board.{begins-more, begins-same, begins-get}

follows-longer : (log longer : List Table) (from : ℕ) (places : List ℕ) (tables : List Table) (to : ℕ) → Begins log longer → Follows log from places tables to → Follows longer from places tables to
follows-longer log longer from [] [] to more h = h
follows-longer log longer from [] (t ∷ ts) to more h = absurd h
follows-longer log longer from (p ∷ ps) [] to more h = absurd h
follows-longer log longer from (p ∷ ps) (t ∷ ts) to more h = (h.0, begins-get log longer p t more h.1, follows-longer log longer p ps ts to more h.2)

pub in-order : (tells : Bool) (before after : Known) (tables : List Table) → Takes tells before after tables → AreInOrder tells before after tables
in-order tells before after [] is = record {
  begins = subst (λ (k : Known). Begins before.published k.published) (sym is) (begins-same before.published);
  places = [];
  follows = subst (λ (k : Known). before.place ≤ k.place) (sym is) (le_refl before.place);
  looks = λ told. ap (λ (k : Known). k.looks) is ∙ sym (append-nil before.looks);
}
in-order tells before after (t ∷ tables) (now, looked, up, rest) =
    let h = in-order tells now after tables rest in
    record {
      begins = begins-more before.published now.published after.published looked.begins h.begins;
      places = now.place ∷ h.places;
      follows = (looked.ahead, begins-get now.published after.published now.place t h.begins up, h.follows);
      looks = λ told. h.looks told ∙ ap (λ (l : List ℕ). l ++ h.places) (looked.told told) ∙ append_assoc before.looks (now.place ∷ []) h.places;
    }

only-one : (n : ℕ) (t table : Table) → slice_get (table ∷ []) n ≡ Some t → t ≡ table
only-one zero t table is = cc
only-one (suc n) t table is = absurd cc

pub one-taken : (tells : Bool) (before after : Known) (table : Table) (tables : List Table) → after.published ≡ table ∷ [] → Takes tells before after tables → All (λ taken. taken ≡ table) tables
one-taken tells before after table [] one is = All-nil (λ (taken : Table). taken ≡ table)
one-taken tells before after table (t ∷ tables) one (now, looked, up, rest) =
    let h = in-order tells now after tables rest in
    let at : slice_get after.published now.place ≡ Some t = begins-get now.published after.published now.place t h.begins up in
    All-cons (λ (taken : Table). taken ≡ table) t tables (only-one now.place t table (subst (λ (l : List Table). slice_get l now.place ≡ Some t) one at))
    (one-taken tells now after table tables one rest)

follows-earlier : (log : List Table) (from next : ℕ) (places : List ℕ) (tables : List Table) (to : ℕ) → from ≤ next → Follows log next places tables to → Follows log from places tables to
follows-earlier log from next [] [] to less h = omega (arith, less, h)
follows-earlier log from next [] (t ∷ ts) to less h = absurd h
follows-earlier log from next (p ∷ ps) [] to less h = absurd h
follows-earlier log from next (p ∷ ps) (t ∷ ts) to less h = let ahead = h.0 in (omega (arith, less, ahead), h.1, h.2)

follows-more : (log : List Table) (from : ℕ) (places : List ℕ) (tables : List Table) (last next : ℕ) (others : List ℕ) (more : List Table) (to : ℕ)
    → Follows log from places tables last → last ≤ next → Follows log next others more to → Follows log from (places ++ others) (tables ++ more) to
follows-more log from [] [] last next others more to h less then = follows-earlier log from next others more to (omega (arith, h, less)) then
follows-more log from [] (t ∷ ts) last next others more to h less then = absurd h
follows-more log from (p ∷ ps) [] last next others more to h less then = absurd h
follows-more log from (p ∷ ps) (t ∷ ts) last next others more to h less then = (h.0, h.1, follows-more log p ps ts last next others more to h.2 less then)

-- tables that one took, and then another
pub goes-on : (tells : Bool) (log : List Table) (first last next end : Known) (tables more : List Table) → Takes tells first last tables → Takes tells next end more
    → Begins last.published log → Begins end.published log → last.place ≤ next.place → StandIn log first.place (tables ++ more) end.place
goes-on tells log first last next end tables more one other here there less =
    let a = in-order tells first last tables one in
    let b = in-order tells next end more other in (
      a.places ++ b.places,
      follows-more log first.place a.places tables last.place next.place b.places more end.place
          (follows-longer last.published log first.place a.places tables last.place here a.follows) less
          (follows-longer end.published log next.place b.places more end.place there b.follows),
    )
