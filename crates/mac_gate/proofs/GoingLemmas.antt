-- How connections go on, and stay in their slots.
use Rattle.std.proofs.Common.{◌≡◌, ◌≢◌, ℕ, zero, suc, true, false, ◌||◌, nat_lt, cond, List, [], ◌∷◌, ◌++◌, Option, None, Some, Result, Ok, Err, OnOk, IsOk, ◌↔◌, inl, inr, refl, sym, ap, subst, ◌∙◌, append-nil, append_assoc, slice_index_or, slice_set}
use Rattle.std.specs.Prelude.{IfNone, IfSome, option_map}
use Rattle.std.proofs.Math.Logic.{∥∥₁_map}
use Rattle.std.proofs.lemmas.Bool.Decides.{eqb_tells}
use Rattle.std.proofs.lemmas.List.{get_or-set_other}
use Rattle.http_server.specs.Connection.{history}
use Rattle.http_server.specs.Exchange.{Call}
use Rattle.http_server.specs.declared.connection.Connection.{Connection}
use Rattle.mac_slots.specs.Slots.{Slot, Slots, Free, Lent, Held, at, held, is_free, times, with_held, with_listed, Becomes}
use Rattle.mac_gate.specs.declared.connection.HttpConnection.{HttpConnection}
use Rattle.mac_sockets.specs.Connections.{IsStillAlike, StayAlike}
use Rattle.mac_gate.specs.Going.{AreOffered, Begins, GoesOn, IsKept, KeepTheirs, Past, StayInPlace, TakesIn, past_at, past_of}
use Rattle.mac_gate.specs.Lives.{Adds, IsTurnBy}
use Rattle.mac_gate.specs.declared.flow.Flow.{Flow}
use Rattle.mac_gate.specs.declared.offer.Offer.{Offer}

module _ {X : Type 0} where
  begins-same : (xs : List X) → Begins xs xs
  begins-same xs = ([], sym (append-nil xs))

  begins-then : (xs ys zs : List X) → Begins xs ys → Begins ys zs → Begins xs zs
  begins-then xs ys zs one two =
      (one.0 ++ two.0, two.1 ∙ ap (λ (l : List X). l ++ two.0) one.1 ∙ append_assoc xs one.0 two.0)

-- one that is left as it was
pub goes-same : (past : Past) → GoesOn past past
goes-same past = record {
  stream = refl;
  offer = refl;
  came = begins-same past.came;
  went = begins-same past.went;
  called = begins-same past.calls;
}

pub goes-alike : (before after : Past) → after ≡ before → GoesOn before after
goes-alike before after same = subst (λ (p : Past). GoesOn before p) (sym same) (goes-same before)

-- one step behind the other
pub goes-then : (a b c : Past) → GoesOn a b → GoesOn b c → GoesOn a c
goes-then a b c one two = record {
  stream = two.stream ∙ one.stream;
  offer = two.offer ∙ one.offer;
  came = begins-then a.came b.came c.came one.came two.came;
  went = begins-then a.went b.went c.went one.went two.went;
  called = begins-then a.calls b.calls c.calls one.called two.called;
}

-- one step, and one that may end the connection
pub goes-further : (a b : Past) (result : Option HttpConnection) → GoesOn a b → IfSome result (λ after. GoesOn b (past_of after)) → IfSome result (λ after. GoesOn a (past_of after))
goes-further a b None one two = tt
goes-further a b (Some after) one two = goes-then a b (past_of after) one two

-- a step, told of what is had behind it
pub goes-ended : (before mid after : Past) → after ≡ mid → GoesOn before mid → GoesOn before after
goes-ended before mid after same goes = subst (λ (p : Past). GoesOn before p) (sym same) goes

-- a read
pub goes-read : (before : Past) (old new : Flow) (heard : List ℕ) → before.came ≡ old.came.bytes → before.went ≡ old.went.bytes → Adds old heard new → new.went.bytes ≡ old.went.bytes
    → GoesOn before (record before { came = new.came.bytes; went = new.went.bytes })
goes-read before old new heard came went adds same = record {
  stream = refl;
  offer = refl;
  came = (adds.0, adds.1 ∙ ap (λ (l : List ℕ). l ++ adds.0) (sym came));
  went = ([], same ∙ sym went ∙ sym (append-nil before.went));
  called = begins-same before.calls;
}

-- what a turn answers and writes
pub goes-turned : (AreRight : List Call → Type 0) (heard left after : List ℕ) (old new : Connection) (before : Past) → before.calls ≡ (history old).calls
    → IsTurnBy AreRight heard left before.went after old new → GoesOn before (record before { went = after; calls = (history new).calls })
goes-turned AreRight heard left after old new before calls turn = record {
  stream = refl;
  offer = refl;
  came = begins-same before.came;
  went = (turn.written.0, turn.written.1);
  called = (turn.called.0, turn.called.1 ∙ ap (λ (l : List Call). l ++ turn.called.0) (sym calls));
}

kept-same : (past : Option Past) → IsKept past past
kept-same None = tt
kept-same (Some past) = goes-same past

kept-then : (a b c : Option Past) → IsKept a b → IsKept b c → IsKept a c
kept-then a b None one two = tt
kept-then a None (Some past) one two = absurd two
kept-then None (Some b) (Some past) one two = absurd one
kept-then (Some a) (Some b) (Some past) one two = goes-then a b past one two

-- slots that are left as they were, and one step behind the other
pub stay : (slots : Slots HttpConnection) → StayInPlace slots slots
stay slots slot = kept-same (past_at slots slot)

pub stay-then : (a b c : Slots HttpConnection) → StayInPlace a b → StayInPlace b c → StayInPlace a c
stay-then a b c one two slot = kept-then (past_at a slot) (past_at b slot) (past_at c slot) (one slot) (two slot)

-- where one slot changes, it is enough to look at that one
pub stay-but : (old new : Slots HttpConnection) (slot : ℕ) → ((other : ℕ) → other ≢ slot → at new other ≡ at old other) → IsKept (past_at old slot) (past_at new slot) → StayInPlace old new
stay-but old new slot others kept other = elim (eqb_tells other slot) [
  | inl same ↦ subst (λ (k : ℕ). IsKept (past_at old k) (past_at new k)) (sym same.1) kept
  | inr apart ↦ subst (λ (s : Slot HttpConnection). IsKept (past_at old other) (option_map past_of (held s))) (sym (others other apart.1)) (kept-same (past_at old other))
]

-- who keep what they had go on
pub stay-keep : (old new : Slots HttpConnection) → KeepTheirs old new → StayInPlace old new
stay-keep old new keep slot = subst (λ (p : Option Past). IsKept (past_at old slot) p) (sym (keep slot)) (kept-same (past_at old slot))

-- slots that are left as they were, and one step behind the other
pub keep : (old new : Slots HttpConnection) → new ≡ old → KeepTheirs old new
keep old new same slot = ap (λ (s : Slots HttpConnection). past_at s slot) same

pub keep-then : (a b c : Slots HttpConnection) → KeepTheirs a b → KeepTheirs b c → KeepTheirs a c
keep-then a b c one two slot = two slot ∙ one slot

-- a slot is listed
pub keep-listed : (slots : Slots HttpConnection) (slot : ℕ) → KeepTheirs slots (with_listed slots slot)
keep-listed slots slot = elim (is_free (at slots slot) || nat_lt 0 (times slot slots.ready)) as (λ is. KeepTheirs slots (cond is slots (record slots { ready = slots.ready ++ slot ∷ [] }))) [
  | true ↦ λ other. refl
  | false ↦ λ other. refl
]

-- a slot is left
pub stay-left : (old new : Slots HttpConnection) (slot : ℕ) (is : Slot HttpConnection) (ready : List ℕ) → held is ≡ None → Becomes old new slot is ready → StayInPlace old new
stay-left old new slot is ready none b =
    stay-but old new slot b.others
    (subst (λ (p : Option Past). IsKept (past_at old slot) p) (sym (ap (λ (s : Slot HttpConnection). option_map past_of (held s)) b.this ∙ ap (λ (h : Option HttpConnection). option_map past_of h) none)) tt)

set-there : (slots : List (Slot HttpConnection)) (slot : ℕ) (before after : HttpConnection) → held (slice_index_or slots slot Free) ≡ Some before
    → slice_index_or (slice_set slots slot (Held after)) slot Free ≡ Held after
set-there [] slot before after is = absurd cc
set-there (one ∷ slots) zero before after is = refl
set-there (one ∷ slots) (suc slot) before after is = set-there slots slot before after is

-- a connection changes in its place, and keeps what it had
pub keep-changed : (slots : Slots HttpConnection) (slot : ℕ) (before after : HttpConnection) → Some before ≡ held (at slots slot) → past_of after ≡ past_of before
    → KeepTheirs slots (with_held slots slot after)
keep-changed slots slot before after is same other = elim (eqb_tells other slot) [
  | inl here ↦
      let there = set-there slots.slots slot before after (sym is) in
      let at_slot : past_at (with_held slots slot after) slot ≡ past_at slots slot = ap (λ (s : Slot HttpConnection). option_map past_of (held s)) there ∙ ap (λ (p : Past). Some p) same ∙ ap (λ (h : Option HttpConnection). option_map past_of h) is in
      subst (λ (k : ℕ). past_at (with_held slots slot after) k ≡ past_at slots k) (sym here.1) at_slot
  | inr apart ↦ ap (λ (s : Slot HttpConnection). option_map past_of (held s)) (get_or-set_other slots.slots slot other (Held after) Free apart.1)
]

-- a connection is put where its slot is lent
pub put-there : {X : Type 0} (old new : Slots HttpConnection) (slot : ℕ) (one : HttpConnection) (put : Result X HttpConnection)
    → (IsOk put ↔ (at old slot ≡ Lent)) → OnOk put (Becomes old new slot (Held one) old.ready) → at old slot ≡ Lent → Becomes old new slot (Held one) old.ready
put-there old new slot one (Ok x) told there lent = there
put-there old new slot one (Err back) told there lent = let no : false ≡ true = told.1 lent in absurd cc

-- a connection leaves its slot for a turn and comes back
pub stay-back : (old mid new : Slots HttpConnection) (slot : ℕ) (ready : List ℕ) (before : HttpConnection) (after : Past) → Some before ≡ held (at old slot) → GoesOn (past_of before) after
    → Becomes old mid slot Lent ready → past_at new slot ≡ Some after → ((other : ℕ) → other ≢ slot → at new other ≡ at mid other) → StayInPlace old new
stay-back old mid new slot ready before after is goes lent there others =
    let was : Some (past_of before) ≡ past_at old slot = ap (λ (h : Option HttpConnection). option_map past_of h) is in
    stay-but old new slot (λ other apart. others other apart ∙ lent.others other apart)
    (subst (λ (p : Option Past). IsKept p (past_at new slot)) was (subst (λ (p : Option Past). IsKept (Some (past_of before)) p) (sym there) goes))

-- what had the connection of a slot that is lent now
pub past_here : (slots : Slots HttpConnection) (slot : ℕ) (one : HttpConnection) → Some one ≡ held (at slots slot) → past_at slots slot ≡ Some (past_of one)
past_here slots slot one is = sym (ap (λ (h : Option HttpConnection). option_map past_of h) is)

pub past_lent : (old new : Slots HttpConnection) (slot : ℕ) (ready : List ℕ) → Becomes old new slot Lent ready → past_at new slot ≡ None
past_lent old new slot ready b = ap (λ (s : Slot HttpConnection). option_map past_of (held s)) b.this

-- where nobody was, nobody is
none_kept : (after : Option Past) → IsKept None after → after ≡ None
none_kept None kept = refl
none_kept (Some after) kept = absurd kept

pub none_stays : (before after : Option Past) → before ≡ None → IsKept before after → after ≡ None
none_stays before after none kept = none_kept after (subst (λ (p : Option Past). IsKept p after) none kept)

-- a connection leaves its slot for a turn and doesn't come back
pub stay-gone : (old mid new : Slots HttpConnection) (slot : ℕ) (ready : List ℕ) → Becomes old mid slot Lent ready → past_at new slot ≡ None
    → ((other : ℕ) → other ≢ slot → at new other ≡ at mid other) → StayInPlace old new
stay-gone old mid new slot ready lent none others =
    stay-but old new slot (λ other apart. others other apart ∙ lent.others other apart)
    (subst (λ (p : Option Past). IsKept (past_at old slot) p) (sym none) tt)

-- a slot from which nothing is taken
pub untaken : (old new : Slots HttpConnection) (taken : Option HttpConnection) → taken ≡ None → IfNone taken (new ≡ old) → new ≡ old
untaken old new None is same = same
untaken old new (Some one) is same = absurd cc

-- slots that change in which are ready alone
pub keep-ready : (old new : Slots HttpConnection) (ready : List ℕ) → new ≡ record old { ready = ready } → KeepTheirs old new
keep-ready old new ready same slot = ap (λ (s : Slots HttpConnection). past_at s slot) same

-- connections that are told of events
still_keeps : (old new : Option HttpConnection) → IsStillAlike (λ (one other : HttpConnection). past_of other ≡ past_of one) old new → option_map past_of new ≡ option_map past_of old
still_keeps None None still = refl
still_keeps None (Some new) still = absurd still
still_keeps (Some old) None still = absurd still
still_keeps (Some old) (Some new) still = ap (λ (p : Past). Some p) (still old refl)

pub keep-alike : (old new : Slots HttpConnection) → StayAlike (λ (one other : HttpConnection). past_of other ≡ past_of one) old new → KeepTheirs old new
keep-alike old new alike slot = still_keeps (held (at old slot)) (held (at new slot)) (alike slot)

-- a step that keeps what each has, behind one that leaves each in its place
pub stay-kept : (a b c : Slots HttpConnection) → StayInPlace a b → KeepTheirs b c → StayInPlace a c
stay-kept a b c one two = stay-then a b c one (stay-keep b c two)

-- nobody comes in
pub takes-none : (one : Past) (old new : Slots HttpConnection) → new ≡ old → TakesIn one old new
takes-none one old new same slot = inl (ap (λ (s : Slots HttpConnection). past_at s slot) same)

-- a slot is had, and left again
pub takes-left : (one : Past) (old mid new : Slots HttpConnection) (slot : ℕ) (ready rest : List ℕ) → at old slot ≡ Free → Becomes old mid slot Lent ready → Becomes mid new slot Free rest → TakesIn one old new
takes-left one old mid new slot ready rest free had left other = elim (eqb_tells other slot) [
  | inl same ↦ inl (subst (λ (k : ℕ). past_at new k ≡ past_at old k) (sym same.1) (ap (λ (s : Slot HttpConnection). option_map past_of (held s)) (left.this ∙ sym free)))
  | inr apart ↦ inl (ap (λ (s : Slot HttpConnection). option_map past_of (held s)) (left.others other apart.1 ∙ had.others other apart.1))
]

-- one comes into a slot that nobody was in
pub takes-in : (one : HttpConnection) (old mid put new : Slots HttpConnection) (slot : ℕ) (ready rest : List ℕ) → at old slot ≡ Free → Becomes old mid slot Lent ready → Becomes mid put slot (Held one) rest
    → KeepTheirs put new → TakesIn (past_of one) old new
takes-in one old mid put new slot ready rest free had is keeps other = elim (eqb_tells other slot) [
  | inl same ↦ inr (
    ap (λ (s : Slot HttpConnection). option_map past_of (held s)) (ap (λ (k : ℕ). at old k) same.1 ∙ free),
    keeps other ∙ ap (λ (s : Slot HttpConnection). option_map past_of (held s)) (ap (λ (k : ℕ). at put k) same.1 ∙ is.this),
  )
  | inr apart ↦ inl (keeps other ∙ ap (λ (s : Slot HttpConnection). option_map past_of (held s)) (is.others other apart.1 ∙ had.others other apart.1))
]

offered_kept : (offer : Offer) (old new : Option Past) → IsKept old new → IfSome old (λ past. past.offer ≡ offer) → IfSome new (λ past. past.offer ≡ offer)
offered_kept offer old None kept is = tt
offered_kept offer None (Some new) kept is = absurd kept
offered_kept offer (Some old) (Some new) kept is = kept.offer ∙ is

offered_stay : (offer : Offer) (old new : Slots HttpConnection) → StayInPlace old new → AreOffered offer old → AreOffered offer new
offered_stay offer old new stays are slot = offered_kept offer (past_at old slot) (past_at new slot) (stays slot) (are slot)

offered_in : (offer : Offer) (one : Past) (old new : Slots HttpConnection) → one.offer ≡ offer → TakesIn one old new → AreOffered offer old → AreOffered offer new
offered_in offer one old new is takes are slot = elim (takes slot) [
  | inl same ↦ subst (λ (p : Option Past). IfSome p (λ past. past.offer ≡ offer)) (sym same) (are slot)
  | inr came ↦ subst (λ (p : Option Past). IfSome p (λ past. past.offer ≡ offer)) (sym came.1) is
]

-- who stays is offered what was offered
pub offers-stay : (offer : Offer) (old new : Slots HttpConnection) → StayInPlace old new → ∥ AreOffered offer old ∥₁ → ∥ AreOffered offer new ∥₁
offers-stay offer old new stays are = ∥∥₁_map are (offered_stay offer old new stays)

pub offers-keep : (offer : Offer) (old new : Slots HttpConnection) → KeepTheirs old new → ∥ AreOffered offer old ∥₁ → ∥ AreOffered offer new ∥₁
offers-keep offer old new keeps = offers-stay offer old new (stay-keep old new keeps)

pub offers-same : (offer : Offer) (old new : Slots HttpConnection) → new ≡ old → ∥ AreOffered offer old ∥₁ → ∥ AreOffered offer new ∥₁
offers-same offer old new same are = subst (λ (s : Slots HttpConnection). ∥ AreOffered offer s ∥₁) (sym same) are

-- one comes in that is offered the same
pub offers-in : (offer : Offer) (one : Past) (old new : Slots HttpConnection) → one.offer ≡ offer → TakesIn one old new → ∥ AreOffered offer old ∥₁ → ∥ AreOffered offer new ∥₁
offers-in offer one old new is takes are = ∥∥₁_map are (offered_in offer one old new is takes)
