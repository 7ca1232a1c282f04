-- Under which tables requests are answered, in a turn and over the turns of a loop.
use Rattle.std.proofs.Common.{◌≡◌, ℕ, true, List, [], ◌∷◌, ◌++◌, Option, None, Some, refl, sym, ap, subst, ◌∙◌, append-nil}
use Rattle.std.specs.Prelude.{All}
use Rattle.std.specs.List.{AllZip, flat_map}
use Rattle.std.proofs.lemmas.List.Elements.{All-nil, All-cons}
use Rattle.http.specs.declared.request.Request.{Request}
use Rattle.http_server.specs.Connection.{history}
use Rattle.http_server.specs.Exchange.{Call, Chain}
use Rattle.http_server.specs.declared.connection.Connection.{Connection}
use Rattle.http_server.specs.declared.response.Response.{Response}
use Rattle.mac_board.specs.Follows.{IsUp, Known, Looks, Takes}
use Rattle.mac_board.proofs.Taking.{in-order}
use Rattle.mac_http.specs.Faced.{IsRight}
use Rattle.mac_http.specs.Turn.{IsTurn}
use Rattle.mac_http.specs.declared.rules.Rules.{Rules}
use Rattle.mac_http.specs.declared.rules.Way.{Way}
use Rattle.mac_keys.specs.KeyTable.{Table}
use Rattle.mac_page.specs.Told.{Responds}
use Rattle.mac_page.specs.declared.site.Site.{Site as PageSite}
use Rattle.mac_gate.specs.Answered.{AreAnswered, AreTurns, AreUnder, GoesByTurns, HasTurn, IsAnswerUnder, IsUnder, KeepOrder, TakesTurn, Turn, answers_in, answers_of}
use Rattle.mac_gate.specs.Going.{Past}
use Rattle.mac_gate.specs.Lives.{AreRules, IsOffered, IsTurnBy, way_of}
use Rattle.mac_gate.specs.declared.offer.AddressTerms.{AddressTerms}
use Rattle.mac_gate.specs.declared.offer.Offer.{Offer}
use Rattle.mac_gate.specs.declared.offer.Offer.TheVariants.{Daemon, Site}

-- one call: there is one look at the tables, and the response is right under the one that it came to
abbrev pub AnswersUnder : {S : Type 0} (known : S → Known) (rules : S → Rules) → S → Request (List ℕ) → Response → S → Type 0
AnswersUnder known rules old request response new = (under : Table × Option ℕ) × Looks true (known old) (known new) × IsUp (known new) under.0
    × (rules new ≡ rules old) × IsRight (rules old) under (request, response)

-- calls of a service under the rules of an address, each with a look
chain-under : {S : Type 0} (answers : S → Request (List ℕ) → Response → S → Type 0) (known : S → Known) (rules : S → Rules) → ((s : S) (q : Request (List ℕ)) (r : Response) (t : S) → answers s q r t → AnswersUnder known rules s q r t)
    → (own : AddressTerms) (by : Way) (calls : List Call) (old new : S) → AreRules own by (rules old) → Chain answers old calls new → AreUnder own by (known old) (known new) calls
chain-under answers known rules each own by [] old new are x = ([], ap known x, tt)
chain-under answers known rules each own by (c ∷ calls) old new are x =
    let one = each old c.0 c.1 x.0 x.1 in
    let rest = chain-under answers known rules each own by calls x.0 new (subst (λ (r : Rules). AreRules own by r) (sym one.3) are) x.2 in
    (one.0.0 ∷ rest.0, (known x.0, one.1, one.2, rest.1), ((rules old, are, (one.0.1, one.4)), rest.2))

-- a turn of a face under the rules of an address
pub face_turn : {S : Type 0} (u v x y : List ℕ) (first last : S) (a b : Connection) (answers : S → Request (List ℕ) → Response → S → Type 0)
    → IsTurn answers (Some u) (Some v) (Some x) (Some y) first last a b → (known : S → Known) (rules : S → Rules)
    → ((s : S) (q : Request (List ℕ)) (r : Response) (t : S) → answers s q r t → AnswersUnder known rules s q r t)
    → (own : AddressTerms) (by : Way) → AreRules own by (rules first) → IsTurnBy (AreUnder own by (known first) (known last)) u v x y a b
face_turn u v x y first last a b answers turn known rules each own by are = record {
  read = (turn.read.0, turn.read.1, turn.read.2);
  written = (turn.written.0, turn.written.1, turn.written.2);
  called = (turn.calls.0, turn.calls.1, chain-under answers known rules each own by turn.calls.0 first last are turn.calls.2);
  config = turn.config;
}

-- a turn whose requests are answered as something more is asked
pub turn_weaker : (P Q : List Call → Type 0) → ((calls : List Call) → P calls → Q calls) → (u v x y : List ℕ) (a b : Connection) → IsTurnBy P u v x y a b → IsTurnBy Q u v x y a b
turn_weaker P Q less u v x y a b t = record {
  read = t.read;
  written = t.written;
  called = (t.called.0, t.called.1, less t.called.0 t.called.2);
  config = t.config;
}

-- a turn by who follows tables
pub followed_turn : (own : AddressTerms) (by : Way) (was is : Option Known) (k j : Known) → was ≡ Some k → is ≡ Some j → (u v x y : List ℕ) (a b : Connection)
    → IsTurnBy (AreUnder own by k j) u v x y a b → IsTurnBy (AreAnswered (Daemon own) by was is) u v x y a b
followed_turn own by was is k j was_is is_is u v x y a b t =
    subst (λ (w : Option Known). IsTurnBy (AreAnswered (Daemon own) by w is) u v x y a b) (sym was_is)
    (subst (λ (i : Option Known). IsTurnBy (AreAnswered (Daemon own) by (Some k) i) u v x y a b) (sym is_is) t)

-- a turn in which nothing is done
pub idle_turn : (AreRight : List Call → Type 0) → AreRight [] → (u y : List ℕ) (a : Connection) → IsTurnBy AreRight u u y y a a
idle_turn AreRight none u y a = record {
  read = ([], refl, sym (append-nil (history a).received));
  written = ([], sym (append-nil y), sym (append-nil (history a).sent));
  called = ([], sym (append-nil (history a).calls), none);
  config = refl;
}

-- a turn of a site, at which nobody looks
pub site_turn : (offer : Offer) (by : Way) (site : PageSite) (known : Option Known) → offer ≡ Site site → (u v x y : List ℕ) (a b : Connection)
    → IsTurnBy (All (λ call. Responds site call.0 call.1)) u v x y a b → IsTurnBy (AreAnswered offer by known known) u v x y a b
site_turn offer by site known is u v x y a b t =
    subst (λ (o : Offer). IsTurnBy (AreAnswered o by known known) u v x y a b) (sym is)
    (turn_weaker (All (λ call. Responds site call.0 call.1)) (AreAnswered (Site site) by known known) (λ calls all. (refl, all)) u v x y a b t)

-- a turn is told by equal offers, ways, lists and machines
pub moved_turn : (o o' : Offer) (w w' : Way) (was is : Option Known) (u v x x' y : List ℕ) (a a' b : Connection) → o ≡ o' → w ≡ w' → x ≡ x' → a ≡ a'
    → IsTurnBy (AreAnswered o w was is) u v x y a b → IsTurnBy (AreAnswered o' w' was is) u v x' y a' b
moved_turn o o' w w' was is u v x x' y a a' b offer way list machine t =
    subst (λ (p : Offer). IsTurnBy (AreAnswered p w' was is) u v x' y a' b) offer
    (subst (λ (p : Way). IsTurnBy (AreAnswered o p was is) u v x' y a' b) way
    (subst (λ (p : List ℕ). IsTurnBy (AreAnswered o w was is) u v p y a' b) list
    (subst (λ (p : Connection). IsTurnBy (AreAnswered o w was is) u v x y p b) machine t)))

-- who follows no tables answers nothing
pub no_keys_turn : (own : AddressTerms) (by : Way) (was is : Option Known) → was ≡ None → is ≡ None → (u y : List ℕ) (a : Connection)
    → IsTurnBy (AreAnswered (Daemon own) by was is) u u y y a a
no_keys_turn own by was is no_was no_is u y a =
    subst (λ (k : Option Known). IsTurnBy (AreAnswered (Daemon own) by k is) u u y y a a) (sym no_was)
    (idle_turn (AreAnswered (Daemon own) by None is) (no_is, refl) u y a)

-- where nothing is answered, nobody looks
pub answered-none : (offer : Offer) (by : Way) (known : Option Known) → AreAnswered offer by known known []
answered-none (Daemon own) by None = (refl, refl)
answered-none (Daemon own) by (Some known) = ([], refl, tt)
answered-none (Site site) by known = (refl, All-nil _)

offered-each : (own : AddressTerms) (by : Way) (tables : List Table) (calls : List Call) → AllZip (IsUnder own by) tables calls → All (IsOffered (Daemon own) by) calls
offered-each own by [] [] x = All-nil (IsOffered (Daemon own) by)
offered-each own by [] (c ∷ calls) x = absurd x
offered-each own by (t ∷ tables) [] x = absurd x
offered-each own by (t ∷ tables) (c ∷ calls) x =
    All-cons (IsOffered (Daemon own) by) c calls (x.0.0, x.0.1, ((t, x.0.2.0), x.0.2.1)) (offered-each own by tables calls x.1)

-- each of these requests is answered as it is offered
pub answered-offered : (offer : Offer) (by : Way) (was is : Option Known) (calls : List Call) → AreAnswered offer by was is calls → All (IsOffered offer by) calls
answered-offered (Daemon own) by (Some was) (Some is) calls are = offered-each own by are.0 calls are.2
answered-offered (Daemon own) by (Some was) None calls are = absurd are
answered-offered (Daemon own) by None is calls are =
    subst (λ (c : List Call). All (IsOffered (Daemon own) by) c) (sym are.1) (All-nil (IsOffered (Daemon own) by))
answered-offered (Site site) by was is calls are = are.1

-- a connection without its turn
pub no_turn : (before after : Past) (known : Option Known) → after.calls ≡ before.calls → TakesTurn before (Some after) known known
no_turn before after known same = ([], same ∙ sym (append-nil before.calls), answered-none before.offer (way_of before.stream) known)

pub no_turn_more : (before : Past) (known : Option Known) → TakesTurn before None known known
no_turn_more before known = ([], answered-none before.offer (way_of before.stream) known)

-- what a turn says of who takes it stands for one that has as much
pub turn_of : (a b : Past) (after : Option Past) (was is : Option Known) → a.offer ≡ b.offer → a.stream ≡ b.stream → a.calls ≡ b.calls → TakesTurn a after was is → TakesTurn b after was is
turn_of a b None was is offer stream calls t =
    (t.0, subst (λ o. AreAnswered o (way_of b.stream) was is t.0) offer (subst (λ s. AreAnswered a.offer (way_of s) was is t.0) stream t.1))
turn_of a b (Some after) was is offer stream calls t = (
  t.0,
  t.1 ∙ ap (λ (l : List Call). l ++ t.0) calls,
  subst (λ o. AreAnswered o (way_of b.stream) was is t.0) offer (subst (λ s. AreAnswered a.offer (way_of s) was is t.0) stream t.2),
)

-- one that ends behind its turn
pub turn_ends : (before : Past) (after : Option Past) (was is : Option Known) → TakesTurn before after was is → TakesTurn before None was is
turn_ends before None was is t = t
turn_ends before (Some after) was is t = (t.0, t.2)

-- the turn of who is in a slot
pub had_turn : (p q r : Option Past) (one : Past) (was is : Option Known) → p ≡ Some one → q ≡ r → TakesTurn one r was is → HasTurn p q was is
had_turn p q r one was is here there t =
    subst (λ (x : Option Past). HasTurn x q was is) (sym here) (subst (λ (x : Option Past). TakesTurn one x was is) (sym there) t)

-- nobody's turn
pub had_none : (p q : Option Past) (known : Option Known) → p ≡ None → HasTurn p q known known
had_none p q known none = subst (λ (x : Option Past). HasTurn x q known known) (sym none) refl

-- a turn of a slot is one turn at most
pub by_turn : (before after : Option Past) (was is : Option Known) → HasTurn before after was is → GoesByTurns was is
by_turn None after was is same = ([], same)
by_turn (Some before) None was is t = (record { offer = before.offer; by = way_of before.stream; calls = t.0 } ∷ [], (is, t.1, refl))
by_turn (Some before) (Some after) was is t = (record { offer = before.offer; by = way_of before.stream; calls = t.0 } ∷ [], (is, t.2, refl))

turns-then : (a b c : Option Known) (one two : List Turn) → AreTurns a b one → AreTurns b c two → AreTurns a c (one ++ two)
turns-then a b c [] two same then = subst (λ (k : Option Known). AreTurns k c two) same then
turns-then a b c (turn ∷ one) two (now, answered, rest) then = (now, answered, turns-then now b c one two rest then)

-- none, and one behind the other
pub by_no_turn : (known : Option Known) → GoesByTurns known known
by_no_turn known = ([], refl)

pub by_turns_then : (a b c : Option Known) → GoesByTurns a b → GoesByTurns b c → GoesByTurns a c
by_turns_then a b c one two = (one.0 ++ two.0, turns-then a b c one.0 two.0 one.1 two.1)

takes-then : (a b c : Known) (xs ys : List Table) → Takes true a b xs → Takes true b c ys → Takes true a c (xs ++ ys)
takes-then a b c [] ys same then = subst (λ (k : Known). Takes true k c ys) same then
takes-then a b c (t ∷ xs) ys (now, looked, up, rest) then = (now, looked, up, takes-then now b c xs ys rest then)

zip-then : {A B : Type 0} (R : A → B → Type 0) (xs ys : List A) (us vs : List B) → AllZip R xs us → AllZip R ys vs → AllZip R (xs ++ ys) (us ++ vs)
zip-then R [] ys [] vs one two = two
zip-then R [] ys (u ∷ us) vs one two = absurd one
zip-then R (x ∷ xs) ys [] vs one two = absurd one
zip-then R (x ∷ xs) ys (u ∷ us) vs one two = (one.0, zip-then R xs ys us vs one.1 two)

zip-answers : (own : AddressTerms) (by : Way) (tables : List Table) (calls : List Call) → AllZip (IsUnder own by) tables calls → AllZip IsAnswerUnder tables (answers_of (Daemon own) by calls)
zip-answers own by [] [] x = tt
zip-answers own by [] (c ∷ calls) x = absurd x
zip-answers own by (t ∷ tables) [] x = absurd x
zip-answers own by (t ∷ tables) (c ∷ calls) x = (x.0, zip-answers own by tables calls x.1)

-- what a turn of the loop took
one-turn : (offer : Offer) (by : Way) (calls : List Call) (was : Known) (now : Option Known) → AreAnswered offer by (Some was) now calls
    → (is : Known) × (now ≡ Some is) × ((tables : List Table) × Takes true was is tables × AllZip IsAnswerUnder tables (answers_of offer by calls))
one-turn (Daemon own) by calls was (Some is) are = (is, refl, (are.0, are.1, zip-answers own by are.0 calls are.2))
one-turn (Daemon own) by calls was None are = absurd are
one-turn (Site site) by calls was now are = (was, are.0, ([], refl, tt))

turns-taken : (was is : Known) (turns : List Turn) → AreTurns (Some was) (Some is) turns
    → (tables : List Table) × Takes true was is tables × AllZip IsAnswerUnder tables (flat_map answers_in turns)
turns-taken was is [] same = let e : is ≡ was = cc in ([], e, tt)
turns-taken was is (turn ∷ turns) (now, answered, rest) =
    let one = one-turn turn.offer turn.by turn.calls was now answered in
    let more = turns-taken one.0 is turns (subst (λ (k : Option Known). AreTurns k (Some is) turns) one.1 rest) in (
      one.2.0 ++ more.0,
      takes-then was one.0 is one.2.0 more.0 one.2.1 more.1,
      zip-then IsAnswerUnder one.2.0 more.0 (answers_in turn) (flat_map answers_in turns) one.2.2 more.2,
    )

-- so no request is answered under an older table than one before it
pub keep_order : (was is : Known) (turns : List Turn) → AreTurns (Some was) (Some is) turns → KeepOrder was is turns
keep_order was is turns are =
    let taken = turns-taken was is turns are in
    record { tables = taken.0; right = taken.2; order = in-order true was is taken.0 taken.1 }
