use Rattle.std.proofs.Common.{rules, ◌≡◌, ◌∙◌, true, false, None, Option, Some, refl, subst, sym, ap}
use Rattle.std.specs.Prelude.{option_map}
use Rattle.mac_slots.specs.Slots.{Lent, Slots}
use Rattle.mac_gate.specs.Answered.{known_to}
use Rattle.mac_gate.specs.Going.{GoesOn, Past, StayInPlace, past_at, past_of}
use Rattle.mac_gate.specs.declared.connection.HttpConnection.{HttpConnection}
use Rattle.mac_gate.proofs.AnsweredLemmas.{had_none, had_turn, turn_ends}
use Rattle.mac_gate.proofs.GoingLemmas.{none_stays, past_here, past_lent, stay, stay-back, stay-gone, stay-keep, stay-left, stay-then, untaken}
use Rattle.mac_gate.proofs.waiting.Waiting.advance.Goals as goal

-- no connection is there
pub returns-in_default-clause-stay : goal.returns-in_default-clause-stay
returns-in_default-clause-stay g c =
    let old = c.args.self.now.connections.slots in
    let none : c.take.result ≡ None = search rules in
    subst (λ (s : Slots HttpConnection). StayInPlace old s) (sym (untaken old c.take.new.self c.take.result none c.take.ensures.same)) (stay old)

pub returns-in_default-clause-turn : goal.returns-in_default-clause-turn
returns-in_default-clause-turn g c =
    let old = c.args.self.now.connections.slots in
    let none : c.take.result ≡ None = search rules in
    had_none (past_at old c.args.slot) (past_at c.take.new.self c.args.slot) (known_to c.args.answering.now.keys)
    (ap (λ (h : Option HttpConnection). option_map past_of h) (sym c.take.ensures.connection ∙ none))

-- it ends in its turn
pub returns-in_default-advance-clause-stay : goal.returns-in_default-advance-clause-stay
returns-in_default-advance-clause-stay g c =
    let old = c.args.self.now.connections.slots in
    stay-then old c.take.new.self c.end.new.self.connections.slots (stay-left old c.take.new.self c.args.slot Lent _ refl c.in-Some.ensures.lent) c.end.ensures

pub returns-in_default-advance-clause-turn : goal.returns-in_default-advance-clause-turn
returns-in_default-advance-clause-turn g c =
    let old = c.args.self.now.connections.slots in
    let end = c.end.new.self.connections.slots in
    let was : past_of c.in-Some.one ≡ past_of c.end_wait.new.self = search rules in
    let gone : past_at end c.args.slot ≡ None =
    none_stays (past_at c.take.new.self c.args.slot) (past_at end c.args.slot) (past_lent old c.take.new.self c.args.slot _ c.in-Some.ensures.lent) (c.end.ensures c.args.slot) in
    had_turn (past_at old c.args.slot) (past_at end c.args.slot) None (past_of c.end_wait.new.self)
    (known_to c.args.answering.now.keys) (known_to c.advance.new.answering.keys)
    (past_here old c.args.slot c.in-Some.one c.in-Some.ensures.connection ∙ ap (λ (p : Past). Some p) was) gone
    (turn_ends (past_of c.end_wait.new.self) (option_map past_of c.advance.result) (known_to c.args.answering.now.keys) (known_to c.advance.new.answering.keys) c.advance.ensures.turn)

-- it can't go on behind its turn
pub returns-then-not-put_back-clause-stay : goal.returns-then-not-put_back-clause-stay
returns-then-not-put_back-clause-stay g c =
    let old = c.args.self.now.connections.slots in
    let back = c.put_back.new.self.connections.slots in
    let is : c.put_back.result ≡ false = search rules in
    stay-then old back c.end-then-not-put_back.new.self.connections.slots
    (stay-gone old c.take.new.self back c.args.slot _ c.in-Some.ensures.lent (c.put_back.ensures.left is) c.put_back.ensures.others) c.end-then-not-put_back.ensures

pub returns-then-not-put_back-clause-turn : goal.returns-then-not-put_back-clause-turn
returns-then-not-put_back-clause-turn g c =
    let old = c.args.self.now.connections.slots in
    let back = c.put_back.new.self.connections.slots in
    let end = c.end-then-not-put_back.new.self.connections.slots in
    let is : c.put_back.result ≡ false = search rules in
    let was : past_of c.in-Some.one ≡ past_of c.end_wait.new.self = search rules in
    let gone : past_at end c.args.slot ≡ None =
    none_stays (past_at back c.args.slot) (past_at end c.args.slot) (c.put_back.ensures.left is) (c.end-then-not-put_back.ensures c.args.slot) in
    had_turn (past_at old c.args.slot) (past_at end c.args.slot) None (past_of c.end_wait.new.self)
    (known_to c.args.answering.now.keys) (known_to c.advance.new.answering.keys)
    (past_here old c.args.slot c.in-Some.one c.in-Some.ensures.connection ∙ ap (λ (p : Past). Some p) was) gone
    (turn_ends (past_of c.end_wait.new.self) (option_map past_of c.advance.result) (known_to c.args.answering.now.keys) (known_to c.advance.new.answering.keys) c.advance.ensures.turn)

-- it goes on
pub returns-clause-stay : goal.returns-clause-stay
returns-clause-stay g c =
    let old = c.args.self.now.connections.slots in
    let back = c.put_back.new.self.connections.slots in
    let is : c.put_back.result ≡ true = search rules in
    let goes : GoesOn (past_of c.in-Some.one) (past_of c.in-Some-advance.next) =
    subst (λ (p : Past). GoesOn p (past_of c.in-Some-advance.next)) c.end_wait.ensures c.in-Some-advance.ensures.goes_on in
    stay-then old back c.go_on.new.self.connections.slots
    (stay-back old c.take.new.self back c.args.slot _ c.in-Some.one (past_of c.in-Some-advance.next) c.in-Some.ensures.connection goes c.in-Some.ensures.lent
    (c.put_back.ensures.there is) c.put_back.ensures.others)
    (stay-keep back c.go_on.new.self.connections.slots c.go_on.ensures)

pub returns-clause-turn : goal.returns-clause-turn
returns-clause-turn g c =
    let old = c.args.self.now.connections.slots in
    let is : c.put_back.result ≡ true = search rules in
    let was : past_of c.in-Some.one ≡ past_of c.end_wait.new.self = search rules in
    had_turn (past_at old c.args.slot) (past_at c.go_on.new.self.connections.slots c.args.slot) (Some (past_of c.in-Some-advance.next)) (past_of c.end_wait.new.self)
    (known_to c.args.answering.now.keys) (known_to c.advance.new.answering.keys)
    (past_here old c.args.slot c.in-Some.one c.in-Some.ensures.connection ∙ ap (λ (p : Past). Some p) was)
    (c.go_on.ensures c.args.slot ∙ c.put_back.ensures.there is) c.in-Some-advance.ensures.turn
