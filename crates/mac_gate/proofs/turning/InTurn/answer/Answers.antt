use Rattle.std.proofs.Common.{rules, ◌≡◌, [], true, refl, ap, ◌∙◌}
use Rattle.std.specs.Prelude.{All}
use Rattle.mac_gate.specs.Answered.{AreAnswered, known_to}
use Rattle.mac_gate.specs.Going.{Past, past_in_turn, past_of}
use Rattle.mac_gate.specs.Lives.{IsOffered, IsTurnBy, way_of}
use Rattle.mac_gate.proofs.AnsweredLemmas.{answered-offered, moved_turn, turn_weaker}
use Rattle.mac_gate.proofs.GoingLemmas.{goes-ended, goes-turned}
use Rattle.mac_gate.proofs.LifeLemmas.{none_left, turned}
use Rattle.mac_gate.proofs.turning.InTurn.answer.Goals.{then-spoken, else-spoken}
use Rattle.mac_gate.proofs.turning.InTurn.answer.Goals as goal

pub end-requires-clause-lives : goal.end-requires-clause-lives
end-requires-clause-lives g c =
    let own = c.args.self in
    let left = c.take_turn-turned.new.heard.now in
    let after = c.take_turn-turned.new.spoken.went.bytes in
    let next = c.take_turn-turned.new.connection in
    let was = known_to c.args.answering.now.keys in
    let is = known_to c.take_turn-turned.new.self.keys in
    let offer_is : c.deref.result.now ≡ own.offer.value = search rules in
    let way_is : c.way_of-way.result ≡ way_of own.stream = search rules in
    let machine_is : c.deref_mut.result.now ≡ own.connection.value = search rules in
    let went_is : c.new-spoken.result.went.bytes ≡ own.flow.went.bytes = search rules in
    let empty : c.is_empty.result ≡ true = search rules in
    let none : left ≡ [] = none_left left c.is_empty.result c.is_empty.ensures empty in
    let kept : c.if-spoken.gathered.bytes.items ≡ own.flow.gathered.bytes.items =
    elim c.if-spoken.branch [
      | then-spoken w ↦ ap (λ gathered. gathered.bytes.items) w.gathered-is ∙ ap (λ bytes. bytes.items) w.begin.ensures
      | else-spoken w ↦ ap (λ gathered. gathered.bytes.items) w.gathered-is
    ] in
    let turn : IsTurnBy (AreAnswered own.offer.value (way_of own.stream) was is) c.args.heard.now left own.flow.went.bytes after own.connection.value next =
    moved_turn _ own.offer.value _ (way_of own.stream) was is c.args.heard.now left _ own.flow.went.bytes after _ own.connection.value next
    offer_is way_is went_is machine_is c.take_turn-turned.ensures in
    turned own.offer.value (way_of own.stream) own.flow _ c.args.heard.now left own.connection.value next refl kept none
    (turn_weaker (AreAnswered own.offer.value (way_of own.stream) was is) (All (IsOffered own.offer.value (way_of own.stream)))
    (answered-offered own.offer.value (way_of own.stream) was is) c.args.heard.now left own.flow.went.bytes after own.connection.value next turn) c.requires.lives

pub returns-clause-goes_on : goal.returns-clause-goes_on
returns-clause-goes_on g c =
    let own = c.args.self in
    let left = c.take_turn-turned.new.heard.now in
    let after = c.take_turn-turned.new.spoken.went.bytes in
    let next = c.take_turn-turned.new.connection in
    let was = known_to c.args.answering.now.keys in
    let is = known_to c.take_turn-turned.new.self.keys in
    let offer_is : c.deref.result.now ≡ own.offer.value = search rules in
    let way_is : c.way_of-way.result ≡ way_of own.stream = search rules in
    let machine_is : c.deref_mut.result.now ≡ own.connection.value = search rules in
    let went_is : c.new-spoken.result.went.bytes ≡ own.flow.went.bytes = search rules in
    let turn : IsTurnBy (AreAnswered own.offer.value (way_of own.stream) was is) c.args.heard.now left own.flow.went.bytes after own.connection.value next =
    moved_turn _ own.offer.value _ (way_of own.stream) was is c.args.heard.now left _ own.flow.went.bytes after _ own.connection.value next
    offer_is way_is went_is machine_is c.take_turn-turned.ensures in
    goes-ended (past_in_turn own) _ (past_of c.end.result) c.end.ensures
    (goes-turned (AreAnswered own.offer.value (way_of own.stream) was is) c.args.heard.now left after own.connection.value next (past_in_turn own) refl turn)

pub returns-clause-turn : goal.returns-clause-turn
returns-clause-turn g c =
    let own = c.args.self in
    let left = c.take_turn-turned.new.heard.now in
    let after = c.take_turn-turned.new.spoken.went.bytes in
    let next = c.take_turn-turned.new.connection in
    let was = known_to c.args.answering.now.keys in
    let is = known_to c.take_turn-turned.new.self.keys in
    let offer_is : c.deref.result.now ≡ own.offer.value = search rules in
    let way_is : c.way_of-way.result ≡ way_of own.stream = search rules in
    let machine_is : c.deref_mut.result.now ≡ own.connection.value = search rules in
    let went_is : c.new-spoken.result.went.bytes ≡ own.flow.went.bytes = search rules in
    let turn : IsTurnBy (AreAnswered own.offer.value (way_of own.stream) was is) c.args.heard.now left own.flow.went.bytes after own.connection.value next =
    moved_turn _ own.offer.value _ (way_of own.stream) was is c.args.heard.now left _ own.flow.went.bytes after _ own.connection.value next
    offer_is way_is went_is machine_is c.take_turn-turned.ensures in
    (turn.called.0, ap (λ (p : Past). p.calls) c.end.ensures ∙ turn.called.1, turn.called.2)

pub returns-then-not-is_empty-clause-turn : goal.returns-then-not-is_empty-clause-turn
returns-then-not-is_empty-clause-turn g c =
    let own = c.args.self in
    let left = c.take_turn-turned.new.heard.now in
    let after = c.take_turn-turned.new.spoken.went.bytes in
    let next = c.take_turn-turned.new.connection in
    let was = known_to c.args.answering.now.keys in
    let is = known_to c.take_turn-turned.new.self.keys in
    let offer_is : c.deref.result.now ≡ own.offer.value = search rules in
    let way_is : c.way_of-way.result ≡ way_of own.stream = search rules in
    let machine_is : c.deref_mut.result.now ≡ own.connection.value = search rules in
    let went_is : c.new-spoken.result.went.bytes ≡ own.flow.went.bytes = search rules in
    let turn : IsTurnBy (AreAnswered own.offer.value (way_of own.stream) was is) c.args.heard.now left own.flow.went.bytes after own.connection.value next =
    moved_turn _ own.offer.value _ (way_of own.stream) was is c.args.heard.now left _ own.flow.went.bytes after _ own.connection.value next
    offer_is way_is went_is machine_is c.take_turn-turned.ensures in
    (turn.called.0, turn.called.2)

pub returns-then-not-goes_on-clause-turn : goal.returns-then-not-goes_on-clause-turn
returns-then-not-goes_on-clause-turn g c =
    let own = c.args.self in
    let left = c.take_turn-turned.new.heard.now in
    let after = c.take_turn-turned.new.spoken.went.bytes in
    let next = c.take_turn-turned.new.connection in
    let was = known_to c.args.answering.now.keys in
    let is = known_to c.take_turn-turned.new.self.keys in
    let offer_is : c.deref.result.now ≡ own.offer.value = search rules in
    let way_is : c.way_of-way.result ≡ way_of own.stream = search rules in
    let machine_is : c.deref_mut.result.now ≡ own.connection.value = search rules in
    let went_is : c.new-spoken.result.went.bytes ≡ own.flow.went.bytes = search rules in
    let turn : IsTurnBy (AreAnswered own.offer.value (way_of own.stream) was is) c.args.heard.now left own.flow.went.bytes after own.connection.value next =
    moved_turn _ own.offer.value _ (way_of own.stream) was is c.args.heard.now left _ own.flow.went.bytes after _ own.connection.value next
    offer_is way_is went_is machine_is c.take_turn-turned.ensures in
    (turn.called.0, turn.called.2)
