use Rattle.std.proofs.Common.{ap, sym, ◌∙◌, Some}
use Rattle.mac_http.specs.declared.rules.Rules.{Rules}
use Rattle.mac_gate.specs.Answered.{AreUnder, known_of, known_to}
use Rattle.mac_gate.specs.Lives.{AreRules, IsTurnBy}
use Rattle.mac_gate.proofs.AnsweredLemmas.{face_turn, followed_turn, no_keys_turn}
use Rattle.mac_gate.proofs.answering.Answering.take_face_turn.Goals as goal

pub returns : goal.returns
returns g c =
    let same = c.new-face.ensures.rules in
    let is = c.rules-rules.ensures in
    let own = c.args.own.now in
    let first = c.new-face.result in
    let last = c.take_turn-written.new.service in
    let are : AreRules own c.args.way first.rules = record {
      sources = ap (λ (r : Rules). r.sources) same ∙ is.sources;
      granted = ap (λ (r : Rules). r.granted) same ∙ is.granted;
      calls = ap (λ (r : Rules). r.calls) same ∙ is.calls;
      pages = ap (λ (r : Rules). r.pages) same ∙ is.pages;
      rights = ap (λ (r : Rules). r.rights.now) same ∙ is.rights;
      way = ap (λ (r : Rules). r.way) same ∙ is.way;
    } in
    let turn : IsTurnBy (AreUnder own c.args.way (known_of first.keys) (known_of last.keys)) c.args.heard.now.now c.take_turn-written.new.reader.now
    c.args.spoken.now.went.bytes c.take_turn-written.new.writer.went.bytes c.args.connection.now c.take_turn-written.new.connection =
    face_turn c.args.heard.now.now c.take_turn-written.new.reader.now c.args.spoken.now.went.bytes c.take_turn-written.new.writer.went.bytes first last
    c.args.connection.now c.take_turn-written.new.connection _ c.take_turn-written.ensures.turn (λ face. known_of face.keys) (λ face. face.rules)
    (λ s q r t x. (x.0.under, x.0.looks, x.0.up, x.0.rules, x.0.right)) own c.args.way are in
    followed_turn own c.args.way _ _ (known_of first.keys) (known_of last.keys)
    (ap known_to (sym c.take.ensures.value ∙ c.in-Some.is) ∙ ap (λ keys. Some (known_of keys)) (sym c.new-face.ensures.keys)) (ap (λ keys. Some (known_of keys)) c.into_keys.ensures)
    c.args.heard.now.now c.take_turn-written.new.reader.now c.args.spoken.now.went.bytes c.take_turn-written.new.writer.went.bytes c.args.connection.now c.take_turn-written.new.connection turn

pub returns-in_default : goal.returns-in_default
returns-in_default g c =
    no_keys_turn c.args.own.now c.args.way _ _ (ap known_to (sym c.take.ensures.value ∙ c.in_default.is)) (ap known_to c.take.ensures.after)
    c.args.heard.now.now c.args.spoken.now.went.bytes c.args.connection.now
