use Rattle.std.proofs.Common.{rules, ◌≡◌, [], take, subst, ap, refl}
use Rattle.std.specs.IoError.{error_kind}
use Rattle.std.specs.declared.io.ErrorKind.TheVariants.{WouldBlock}
use Rattle.std.specs.Prelude.{Ok, Err, option_map}
use Rattle.mac_gate.specs.Answered.{known_to}
use Rattle.mac_gate.specs.Going.{Past, past_of}
use Rattle.mac_gate.specs.Lives.{Hears, way_of}
use Rattle.mac_gate.proofs.AnsweredLemmas.{no_turn, turn_of}
use Rattle.mac_gate.proofs.GoingLemmas.{goes-ended, goes-further, goes-read}
use Rattle.mac_gate.proofs.LifeLemmas.{hears}
use Rattle.mac_gate.proofs.connection.HttpConnection.answer.Goals as goal

pub answer-requires-in-Ok-clause-lives : goal.answer-requires-in-Ok-clause-lives
answer-requires-in-Ok-clause-lives g c =
    let own = c.args.self in
    let heard : Hears own.flow (Ok c.in-Ok.told) c.read-heard.new.piece c.read-heard.new.self =
    subst (λ outcome. Hears own.flow outcome c.read-heard.new.piece c.read-heard.new.self) c.in-Ok.is c.read-heard.ensures.hears in
    hears own.offer.value (way_of own.stream) own.flow c.read-heard.new.self (take c.in-Ok.told c.read-heard.new.piece) own.connection.value heard.0 heard.1 own.lives

pub end-requires-clause-lives : goal.end-requires-clause-lives
end-requires-clause-lives g c =
    let own = c.args.self in
    let heard : Hears own.flow (Err c.in-Err.fault) c.read-heard.new.piece c.read-heard.new.self =
    subst (λ outcome. Hears own.flow outcome c.read-heard.new.piece c.read-heard.new.self) c.in-Err.is c.read-heard.ensures.hears in
    let waits : error_kind c.in-Err.fault ≡ WouldBlock = search rules in
    hears own.offer.value (way_of own.stream) own.flow c.read-heard.new.self _ own.connection.value (heard.0 waits) heard.1 own.lives

pub returns-in-Ok-clause-goes_on : goal.returns-in-Ok-clause-goes_on
returns-in-Ok-clause-goes_on g c =
    let own = c.args.self in
    let flow = c.read-heard.new.self in
    let was : Past = past_of own in
    let mid : Past = record was { came = flow.came.bytes; went = flow.went.bytes } in
    let heard : Hears own.flow (Ok c.in-Ok.told) c.read-heard.new.piece flow =
    subst (λ outcome. Hears own.flow outcome c.read-heard.new.piece c.read-heard.new.self) c.in-Ok.is c.read-heard.ensures.hears in
    goes-further was mid c.answer-in-Ok.result (goes-read was own.flow flow (take c.in-Ok.told c.read-heard.new.piece) refl refl heard.0 heard.1) c.answer-in-Ok.ensures.goes_on

pub returns-in-Ok-clause-turn : goal.returns-in-Ok-clause-turn
returns-in-Ok-clause-turn g c =
    let flow = c.read-heard.new.self in
    let was : Past = past_of c.args.self in
    let mid : Past = record was { came = flow.came.bytes; went = flow.went.bytes } in
    turn_of mid was (option_map past_of c.answer-in-Ok.result) (known_to c.args.answering.now.keys) (known_to c.answer-in-Ok.new.answering.keys) refl refl refl c.answer-in-Ok.ensures.turn

pub returns-in-Err-clause-goes_on : goal.returns-in-Err-clause-goes_on
returns-in-Err-clause-goes_on g c =
    let own = c.args.self in
    let flow = c.read-heard.new.self in
    let was : Past = past_of own in
    let mid : Past = record was { came = flow.came.bytes; went = flow.went.bytes } in
    let heard : Hears own.flow (Err c.in-Err.fault) c.read-heard.new.piece flow =
    subst (λ outcome. Hears own.flow outcome c.read-heard.new.piece c.read-heard.new.self) c.in-Err.is c.read-heard.ensures.hears in
    let waits : error_kind c.in-Err.fault ≡ WouldBlock = search rules in
    goes-ended was mid (past_of c.end.result) c.end.ensures (goes-read was own.flow flow [] refl refl (heard.0 waits) heard.1)

pub returns-in-Err-clause-turn : goal.returns-in-Err-clause-turn
returns-in-Err-clause-turn g c =
    no_turn (past_of c.args.self) (past_of c.end.result) (known_to c.args.answering.now.keys) (ap (λ (p : Past). p.calls) c.end.ensures)
