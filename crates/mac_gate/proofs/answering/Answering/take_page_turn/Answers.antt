use Rattle.std.proofs.Common.{subst}
use Rattle.std.specs.Prelude.{All}
use Rattle.mac_page.specs.Told.{Responds}
use Rattle.mac_gate.specs.Lives.{IsTurnBy}
use Rattle.mac_gate.proofs.LifeLemmas.{turn_by}
use Rattle.mac_gate.proofs.answering.Answering.take_page_turn.Goals as goal

pub returns : goal.returns
returns g c =
    subst
    (λ site. IsTurnBy (All (λ call. Responds site.now call.0 call.1)) c.args.heard.now.now c.take_turn.new.reader.now c.args.spoken.now.went.bytes c.take_turn.new.writer.went.bytes
    c.args.connection.now c.take_turn.new.connection)
    c.new-face.ensures
    (turn_by c.args.heard.now.now c.take_turn.new.reader.now c.args.spoken.now.went.bytes c.take_turn.new.writer.went.bytes c.new-face.result c.take_turn.new.service
    c.args.connection.now c.take_turn.new.connection _ c.take_turn.ensures.turn (λ face. face.site) (λ site call. Responds site.now call.0 call.1) (λ s q r t x. x))
