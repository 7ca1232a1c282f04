use Rattle.std.proofs.Common.{◌∙◌, ap, subst, sym}
use Rattle.std.specs.Io.KnownBytes.{Consumes}
use Rattle.http_server.specs.Connection.{config_of, history}
use Rattle.mac_http.proofs.TurnLemmas.{advance_turn, kept_turn, read_turn, same_turn, turn_then, write_turn}
use Rattle.mac_http.proofs.attending.take_turn.Goals.{then-not-wants_write+in_ok-read_from, else-not-wants_write}
use Rattle.mac_http.proofs.attending.take_turn.Goals as goal

pub returns-in_err-count-clause-turn : goal.returns-in_err-count-clause-turn
returns-in_err-count-clause-turn g c =
    let answers = g.S.Service.answers in
    let unread = g.R.Read.remaining c.args.reader.now in
    let left = g.R.Read.remaining c.if-not-wants_write.reader in
    let before = g.W.Write.contents c.args.writer.now in
    let after = g.W.Write.contents c.write_to.new.writer in
    let answered = advance_turn answers left before c.args.service.now c.advance.new.service c.if-not-wants_write.connection c.advance.new.self c.advance.ensures.quiet c.advance.ensures.calls c.advance.ensures.config in
    let kept = kept_turn answers left before after c.advance.new.service c.advance.new.self c.write_to.new.self c.in_err-count.ensures.err.0 c.in_err-count.ensures.err.1 in
    let rest = turn_then answers _ _ _ _ _ _ _ _ _ _ _ _ answered kept in
    elim c.if-not-wants_write.branch [
      | then-not-wants_write+in_ok-read_from w ↦
          let came = w.in_ok-read_from.ensures.ok in
          let read = subst (λ r. Consumes unread (g.R.Read.remaining r) came.0) (sym w.reader-is) came.2 in
          turn_then answers _ _ _ _ _ _ _ _ _ _ _ _
          (read_turn answers unread left before c.args.service.now c.args.connection.now c.if-not-wants_write.connection came.0 read (ap (λ k. history k) w.connection-is ∙ came.3) (ap (λ k. config_of k) w.connection-is ∙ w.read_from.ensures.config)) rest
      | else-not-wants_write w ↦
          turn_then answers _ _ _ _ _ _ _ _ _ _ _ _
          (same_turn answers unread left before c.args.service.now c.args.connection.now c.if-not-wants_write.connection (ap (λ r. g.R.Read.remaining r) w.reader-is) w.connection-is) rest
    ]

pub returns-then-is_held-clause-turn : goal.returns-then-is_held-clause-turn
returns-then-is_held-clause-turn g c =
    let answers = g.S.Service.answers in
    let unread = g.R.Read.remaining c.args.reader.now in
    let left = g.R.Read.remaining c.if-not-wants_write.reader in
    let before = g.W.Write.contents c.args.writer.now in
    let after = g.W.Write.contents c.write_to.new.writer in
    let answered = advance_turn answers left before c.args.service.now c.advance.new.service c.if-not-wants_write.connection c.advance.new.self c.advance.ensures.quiet c.advance.ensures.calls c.advance.ensures.config in
    let written = write_turn answers left before after c.advance.new.service c.advance.new.self c.write_to.new.self c.in_ok-count.count c.in_ok-count.ensures.ok.0 c.in_ok-count.ensures.ok.1 c.write_to.ensures.config in
    let held = c.advance-then-is_held.ensures in
    let further = advance_turn answers left after c.advance.new.service c.advance-then-is_held.new.service c.write_to.new.self c.advance-then-is_held.new.self held.quiet held.calls held.config in
    let rest = turn_then answers _ _ _ _ _ _ _ _ _ _ _ _ answered (turn_then answers _ _ _ _ _ _ _ _ _ _ _ _ written further) in
    elim c.if-not-wants_write.branch [
      | then-not-wants_write+in_ok-read_from w ↦
          let came = w.in_ok-read_from.ensures.ok in
          let read = subst (λ r. Consumes unread (g.R.Read.remaining r) came.0) (sym w.reader-is) came.2 in
          turn_then answers _ _ _ _ _ _ _ _ _ _ _ _
          (read_turn answers unread left before c.args.service.now c.args.connection.now c.if-not-wants_write.connection came.0 read (ap (λ k. history k) w.connection-is ∙ came.3) (ap (λ k. config_of k) w.connection-is ∙ w.read_from.ensures.config)) rest
      | else-not-wants_write w ↦
          turn_then answers _ _ _ _ _ _ _ _ _ _ _ _
          (same_turn answers unread left before c.args.service.now c.args.connection.now c.if-not-wants_write.connection (ap (λ r. g.R.Read.remaining r) w.reader-is) w.connection-is) rest
    ]
