use Rattle.std.proofs.Common.{[], ◌∷◌, ◌∙◌}
use Rattle.mac_board.specs.Noticed.{lent_current}
use Rattle.mac_plain.specs.Client.{asked_job}
use Rattle.mac_plain.proofs.Promises.{composes}
use Rattle.mac_plain.proofs.Recalls.{goes_answers}
use Rattle.mac_plain.proofs.round.Round.recall.Goals as goal

pub returns-clause-answers : goal.returns-clause-answers
returns-clause-answers g c told =
    let current = lent_current c.args.current in
    composes g.P.Port.tells g.P.Port.taken g.P.Port.written c.args.client.now c.recall.new.self c.flush.new.self (asked_job current c.args.client.now ∷ []) []
    (c.recall.ensures.answers c.if-not-recall.false)
    (goes_answers g.P.Port.tells g.P.Port.taken g.P.Port.written current c.recall.new.self c.flush.new.self (c.flush.ensures current))

pub returns-clause-rights : goal.returns-clause-rights
returns-clause-rights g c = (c.flush.ensures (lent_current c.args.current)).rights_kept ∙ c.recall.ensures.rights
