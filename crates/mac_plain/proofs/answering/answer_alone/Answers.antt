use Rattle.std.proofs.Common.{get_or}
use Rattle.mac_board.specs.Noticed.{lent_current}
use Rattle.mac_plain.specs.declared.request.RoundRequest.{RoundRequest}
use Rattle.mac_plain.proofs.Pairs.{one_alone}
use Rattle.mac_plain.proofs.answering.answer_alone.Goals as goal

pub returns-in-Ok : goal.returns-in-Ok
returns-in-Ok g c =
    let none : RoundRequest = record { owner = 0; start = 0; end = 0 } in
    let one = c.args.one.requests.now in
    c.give.ensures (lent_current c.args.one.current) c.args.one.arena.now (get_or one 0 none) (one_alone one none c.requires.one) c.in-Ok.ensures.reply

pub returns-in-Err : goal.returns-in-Err
returns-in-Err g c =
    let none : RoundRequest = record { owner = 0; start = 0; end = 0 } in
    let one = c.args.one.requests.now in
    c.give-in-Err.ensures (lent_current c.args.one.current) c.args.one.arena.now (get_or one 0 none) (one_alone one none c.requires.one) tt
