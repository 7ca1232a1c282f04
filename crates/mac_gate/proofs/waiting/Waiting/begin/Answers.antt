use Rattle.mac_gate.specs.Going.{past_of}
use Rattle.mac_gate.proofs.GoingLemmas.{keep, keep-then, put-there, takes-in, takes-left, takes-none}
use Rattle.mac_gate.proofs.waiting.Waiting.begin.Goals as goal

pub returns-in_default : goal.returns-in_default
returns-in_default c =
    takes-none (past_of c.args.one) c.args.self.now.connections.slots c.reserve.new.self c.in_default.ensures.same

pub returns-then-is_err : goal.returns-then-is_err
returns-then-is_err c =
    takes-left (past_of c.args.one) c.args.self.now.connections.slots c.reserve.new.self c.release.new.self c.in-Ok.slot _ _
    c.in-Ok.ensures.free c.in-Ok.ensures.lent c.release.ensures.free

pub returns : goal.returns
returns c =
    let old = c.args.self.now.connections.slots in
    let mid = c.reserve.new.self in
    let put = c.put.new.self in
    let expected = c.expect.new.self.connections.slots in
    let there = put-there mid put c.in-Ok.slot c.args.one c.put.result c.put.ensures.lent c.put.ensures.held c.in-Ok.ensures.lent.this in
    takes-in c.args.one old mid put c.list.new.self.connections.slots c.in-Ok.slot _ _ c.in-Ok.ensures.free c.in-Ok.ensures.lent there
    (keep-then put expected c.list.new.self.connections.slots (keep put expected c.expect.ensures) c.list.ensures)
