use Rattle.mac_gate.proofs.GoingLemmas.{keep, stay, stay-kept}
use Rattle.mac_gate.proofs.waiting.Waiting.drop_heaviest.Goals as goal

pub returns-then-not-must_end : goal.returns-then-not-must_end
returns-then-not-must_end g c = stay c.args.self.now.connections.slots

pub returns-in_default : goal.returns-in_default
returns-in_default g c = stay c.args.self.now.connections.slots

pub returns : goal.returns
returns g c =
    let mid = c.release-is_gone.new.self.connections.slots in
    let new = c.settle.new.self.connections.slots in
    stay-kept c.args.self.now.connections.slots mid new c.release-is_gone.ensures (keep mid new c.settle.ensures)
