use Rattle.std.proofs.Common.{ap, ◌∙◌, Some}
use Rattle.std.specs.Prelude.{option_map}
use Rattle.mac_slots.specs.Slots.{Slot, held}
use Rattle.mac_gate.specs.Going.{Past, past_of}
use Rattle.mac_gate.specs.declared.connection.HttpConnection.{HttpConnection}
use Rattle.mac_gate.proofs.GoingLemmas.{put-there}
use Rattle.mac_gate.proofs.waiting.Waiting.put_back.Goals as goal

pub returns-then-is_err-clause-left : goal.returns-then-is_err-clause-left
returns-then-is_err-clause-left c = λ is. ap (λ (s : Slot HttpConnection). option_map past_of (held s)) c.requires

pub returns-clause-there : goal.returns-clause-there
returns-clause-there c = λ is.
    let put = put-there c.args.self.now.connections.slots c.put.new.self c.args.slot c.update.new.self c.put.result c.put.ensures.lent c.put.ensures.held c.requires in
    ap (λ (s : Slot HttpConnection). option_map past_of (held s)) put.this ∙ ap (λ (p : Past). Some p) c.update.ensures

pub returns-clause-others : goal.returns-clause-others
returns-clause-others c =
    (put-there c.args.self.now.connections.slots c.put.new.self c.args.slot c.update.new.self c.put.result c.put.ensures.lent c.put.ensures.held c.requires).others
