use Rattle.std.proofs.Common.{ℕ, ap, ◌∙◌, arith}
use Rattle.std.specs.Prelude.{slice_get}
use Rattle.std.specs.Option.{option_map}
use Rattle.mac_wire.specs.Reply.{placed_payload}
use Rattle.mac_wire.proofs.ReplyText.{payload-at}
use Rattle.mac_wire.proofs.laws.each_reply_has_its_place.Goals as goal

pub returns : goal.returns
returns c = λ version replies n. payload-at version 0 n replies ∙ ap (λ (p : ℕ). option_map (placed_payload version p) (slice_get replies n)) (omega arith)
