-- A place of the window has its answer in its slot.
use Rattle.std.proofs.Common.{◌≡◌, false, length, refl, sym, ◌∙◌, ap, arith}
use Rattle.std.specs.FinMap.{get}
use Rattle.mac_order.specs.Buffer.{Buffer}
use Rattle.mac_order.specs.declared.reorder.TheConstants.{SLOTS}
use Rattle.mac_order.proofs.Waiting.{in_slot-read, get-answers_in}
use Rattle.mac_order.proofs.reorder.Reorder.answer_at.Goals as goal

pub returns : goal.returns
returns g c =
    let inside = c.self.inside in
    let live : inside.closed ≡ false = ap (λ (buffer : Buffer _). buffer.closed) c.self.view_is ∙ c.requires.live in
    let full : length inside.answers.items ≡ SLOTS = c.self.invariant.slots_fit ∙ rw live refl in
    let next_is = ap (λ (buffer : Buffer _). buffer.next) c.self.view_is in
    c.as_ref.ensures.value
    ∙ in_slot-read inside.answers.items c.args.place _ _ c.slot_of.ensures full c.index.ensures
    ∙ sym (get-answers_in inside.answers.items inside.next c.args.place (omega arith) (omega arith))
    ∙ ap (λ (buffer : Buffer _). get buffer.answers c.args.place) c.self.view_is
