-- To empty the slot of the next place is to remove its answer.
use Rattle.std.proofs.Common.{◌≡◌, false, length, refl, sym, ◌∙◌, ap, arith}
use Rattle.std.specs.FinMap.{get}
use Rattle.mac_order.specs.Buffer.{Buffer}
use Rattle.mac_order.specs.declared.reorder.TheConstants.{SLOTS}
use Rattle.mac_order.proofs.Waiting.{in_slot-read, get-answers_in, answers_in-next}
use Rattle.mac_order.proofs.Bounded.{not_some, bounded, bounded-sent_off}
use Rattle.mac_order.proofs.reorder.Reorder.send.Goals as goal

pub unreachable-requires : goal.unreachable-requires
unreachable-requires g c =
    let inside = c.self.inside in
    let live : inside.closed ≡ false = ap (λ (buffer : Buffer _). buffer.closed) c.self.view_is ∙ c.requires.live in
    let full : length inside.answers.items ≡ SLOTS = c.self.invariant.slots_fit ∙ rw live refl in
    not_some _
    (sym (ap (λ (buffer : Buffer _). get buffer.answers buffer.next) c.self.view_is)
    ∙ get-answers_in inside.answers.items inside.next inside.next (omega arith) (omega arith)
    ∙ sym (in_slot-read inside.answers.items inside.next _ _ c.slot_of.ensures full c.index_mut.ensures.value)
    ∙ sym c.take.ensures.value
    ∙ c.in-None.is)
    c.requires.settled

pub returns-clause-next : goal.returns-clause-next
returns-clause-next g c =
    let inside = c.self.inside in
    let live : inside.closed ≡ false = ap (λ (buffer : Buffer _). buffer.closed) c.self.view_is ∙ c.requires.live in
    let full : length inside.answers.items ≡ SLOTS = c.self.invariant.slots_fit ∙ rw live refl in
    let waits =
    get-answers_in inside.answers.items inside.next inside.next (omega arith) (omega arith)
    ∙ sym (in_slot-read inside.answers.items inside.next _ _ c.slot_of.ensures full c.index_mut.ensures.value)
    ∙ sym c.take.ensures.value
    ∙ c.in-Some.is in
    rw (← c.self.view_is, waits, c.into_reply.ensures) refl

pub returns-clause-sent : goal.returns-clause-sent
returns-clause-sent g c =
    let inside = c.self.inside in
    let live : inside.closed ≡ false = ap (λ (buffer : Buffer _). buffer.closed) c.self.view_is ∙ c.requires.live in
    let full : length inside.answers.items ≡ SLOTS = c.self.invariant.slots_fit ∙ rw live refl in
    rw (c.slot_of.ensures, c.take.ensures.after, c.pop_front.ensures.rest, answers_in-next inside.answers.items inside.next full, live, ← c.self.view_is) refl

pub returns-clause-bounded : goal.returns-clause-bounded
returns-clause-bounded g c =
    let inside = c.self.inside in
    let live : inside.closed ≡ false = ap (λ (buffer : Buffer _). buffer.closed) c.self.view_is ∙ c.requires.live in
    let full : length inside.answers.items ≡ SLOTS = c.self.invariant.slots_fit ∙ rw live refl in
    let slips_are = ap (λ (buffer : Buffer _). length buffer.slips) c.self.view_is in
    rw (c.slot_of.ensures, c.take.ensures.after, c.pop_front.ensures.rest, answers_in-next inside.answers.items inside.next full, live)
    (bounded-sent_off (bounded _ _ _ _ _ c.self.invariant) (omega arith))
