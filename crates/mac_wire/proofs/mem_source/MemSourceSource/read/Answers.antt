use Rattle.std.proofs.Common.{◌≡◌, ◌⊎◌, inl, inr, length, sym, ◌∙◌, ap, eqb, true, arith}
use Rattle.mac_wire.specs.Memory.{after_read}
use Rattle.mac_wire.proofs.Devices.{after_read-moved}
use Rattle.mac_wire.proofs.mem_source.MemSourceSource.read.Goals as goal
use Rattle.mac_wire.proofs.mem_source.MemSourceSource.read.Goals.{else-count-eq0-via-then-count-eq0+else-not-is_empty, else-count-eq0-via-else-count-eq0}

pub returns-else-count-eq0-clause-after : goal.returns-else-count-eq0-clause-after
returns-else-count-eq0-clause-after c =
    let s = c.self.inside in
    let n = c.min-count.result in
    let room = length c.copy_front.new.to in
    let moved : (n ≡ 0 → ⊥) ⊎ (eqb room 0 ≡ true) → _ = after_read-moved s.bytes.items s.at s.piece s.fails c.saturating_sub-self-inside.result s.faults room n s.has_ended c.if-self-eq1.false (omega (arith, s.bytes.ok.0)) c.saturating_sub-self-inside.ensures in
    elim c.else-count-eq0.branch [
      | else-count-eq0-via-then-count-eq0+else-not-is_empty w ↦
          w.self-is ∙ moved (inr (sym w.is_empty.ensures ∙ w.if-not-is_empty.false)) ∙ ap (λ x. after_read x room) c.self.view_is
      | else-count-eq0-via-else-count-eq0 w ↦
          w.self-is ∙ moved (inl w.if-count-eq0.false) ∙ ap (λ x. after_read x room) c.self.view_is
    ]
