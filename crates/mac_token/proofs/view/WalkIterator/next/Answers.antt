use Rattle.std.proofs.Common.{◌≡◌, ◌∙◌, List, ℕ, sym, ap, arith, length}
use Rattle.mac_token.specs.Section.{SectionParts}
use Rattle.mac_token.proofs.CaveatsIn.{walk_on, walk_ends}
use Rattle.mac_token.proofs.view.WalkIterator.next.Goals as goal

pub returns-in_err-section-clause-steps : goal.returns-in_err-section-clause-steps
returns-in_err-section-clause-steps c =
    let none = walk_ends c.self.inside.version c.self.inside.rest.now (sym c.in_err-section.ensures) in
    let left = sym c.self.view_is ∙ none in
    rw c.from_residual.ensures (left, left)

pub invariant_of-self : goal.invariant_of-self
invariant_of-self c =
    let on = walk_on c.self.inside.version c.self.inside.rest.now c.in_ok-section.section c.in_ok-section.rest.now c.self.invariant.0 c.self.invariant.1 (sym c.in_ok-section.ensures) in
    (on.read, on.fits)

pub returns-clause-steps : goal.returns-clause-steps
returns-clause-steps c =
    let on = walk_on c.self.inside.version c.self.inside.rest.now c.in_ok-section.section c.in_ok-section.rest.now c.self.invariant.0 c.self.invariant.1 (sym c.in_ok-section.ensures) in
    let identifier : c.section-2.inside.identifier.now ≡ c.in_ok-section.section.identifier = ap (λ (s : SectionParts). s.identifier) c.section-2.view_is in
    rw identifier (sym c.self.view_is ∙ on.ids)

pub returns-clause-goes : goal.returns-clause-goes
returns-clause-goes c =
    let one = ap (length {A = List ℕ}) (returns-clause-steps c) in
    record { on = λ finite. (tt, tt, omega (arith, one)); keeps = tt; rests = λ finite. tt }
