use Rattle.std.proofs.Common.{◌∙◌, ap, sym, subst}
use Rattle.mac_plain.specs.Lives.{Rests}
use Rattle.mac_loop.proofs.AliveLemmas.{leaves}
use Rattle.mac_loop.proofs.members.Member.part.Goals as goal

pub invariant_of-result : goal.invariant_of-result
invariant_of-result g c =
    let member = c.args.self in
    record {
      rests = subst (λ parts. ∥ Rests parts.2.value parts.0.came parts.0.went parts.1 ∥₁) (sym c.into_parts-port.ensures.parts)
          (leaves member.client c.requires member.lives);
      called = record { noted = member.called.noted; under = member.called.under ∙ sym (ap (λ parts. parts.2.value) c.into_parts-port.ensures.parts) };
    }
