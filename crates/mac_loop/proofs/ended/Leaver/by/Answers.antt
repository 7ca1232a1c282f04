use Rattle.std.proofs.Common.{ap, sym, subst}
use Rattle.mac_plain.specs.Lives.{Said}
use Rattle.mac_loop.proofs.AliveLemmas.{speaks}
use Rattle.mac_loop.proofs.RegisterLemmas.{calls}
use Rattle.mac_loop.proofs.ended.Leaver.by.Goals as goal

pub invariant_of-ended : goal.invariant_of-ended
invariant_of-ended g c = record {
  said = subst (λ parts. ∥ Said parts.1.value parts.0.came parts.0.went ∥₁) (sym c.end-port.ensures) (speaks c.args.member.client c.args.member.lives);
  all = λ none. absurd cc;
}

pub invariant_of-result : goal.invariant_of-result
invariant_of-result g c = record {
  called = calls _ _ _ _ _ c.life-life.ensures (ap (λ parts. parts.1.value) c.end-port.ensures) c.args.member.called;
}
