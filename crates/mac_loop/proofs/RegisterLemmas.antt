-- What connections were admitted as stays, whatever is done to them.
use Rattle.std.proofs.Common.{◌≡◌, ◌∙◌, ap, subst, sym}
use Rattle.mac_decide.specs.declared.rights.Rights.{Rights}
use Rattle.mac_host.specs.declared.badge.Badge.{Badge}
use Rattle.mac_plain.specs.declared.client.Client.{Client}
use Rattle.mac_loop.specs.Register.{IsCalled}
use Rattle.mac_loop.specs.declared.port.SocketPort.{SocketPort}
use Rattle.mac_loop.specs.declared.register.Admitted.{Admitted}

-- it has the rights that it had
pub still-called : (one : Admitted) (badge : Badge) (before after : Client SocketPort) → after.rights ≡ before.rights
    → IsCalled one badge before.rights.value → IsCalled one badge after.rights.value
still-called one badge before after same called = record { noted = called.noted; under = called.under ∙ ap (λ rights. rights.value) (sym same) }

-- what is known by the same badge, and has the same rights, was admitted as the same
pub calls : (one : Admitted) (before after : Badge) (old new : Rights) → after ≡ before → new ≡ old → IsCalled one before old → IsCalled one after new
calls one before after old new badge rights called =
    subst (λ (b : Badge). IsCalled one b new) (sym badge) (subst (λ (r : Rights). IsCalled one before r) (sym rights) called)
