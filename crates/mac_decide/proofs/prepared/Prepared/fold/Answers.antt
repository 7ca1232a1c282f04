use Rattle.std.proofs.Common.{◌∷◌, [], ap, ◌∙◌}
use Rattle.mac_hmac.specs.Chain.{extended}
use Rattle.mac_decide.specs.Prepared.{left_of, signature_of}
use Rattle.mac_decide.specs.declared.prepared.Prepared.{Prepared}
use Rattle.mac_decide.proofs.prepared.Prepared.fold.Goals as goal

pub fold-requires : goal.fold-requires
fold-requires c = λ text rest is.
    c.requires text rest (ap left_of c.in-Pending.is ∙ is)
    ∙ ap (λ (p : Prepared). extended (signature_of p) (text ∷ [])) c.in-Pending.is
