use Rattle.std.proofs.Common.{sym, ap, subst, ◌∙◌}
use Rattle.std.proofs.lemmas.Result.{on_ok_weaker}
use Rattle.mac_keys.specs.Filter.{AdmitsAll, hash_of, may_have}
use Rattle.mac_keys.proofs.FilterLemmas.{admits-with}
use Rattle.mac_keys.proofs.revoked.Lists.add_noted.Goals as goal

pub returns-clause-noted : goal.returns-clause-noted
returns-clause-noted c =
    let this = ap (λ bytes. may_have c.add.new.self (hash_of bytes)) (sym c.as_slice.ensures.value) ∙ ap (may_have c.add.new.self) (sym c.hash_identifier.ensures) ∙ c.add.ensures.this in
    on_ok_weaker c.add-2.result (λ said all. subst (λ list. AdmitsAll list c.add.new.self) (sym said) (admits-with c.args.self.now _ c.args.filter.now c.add.new.self all this c.add.ensures.others)) c.add-2.ensures
