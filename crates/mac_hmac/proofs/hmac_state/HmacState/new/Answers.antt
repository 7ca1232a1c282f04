use Rattle.std.proofs.Common.{◌∙◌, sym}
use Rattle.mac_hmac.proofs.HmacLemmas.{fitted_key-short, fitted_key-long, Holds-fitted}
use Rattle.mac_hmac.proofs.hmac_state.HmacState.new.Goals as goal

pub returns-then-key-le-BLOCK : goal.returns-then-key-le-BLOCK
returns-then-key-le-BLOCK c =
    let fitted = fitted_key-short c.args.key.now c.if-key-le-BLOCK.true in
    Holds-fitted c.of_fitted.result c.args.key.now c.args.key.now fitted c.of_fitted.ensures.inner c.of_fitted.ensures.outer

pub returns-else-key-le-BLOCK : goal.returns-else-key-le-BLOCK
returns-else-key-le-BLOCK c =
    let made = c.of_fitted-else-key-le-BLOCK in
    let fitted = fitted_key-long c.args.key.now c.if-key-le-BLOCK.false ∙ sym c.digest-digest.ensures in
    Holds-fitted made.result c.args.key.now c.digest-digest.result fitted made.ensures.inner made.ensures.outer
