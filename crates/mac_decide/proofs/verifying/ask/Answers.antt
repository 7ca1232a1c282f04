use Rattle.std.proofs.Common.{ap, ◌∙◌, ◌∷◌, option_to_list}
use Rattle.mac_keys.specs.Keys.{listed}
use Rattle.mac_decide.specs.Folding.{Progress, end_of}
use Rattle.mac_decide.specs.Prepared.{verdict_by}
use Rattle.mac_decide.specs.Telling.{verdict_told}
use Rattle.mac_decide.proofs.VerdictLemmas.{verdict_of-alike, verdict_of-by}
use Rattle.mac_decide.proofs.verifying.ask.Goals as goal

pub returns : goal.returns
returns c =
    let telling = c.args.telling in
    let keys = c.args.keys.now in
    let token = c.args.token in
    let context = c.args.context in
    let other = c.other_key.result in
    ap (λ (p : Progress). verdict_told telling token (verdict_by (end_of p) other token context)) c.of_token-folding.ensures
    ∙ ap (verdict_told telling token) (verdict_of-by keys.first other token context)
    ∙ ap (verdict_told telling token) (verdict_of-alike (listed keys) (keys.first ∷ option_to_list other) token context (c.other_key.ensures.minted token))
