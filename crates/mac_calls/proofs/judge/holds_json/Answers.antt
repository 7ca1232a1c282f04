use Rattle.std.proofs.Common.{◌∙◌, ℕ, List, ap, map}
use Rattle.serde_json.specs.Data.{boolean}
use Rattle.serde_json.specs.View.{view}
use Rattle.mac_calls.specs.Judged.{holding}
use Rattle.mac_calls.proofs.JudgedLemmas.{holds_text}
use Rattle.mac_calls.proofs.judge.holds_json.Goals as goal

pub returns : goal.returns
returns c =
    let x = c.args.context.now in
    let values = c.in_ok-values.ensures ∙ ap (λ (caveats : List (List ℕ)). map boolean (holding caveats x)) c.caveat_list.ensures.value in
    holds_text (holding c.args.token.now.caveats x) (view c.in_ok-object.object) c.in_ok-to_vec.field-0.items
    (c.in_ok-object.ensures _ values) c.in_ok-to_vec.ensures.text
