use Rattle.std.proofs.Common.{ap, ◌∙◌, ◌++◌, take}
use Rattle.std.proofs.lemmas.Result.{IfOk-weaker}
use Rattle.mac_keys.proofs.ChangeLemmas.{adds_key, one_found, puts_above}
use Rattle.mac_keys.proofs.Whole.{to_the_end}
use Rattle.mac_keys.proofs.change.put_above.Goals as goal

pub unreachable-requires : goal.unreachable-requires
unreachable-requires c = one_found c.args.text.now c.args.name.now c.requires c.in_default.ensures

pub returns-clause-text : goal.returns-clause-text
returns-clause-text c =
    let text = c.args.text.now in
    let front = take c.in-Some.start text ++ c.args.line.now in
    IfOk-weaker c.join.result _ _ (λ changed is. puts_above c.args.name.now c.args.line.now text changed.items c.in-Some.start _ c.requires c.in-Some.ensures
    (is ∙ ap (λ back. front ++ back) (to_the_end text c.in-Some.start))) c.join.ensures

pub returns-clause-table : goal.returns-clause-table
returns-clause-table c =
    let text = c.args.text.now in
    let front = take c.in-Some.start text ++ c.args.line.now in
    IfOk-weaker c.join.result _ _ (λ changed is. adds_key c.args.name.now c.args.line.now text changed.items c.in-Some.start _ c.requires c.in-Some.ensures
    (is ∙ ap (λ back. front ++ back) (to_the_end text c.in-Some.start))) c.join.ensures
