use Rattle.std.proofs.Common.{ap, ◌∙◌, ◌++◌, [], take}
use Rattle.std.proofs.lemmas.Result.{IfOk-weaker}
use Rattle.mac_keys.proofs.ChangeLemmas.{drops_key, takes_lower, two_found}
use Rattle.mac_keys.proofs.Whole.{to_the_end}
use Rattle.mac_keys.proofs.change.take_lower.Goals as goal

pub unreachable-requires : goal.unreachable-requires
unreachable-requires c = two_found c.args.text.now c.args.name.now c.requires c.in_default.ensures

pub returns-clause-text : goal.returns-clause-text
returns-clause-text c =
    let text = c.args.text.now in
    let front = take c.in-Some.start text ++ [] in
    IfOk-weaker c.join.result _ _ (λ changed is. takes_lower c.args.name.now text changed.items c.in-Some.start c.in-Some.end c.requires c.in-Some.ensures
    (is ∙ ap (λ back. front ++ back) (to_the_end text c.in-Some.end))) c.join.ensures

pub returns-clause-table : goal.returns-clause-table
returns-clause-table c =
    let text = c.args.text.now in
    let front = take c.in-Some.start text ++ [] in
    IfOk-weaker c.join.result _ _ (λ changed is. drops_key c.args.name.now text changed.items c.in-Some.start c.in-Some.end c.requires c.in-Some.ensures
    (is ∙ ap (λ back. front ++ back) (to_the_end text c.in-Some.end))) c.join.ensures
