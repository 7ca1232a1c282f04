use Rattle.std.proofs.Common.{◌∙◌, ◌++◌, ◌∷◌, [], ap, sym}
use Rattle.std.proofs.lemmas.List.{append-nil}
use Rattle.std.proofs.lemmas.Result.{IfOk-weaker}
use Rattle.mac_keys.specs.Table.{lines_of}
use Rattle.mac_keys.proofs.ChangeLemmas.{is_lower, two_found}
use Rattle.mac_keys.proofs.Whole.{to_the_end}
use Rattle.mac_keys.proofs.change.copy_lower.Goals as goal

pub unreachable-requires : goal.unreachable-requires
unreachable-requires c = two_found c.args.text.now c.args.name.now c.requires c.in_default.ensures

pub returns : goal.returns
returns c =
    let text = c.args.text.now in
    let shown = c.first_line.result.now in
    let here = ap lines_of (sym (to_the_end text c.in-Some.start)) ∙ c.first_line.ensures.1 in
    IfOk-weaker c.join.result _ _ (λ line is. is_lower c.args.name.now text line.items shown c.first_line.ensures.0 c.in-Some.start _ c.requires c.in-Some.ensures here
    (is ∙ append-nil (shown ++ 10 ∷ []))) c.join.ensures
