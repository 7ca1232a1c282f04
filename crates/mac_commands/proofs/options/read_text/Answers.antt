use Rattle.std.proofs.Common.{◌≡◌, ◌∙◌, Option, Some, None, ap, sym}
use Rattle.std.proofs.lemmas.Result.{IfOk-weaker}
use Rattle.clap.specs.Words.{Text, found_of}
use Rattle.clap.proofs.WalkLemmas.{first_value-rows}
use Rattle.mac_commands.proofs.options.read_text.Goals as goal

pub unreachable-requires : goal.unreachable-requires
unreachable-requires c =
    let bad : ◌≡◌ {A = Option Text} None (Some c.requires.0) = c.in-None.ensures ∙ first_value-rows (found_of c.args.options.now) c.args.name.now ∙ c.requires.1.0 in
    cc

pub returns : goal.returns
returns c =
    IfOk-weaker c.from_str.result _ _ (λ t e. sym (first_value-rows (found_of c.args.options.now) c.args.name.now) ∙ sym c.in-Some.ensures ∙ ap Some (sym e)) c.from_str.ensures.ok
