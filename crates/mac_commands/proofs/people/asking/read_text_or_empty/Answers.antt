use Rattle.std.proofs.Common.{◌∙◌, ap}
use Rattle.std.proofs.lemmas.Result.{IfOk-weaker}
use Rattle.clap.specs.Words.{found_of}
use Rattle.clap.proofs.WalkLemmas.{first_value-rows}
use Rattle.mac_commands.specs.People.{text_given}
use Rattle.mac_commands.proofs.people.asking.read_text_or_empty.Goals as goal

pub returns-in-Some : goal.returns-in-Some
returns-in-Some c =
    IfOk-weaker c.from_str.result _ _ (λ t e. e ∙ ap text_given (c.in-Some.ensures ∙ first_value-rows (found_of c.args.options.now) c.args.name.now)) c.from_str.ensures.ok

pub returns-in-None : goal.returns-in-None
returns-in-None c = c.new.ensures.bytes ∙ ap text_given (c.in-None.ensures ∙ first_value-rows (found_of c.args.options.now) c.args.name.now)
