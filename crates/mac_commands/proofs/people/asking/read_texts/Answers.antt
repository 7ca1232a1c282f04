use Rattle.std.proofs.Common.{◌∙◌, ap}
use Rattle.std.proofs.lemmas.Result.{IfOk-weaker}
use Rattle.clap.specs.Words.{found_of}
use Rattle.clap.proofs.WalkLemmas.{raw_values-rows}
use Rattle.mac_words.specs.Payload.{texts_of}
use Rattle.mac_commands.specs.People.{texts_given}
use Rattle.mac_commands.proofs.people.asking.read_texts.Goals as goal

pub returns-in-Some : goal.returns-in-Some
returns-in-Some c = IfOk-weaker c.copy_texts.result _ _ (λ v e. e ∙ ap texts_given (c.in-Some.ensures ∙ raw_values-rows (found_of c.args.options.now) c.args.name.now)) c.copy_texts.ensures

pub returns-in-None : goal.returns-in-None
returns-in-None c = ap texts_of c.new.ensures.items ∙ ap texts_given (c.in-None.ensures ∙ raw_values-rows (found_of c.args.options.now) c.args.name.now)
