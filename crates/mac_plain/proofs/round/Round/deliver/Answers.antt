use Rattle.std.proofs.Common.{ap, sym, ◌∙◌}
use Rattle.mac_decide.specs.Prepared.{reply_to_job}
use Rattle.mac_plain.proofs.round.Round.deliver.Goals as goal

pub remember-requires : goal.remember-requires
remember-requires g c = c.into_parts-job.ensures.reply ∙ ap reply_to_job (sym (c.of-view.ensures ∙ c.into_parts-job.ensures.job))
