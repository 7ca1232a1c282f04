use Rattle.mac_decide.specs.Answer.{answer_of}
use Rattle.mac_commands.proofs.piping.reply_to.Goals as goal

pub returns : goal.returns
unfolding answer_of
returns c = rw (c.in_ok-job.ensures, c.all.ensures) at c.answer.ensures.reply
