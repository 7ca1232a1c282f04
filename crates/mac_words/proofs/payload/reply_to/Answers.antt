use Rattle.mac_decide.specs.Answer.{answer_of}
use Rattle.mac_words.proofs.payload.reply_to.Goals as goal

pub returns-clause-reply : goal.returns-clause-reply
unfolding answer_of
returns-clause-reply c = rw (c.in_ok-job.ensures, c.new.ensures, c.all.ensures) at c.answer.ensures.reply
