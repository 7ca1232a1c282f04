use Rattle.std.proofs.Common.{rules, ◌∷◌, [], append_assoc}
use Rattle.mac_commands.specs.ReplyLine.{reply_line, reply_words}
use Rattle.mac_commands.proofs.reply_line.append_reply_line.Goals as goal

pub returns : goal.returns
unfolding reply_line
returns c = rw (← append_assoc c.args.out.now.items (reply_words c.args.reply.now) (10 ∷ [])) (search rules)
