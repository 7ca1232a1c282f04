-- What several threads answer of the jobs of a round.
use Rattle.std.specs.Prelude.{List, All}
use Rattle.mac_wire.specs.Reply.{IsReply}
use Rattle.mac_wire.specs.declared.reply.Reply.{Reply}
use Rattle.mac_decide.specs.declared.job.Job.{Job}
use Rattle.mac_plain.specs.Requests.{AreReplies}

-- these are the replies to the jobs, in order, and each can be sent
abbrev pub AreRepliesTo : List Job → List Reply → Type 0
AreRepliesTo jobs replies = AreReplies jobs replies × All IsReply replies
