use Rattle.std.proofs.Common.{codes}
use Rattle.std.specs.Fmt.{decimal}
use Rattle.mac_token.specs.Read.{read_of}
use Rattle.mac_words.specs.Escaped.{escaped}
use Rattle.mac_words.specs.ReplyText.{caveat_at}
use Rattle.mac_words.proofs.Appends.{four}
use Rattle.mac_words.proofs.reply_text.append_unsatisfied.Goals as goal

pub returns : goal.returns
returns c =
    four _ _ _ _ _ (codes "refused 24: caveat ") (decimal c.args.index) (codes " is not satisfied: ") (escaped (caveat_at (read_of c.args.token.now) c.args.index))
    c.in_ok-extend_from_slice.ensures.items c.in_ok-append_index.ensures c.in_ok-extend_from_slice-2.ensures.items c.in_ok-append_named.ensures
