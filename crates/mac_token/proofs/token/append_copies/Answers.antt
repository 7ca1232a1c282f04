use Rattle.std.proofs.Common.{◌∙◌, arith, take}
use Rattle.mac_token.specs.RawToken.{byte_lists}
use Rattle.mac_token.proofs.Lists.{cut_back}
use Rattle.mac_token.proofs.token.append_copies.Goals as goal

pub returns-in-Err-clause-err : goal.returns-in-Err-clause-err
returns-in-Err-clause-err c =
    rw c.truncate.ensures.items (cut_back c.args.list.now.items c.append_copy.new.list.items (byte_lists (take c.loop-bytes.bytes-index c.args.added.now)) c.len-before.result (omega (arith, c.len-before.ensures, c.args.list.now.ok.0)) (c.in-Err.ensures.err ∙ c.loop-bytes.invariant))
