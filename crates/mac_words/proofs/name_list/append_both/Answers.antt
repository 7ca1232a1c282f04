use Rattle.std.proofs.Common.{codes}
use Rattle.mac_calls.specs.Fingerprint.{fingerprint}
use Rattle.mac_words.specs.NameList.{second_words}
use Rattle.mac_words.proofs.Appends.{three}
use Rattle.mac_words.proofs.name_list.append_both.Goals as goal

pub returns : goal.returns
returns c =
    three _ _ _ _ (codes ": two keys, ") (fingerprint c.args.first.now) (second_words c.args.second.now)
    c.in_ok-extend_from_slice.ensures.items c.in_ok-append_fingerprint.ensures c.in_ok-append_second.ensures
