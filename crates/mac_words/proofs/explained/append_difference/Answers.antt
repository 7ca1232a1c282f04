use Rattle.std.proofs.Common.{codes}
use Rattle.std.specs.Fmt.{decimal}
use Rattle.mac_words.specs.Escaped.{escaped}
use Rattle.mac_words.proofs.Appends.{four}
use Rattle.mac_words.proofs.explained.append_difference.Goals as goal

pub returns : goal.returns
returns c =
    four _ _ _ _ _ (codes "it differs behind its first ") (decimal c.args.count) (codes " bytes from the nearest fact: ") (escaped c.args.fact.now)
    c.in_ok-extend_from_slice.ensures.items c.in_ok-append_count.ensures c.in_ok-extend_from_slice-2.ensures.items c.in_ok-append_escaped.ensures
