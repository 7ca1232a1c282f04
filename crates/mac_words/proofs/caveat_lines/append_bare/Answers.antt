use Rattle.mac_words.proofs.InspectedLemmas.{bare_told}
use Rattle.mac_words.proofs.caveat_lines.append_bare.Goals as goal

pub returns : goal.returns
returns c = bare_told c.args.id.now _ _ _ c.in_ok-append_escaped.ensures c.in_ok-append_bound.ensures
