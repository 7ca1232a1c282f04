use Rattle.mac_words.proofs.InspectedLemmas.{line_made}
use Rattle.mac_words.proofs.caveat_lines.append_line.Goals as goal

pub returns : goal.returns
returns c = line_made c.args.place c.args.caveat.now _ _ _ _ c.in_ok-append_front.ensures c.in_ok-append_words.ensures c.in_ok-extend_from_slice.ensures.items
