use Rattle.mac_count.proofs.TextLemmas.{two_put}
use Rattle.mac_count.proofs.time_texts.append_times_lines.Goals as goal

pub returns : goal.returns
returns c = two_put c.append_sum.result c.args.out.now.items c.append_all_bounds.new.out.items c.append_sum.new.out.items
    _ _ c.in_ok-append_all_bounds.ensures c.append_sum.ensures
