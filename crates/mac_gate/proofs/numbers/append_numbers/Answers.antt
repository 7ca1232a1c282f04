use Rattle.mac_count.proofs.TextLemmas.{two_put}
use Rattle.mac_gate.proofs.numbers.append_numbers.Goals as goal

pub returns : goal.returns
returns c = two_put c.append_metrics.result c.args.text.now.items c.append_version_metric.new.text.items c.append_metrics.new.out.items
    _ _ c.in_ok-append_version_metric.ensures c.append_metrics.ensures
