use Rattle.mac_count.proofs.TextLemmas.{three_put}
use Rattle.mac_gate.proofs.numbers.append_status_page.Goals as goal

pub returns : goal.returns
returns c = three_put c.append_of_keys.result c.args.text.now.items c.append_version.new.out.items c.append_status.new.out.items c.append_of_keys.new.text.items
    _ _ _ c.in_ok-append_version.ensures c.in_ok-append_status.ensures c.append_of_keys.ensures
