use Rattle.std.proofs.Common.{◌+◌, ◌∙◌, ℕ, ap, sum_by, sym, take}
use Rattle.std.proofs.lemmas.List.Sums.{sum_by_more}
use Rattle.mac_plain.specs.declared.client.Client.{Client}
use Rattle.mac_loop.specs.Unsent.{unsent_on}
use Rattle.mac_loop.specs.declared.port.SocketPort.{SocketPort}
use Rattle.mac_loop.proofs.BacklogLemmas.{comes}
use Rattle.mac_loop.proofs.batch.unsent_on_all.Goals as goal

pub loop-client-preserved : goal.loop-client-preserved
loop-client-preserved c =
    let clients = c.args.clients.now in
    let at = c.loop-client.client-index in
    let so_far = sum_by unsent_on (take at clients) in
    comes _ _ _ _ (c.add.ensures so_far c.loop-client.invariant)
    (sum_by_more unsent_on clients at c.client-item.result c.loop-client-test.true
    ∙ ap (λ (client : Client SocketPort). so_far + unsent_on client) (sym c.client-item.is)
    ∙ ap (λ (n : ℕ). so_far + n) (sym c.unsent.ensures))
