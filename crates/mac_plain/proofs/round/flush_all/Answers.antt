use Rattle.std.proofs.Common.{[], rules, sym, subst}
use Rattle.mac_plain.specs.Goes.{Goes}
use Rattle.mac_plain.specs.declared.client.Client.{Client}
use Rattle.mac_plain.proofs.Pairs.{nobody_goes, one_flushed, read_at}
use Rattle.mac_plain.proofs.round.flush_all.Goals as goal

pub loop-index-init : goal.loop-index-init
loop-index-init g c current = nobody_goes g.P.Port.tells g.P.Port.taken g.P.Port.written current c.args.clients.now

pub loop-index-preserved : goal.loop-index-preserved
loop-index-preserved g c current =
    let i = c.loop-index.index in
    let now = c.index-clients-index.result in
    one_flushed g.P.Port.tells g.P.Port.taken g.P.Port.written current c.args.clients.now c.loop-index.clients i now c.flush.new.self
    (read_at c.loop-index.clients i now (search rules) c.index-clients-index.is) (subst (λ (x : Client g.row.P.Denot). Goes g.P.Port.tells g.P.Port.taken g.P.Port.written current x c.flush.new.self [] []) (sym c.index-clients-index.is) (c.flush.ensures current))
    (c.loop-index.invariant current)
