use Rattle.std.proofs.Common.{◌≤◌, length, rules, sym, subst}
use Rattle.std.proofs.lemmas.List.Elements.{All-nil}
use Rattle.mac_plain.specs.Requests.{AreWithin}
use Rattle.mac_plain.specs.Receiving.{Receives}
use Rattle.mac_plain.specs.declared.client.Client.{Client}
use Rattle.mac_plain.specs.declared.request.RoundRequest.{RoundRequest}
use Rattle.mac_plain.proofs.Pairs.{one_read, read_at, still_read}
use Rattle.mac_plain.proofs.round.receive_all.Goals as goal

pub loop-index-init : goal.loop-index-init
loop-index-init g c = record {
  within = subst (AreWithin (length c.args.intake.now.arena.items)) (sym c.requires) (All-nil (λ (r : RoundRequest). (r.start ≤ r.end) × (r.end ≤ length c.args.intake.now.arena.items)));
  read = λ current. still_read g.P.Port.tells g.P.Port.taken g.P.Port.written current c.args.intake.now.arena.items c.args.intake.now.requests.items c.args.clients.now c.requires;
}

pub loop-index-preserved : goal.loop-index-preserved
loop-index-preserved g c =
    let i = c.loop-index.index in
    let now = c.index-clients-index.result in
    let there = read_at c.loop-index.clients i now (search rules) c.index-clients-index.is in
    record {
      within = c.visit.ensures.within;
      read = λ current.
          one_read g.P.Port.tells g.P.Port.taken g.P.Port.written current c.args.clients.now c.loop-index.clients i now c.visit.new.client
          c.loop-index.intake.arena.items c.visit.new.intake.arena.items c.loop-index.intake.requests.items c.visit.new.intake.requests.items there c.loop-index.invariant.within
          (subst (λ (x : Client g.row.P.Denot). Receives g.P.Port.tells g.P.Port.taken g.P.Port.written current i x c.visit.new.client c.loop-index.intake.arena.items c.visit.new.intake.arena.items
          c.loop-index.intake.requests.items c.visit.new.intake.requests.items) (sym c.index-clients-index.is) (c.visit.ensures.receives current)) (c.loop-index.invariant.read current);
    }
