use Rattle.std.proofs.Common.{rules, All, ◌≡◌, ◌∙◌, List, [], ◌∷◌, ◌++◌, ap, map, sym, subst}
use Rattle.std.proofs.lemmas.List.Elements.{All-append, All-cons, All-nil}
use Rattle.mac_plain.specs.declared.client.Client.{Client}
use Rattle.mac_loop.specs.declared.port.SocketPort.{SocketPort}
use Rattle.mac_loop.specs.Alive.{IsAlive}
use Rattle.mac_loop.specs.Batch.{rights_lent, rights_of}
use Rattle.mac_loop.proofs.BatchLemmas.{both-more, popped}
use Rattle.mac_loop.proofs.batch.Batch.push.Goals as goal

pub invariant_of-self-in-Ok : goal.invariant_of-self-in-Ok
invariant_of-self-in-Ok g c =
    let olds : List (Client SocketPort) = c.args.self.now.clients.items in
    let client : Client SocketPort = c.args.member.client in
    let grown : c.push-2.new.self.items ≡ olds ++ client ∷ [] = search rules in
    record {
      alive = subst (λ (l : List (Client SocketPort)). All IsAlive l) (sym grown)
          (All-append IsAlive olds (client ∷ []) c.args.self.now.alive (All-cons IsAlive client [] c.args.member.lives (All-nil IsAlive)));
      called = ap (λ l. map rights_of l) grown
          ∙ both-more rights_of rights_lent olds c.args.self.now.lent.items client _ (sym c.args.member.called.under) c.args.self.now.called
          ∙ sym (ap (λ l. map rights_lent l) c.in_default.ensures.items);
    }

pub invariant_of-self-in-Err-push-clause-called : goal.invariant_of-self-in-Err-push-clause-called
invariant_of-self-in-Err-push-clause-called g c =
    let clients : c.push-2.new.self.items ≡ c.args.self.now.clients.items = search rules in
    let lent : c.pop.new.self.items ≡ c.args.self.now.lent.items = popped _ _ _ _ _ c.in_default.ensures.items (search rules) c.pop.ensures.rest in
    ap (λ l. map rights_of l) clients ∙ c.args.self.now.called ∙ sym (ap (λ l. map rights_lent l) lent)
