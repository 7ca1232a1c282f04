use Rattle.std.proofs.Common.{rules, ℕ, List, ◌≡◌, ◌++◌, length, take, drop, map, All, sym, ap, subst, ◌∙◌}
use Rattle.std.proofs.Math.Seq.{take-append_seam}
use Rattle.mac_plain.specs.declared.client.Client.{Client}
use Rattle.mac_loop.specs.declared.port.SocketPort.{SocketPort}
use Rattle.mac_loop.specs.Alive.{IsAlive}
use Rattle.mac_loop.specs.Batch.{rights_of}
use Rattle.mac_loop.proofs.AliveLemmas.{keeps}
use Rattle.mac_loop.proofs.BatchLemmas.{same-rights}
use Rattle.mac_loop.proofs.batch.Batch.serve.Goals as goal

pub invariant_of-self : goal.invariant_of-self
invariant_of-self g c =
    let news : List (Client SocketPort) = c.serve.new.clients in
    let olds : List (Client SocketPort) = c.as_mut_slice-clients.result.now in
    let items : List (Client SocketPort) = c.args.self.now.clients.items in
    let same : length news ≡ length olds = search rules in
    let whole : take c.args.self.now.clients.len (news ++ drop (length news) items) ≡ news =
    ap (λ (n : ℕ). take n (news ++ drop (length news) items)) (sym (same ∙ c.as_mut_slice-clients.ensures.len)) ∙ take-append_seam news (drop (length news) items) in
    record {
      alive = subst (λ (l : List (Client SocketPort)). All IsAlive l) (sym whole)
          (keeps (g.K.Outlook.known c.serve.new.outlook) olds news c.serve.ensures.serves same
          (subst (λ (l : List (Client SocketPort)). All IsAlive l) (sym c.as_mut_slice-clients.ensures.value) c.args.self.now.alive));
      called = ap (λ l. map rights_of l) whole ∙ same-rights olds news same (λ k old new at at'. (c.serve.ensures.serves.each k old new at at').rights_kept)
          ∙ ap (λ l. map rights_of l) c.as_mut_slice-clients.ensures.value ∙ c.args.self.now.called;
    }
