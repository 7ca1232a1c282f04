use Rattle.std.proofs.Common.{◌≡◌, ◌≤◌, List, [], ◌∷◌, length, get_or, set, rules, sym, subst}
use Rattle.std.specs.Prelude.{IfSome, Option, Some, slice_get}
use Rattle.mac_decide.specs.Prepared.{reply_to_job}
use Rattle.mac_plain.specs.Client.{answer_under, terms_for}
use Rattle.mac_plain.specs.Goes.{AreAnswered, Goes}
use Rattle.mac_plain.specs.Requests.{asked_of, job_at, payload_at}
use Rattle.mac_plain.specs.declared.client.Client.{Client}
use Rattle.mac_plain.specs.declared.request.RoundRequest.{RoundRequest}
use Rattle.mac_plain.proofs.Pairs.{nobody_answered, one_answered, read_at}
use Rattle.mac_plain.proofs.answering.give.Goals as goal

pub returns-then-owner-clients : goal.returns-then-owner-clients
returns-then-owner-clients g c current arena request one_is reply_is =
    let clients = c.args.clients.now in
    let none : RoundRequest = record { owner = 0; start = 0; end = 0 } in
    let now = c.index-clients-owner.result in
    let next = c.answer.new.self in
    let there = read_at clients (get_or c.args.one.now 0 none).owner now (search rules) c.index-clients-owner.is in
    let there' = subst (λ (l : List RoundRequest). slice_get clients (get_or l 0 none).owner ≡ Some now) one_is there in
    let found = subst (λ (o : Option (Client g.row.P.Denot)). IfSome c.args.reply (λ r. r.now ≡ reply_to_job (job_at current arena request o))) there' reply_is in
    let told = subst (λ (x : Client g.row.P.Denot). IfSome c.args.reply (λ r. r.now ≡ answer_under (terms_for current x) (payload_at arena request))) c.index-clients-owner.is found in
    subst (λ (l : List RoundRequest). AreAnswered g.P.Port.tells g.P.Port.taken g.P.Port.written current (λ k. asked_of k arena l) clients (set clients (get_or l 0 none).owner next)) (sym one_is)
    (one_answered g.P.Port.tells g.P.Port.taken g.P.Port.written current arena request clients now next there'
    (subst (λ (x : Client g.row.P.Denot). Goes g.P.Port.tells g.P.Port.taken g.P.Port.written current x next (payload_at arena request ∷ []) []) (sym c.index-clients-owner.is)
    (c.answer.ensures current (payload_at arena request) told)))

pub returns-else-owner-clients : goal.returns-else-owner-clients
returns-else-owner-clients g c current arena request one_is reply_is =
    let clients = c.args.clients.now in
    let none : RoundRequest = record { owner = 0; start = 0; end = 0 } in
    let out : length clients ≤ (get_or c.args.one.now 0 none).owner = search rules in
    subst (λ (l : List RoundRequest). AreAnswered g.P.Port.tells g.P.Port.taken g.P.Port.written current (λ k. asked_of k arena l) clients clients) (sym one_is)
    (nobody_answered g.P.Port.tells g.P.Port.taken g.P.Port.written current arena request clients (subst (λ (l : List RoundRequest). length clients ≤ (get_or l 0 none).owner) one_is out))
