use Rattle.std.proofs.Common.{◌≡◌, sym, ◌∙◌, ap, None}
use Rattle.std.proofs.lemmas.Result.{on_ok_weaker}
use Rattle.std.specs.Prelude.{unwrap_or}
use Rattle.std.specs.FinMap as map
use Rattle.std.specs.FinSet as set
use Rattle.mac_keys.specs.Revoked.{identifiers_of}
use Rattle.mac_keys.proofs.RevokedLemmas.{get-seen, put-seen, written-seen}
use Rattle.mac_keys.proofs.revoked.Lists.add.Goals as goal

pub returns-in-Some : goal.returns-in-Some
returns-in-Some c =
    let had : c.in-Some.identifiers.now ≡ identifiers_of c.args.self.now c.args.name.now =
    sym (ap (λ o. unwrap_or o set.empty) (get-seen c.self.inside.names.entries _ c.args.name.now _ c.self.view_is c.in-Some.ensures.value)) in
    on_ok_weaker c.add.result (λ (added : c.add.new.self ≡ set.insert c.in-Some.identifiers.now c.args.identifier.items).
    written-seen c.self.inside.names.entries _ _ c.args.name.now _ _ c.self.view_is c.in-Some.ensures.value (c.get_mut.follows.holds c.add.new.self).0
    ∙ ap (map.insert c.args.self.now c.args.name.now) (added ∙ ap (λ ids. set.insert ids c.args.identifier.items) had)) c.add.ensures

pub returns-in_ok-insert-in-None : goal.returns-in_ok-insert-in-None
returns-in_ok-insert-in-None c =
    let none : map.get c.args.self.now c.args.name.now ≡ None = get-seen c.self.inside.names.entries _ c.args.name.now _ c.self.view_is c.in-None.ensures.value in
    put-seen c.self.inside.names.entries _ _ _ c.in_ok-name-in-None.name c.args.name.now _ _ c.self.view_is (ap (λ m. m.entries) c.get_mut.follows.holds-at-none) c.in_ok-insert-in-None.ensures.entries c.in_ok-name-in-None.ensures.items
    (c.in_ok-add-in-None.ensures ∙ ap (λ ids. set.insert ids c.args.identifier.items) (c.new-identifiers.ensures ∙ sym (ap (λ o. unwrap_or o set.empty) none)))
