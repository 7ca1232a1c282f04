use Rattle.std.proofs.Common.{◌≡◌, [], drop}
use Rattle.serde_json.specs.View.{items_view}
use Rattle.mac_token.specs.RawToken.{byte_lists}
use Rattle.mac_calls.specs.Members.{texts_from}
use Rattle.mac_calls.proofs.members.texts_of.Given as goal

-- the texts so far, with the items that are left, give what all items give
abbrev pub invariant-loop-item : goal.invariant-loop-item
invariant-loop-item l =
    texts_from l.why (byte_lists l.texts.items) (items_view (drop l.item-index l.item-items)) ≡ texts_from l.why [] (items_view l.item-items)
