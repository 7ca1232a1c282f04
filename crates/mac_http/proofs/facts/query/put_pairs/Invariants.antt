use Rattle.std.proofs.Common.{◌≡◌, ◌++◌, length}
use Rattle.std.specs.List.{flat_map}
use Rattle.form_urlencoded.specs.Form.{raw_pairs}
use Rattle.form_urlencoded.specs.Parse.{raw_pairs_left}
use Rattle.mac_token.specs.RawToken.{byte_lists}
use Rattle.mac_http.specs.Facts.{fact_of_pair}
use Rattle.mac_http.proofs.facts.query.put_pairs.Given as goal

-- the facts so far, and those of the pairs that are left, are all
abbrev pub invariant-loop-name : goal.invariant-loop-name
invariant-loop-name l =
    byte_lists l.facts.items ++ flat_map fact_of_pair (raw_pairs_left l.left)
    ≡ byte_lists l.fn.facts.items ++ flat_map fact_of_pair (raw_pairs l.fn.query)

abbrev pub decreases-loop-name : goal.decreases-loop-name
decreases-loop-name l = length (raw_pairs_left l.left)
