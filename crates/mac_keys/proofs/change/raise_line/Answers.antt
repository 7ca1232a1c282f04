use Rattle.std.proofs.Common.{List, ℕ, subst, sym}
use Rattle.std.proofs.lemmas.Result.{IfOk-weaker}
use Rattle.mac_hmac.specs.Chain.{root_of}
use Rattle.mac_keys.specs.Change.{AddsKey, HasOne, IsKeyLine}
use Rattle.mac_keys.proofs.ChangeLemmas.{one_left, swaps_keys}
use Rattle.mac_keys.proofs.change.raise_line.Goals as goal

pub put_above-requires : goal.put_above-requires
put_above-requires c =
    subst (λ (rest : List ℕ). HasOne rest c.args.name.now) (sym c.as_slice.ensures.value)
    (one_left c.args.name.now c.args.text.now c.in_ok-rest.rest.items c.in_ok-rest.ensures.table)

pub returns-clause-table : goal.returns-clause-table
returns-clause-table c =
    let name = c.args.name.now in
    let text = c.args.text.now in
    let line = c.in_ok-line.line.items in
    let rest = c.in_ok-rest.rest.items in
    IfOk-weaker c.put_above.result _ _ (λ changed adds. swaps_keys name text rest changed.items line c.in_ok-line.ensures c.in_ok-rest.ensures.table
    (λ secret key. subst (λ (r : List ℕ). AddsKey name (root_of secret) r changed.items) c.as_slice.ensures.value
    (adds secret (subst (λ (l : List ℕ). IsKeyLine name secret l) (sym c.as_slice-2.ensures.value) key)))) c.put_above.ensures.table
