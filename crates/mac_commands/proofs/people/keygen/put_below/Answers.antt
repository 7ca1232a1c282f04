use Rattle.std.proofs.Common.{ℕ, List, subst, sym}
use Rattle.std.proofs.lemmas.Result.{IfOk-weaker}
use Rattle.mac_hmac.specs.Chain.{root_of}
use Rattle.mac_keys.specs.Change.{AddsLower, IsKeyLine}
use Rattle.mac_commands.proofs.people.keygen.put_below.Goals as goal

pub returns : goal.returns
returns g c =
    let made = c.in_ok-line.ensures in
    let secret : List ℕ = made.0 in
    let made_line : List ℕ = c.in_ok-line.line.items in
    let key : IsKeyLine c.args.name.now secret made_line = made.2.3 in
    let named : IsKeyLine c.as_bytes.result.now secret made_line = subst (λ (name : List ℕ). IsKeyLine name secret made_line) (sym c.as_bytes.ensures.value) key in
    let here : IsKeyLine c.as_bytes.result.now secret c.as_slice.result.now = subst (λ (line : List ℕ). IsKeyLine c.as_bytes.result.now secret line) (sym c.as_slice.ensures.value) named in
    IfOk-weaker c.add_below-changed.result _ _ (λ changed adds. (secret, subst (λ (name : List ℕ). AddsLower name (root_of secret) c.args.text.now changed.items) c.as_bytes.ensures.value (adds secret here))) c.add_below-changed.ensures.table
