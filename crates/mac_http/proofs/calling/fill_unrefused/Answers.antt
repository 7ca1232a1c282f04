use Rattle.std.proofs.Common.{◌≡◌, ◌∷◌, [], bytes_eq, false, rules, refl}
use Rattle.http.specs.Request.{head_of}
use Rattle.mac_http.proofs.calling.fill_unrefused.Goals as goal

pub returns-then-ne-clause-told : goal.returns-then-ne-clause-told
returns-then-ne-clause-told c =
    let other : bytes_eq (head_of c.args.called.request.now).method (80 ∷ 79 ∷ 83 ∷ 84 ∷ []) ≡ false =
    search (rules, c.method.ensures, c.ne.ensures, c.if-ne.true) in
    rw other c.in_ok-refuse_method.ensures

pub returns-then-ne-clause-noted : goal.returns-then-ne-clause-noted
returns-then-ne-clause-noted c =
    let other : bytes_eq (head_of c.args.called.request.now).method (80 ∷ 79 ∷ 83 ∷ 84 ∷ []) ≡ false =
    search (rules, c.method.ensures, c.ne.ensures, c.if-ne.true) in
    rw other refl
