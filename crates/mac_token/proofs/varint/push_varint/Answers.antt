use Rattle.std.proofs.Common.{ℕ, List, [], ◌∷◌, ◌++◌, ◌+◌, ◌%◌, ◌/◌, ap, sym, ◌∙◌}
use Rattle.std.proofs.lemmas.List.{append_assoc}
use Rattle.mac_token.specs.Varint.{varint}
use Rattle.mac_token.proofs.VarintLemmas.{varint_low, varint_high}
use Rattle.mac_token.proofs.varint.push_varint.Goals as goal

pub loop-rest-preserved : goal.loop-rest-preserved
loop-rest-preserved c =
    rw c.in_ok-push.ensures.items
    (append_assoc c.loop-rest.out.items ((128 + c.loop-rest.rest % 128) ∷ []) (varint (c.loop-rest.rest / 128))
    ∙ ap (λ (t : List ℕ). c.loop-rest.out.items ++ t) (sym (varint_high c.loop-rest.rest c.loop-rest-test.true))
    ∙ c.loop-rest.invariant)

pub returns : goal.returns
returns c =
    rw c.in_ok-push-2.ensures.items
    (ap (λ (t : List ℕ). c.loop-rest.out.items ++ t) (sym (varint_low c.loop-rest.rest c.loop-rest-test.false)) ∙ c.loop-rest.invariant)
