use Rattle.std.proofs.Common.{ap, sym, ◌∙◌, arith}
use Rattle.std.proofs.lemmas.List.{take_rest, drop_all}
use Rattle.mac_token.specs.V2Reading.{varint_with, varint_at}
use Rattle.mac_token.proofs.VarintLemmas.{varint_takes, varint_with_none, varint_with_more, varint_with_end, no_varint, at_byte, varint_with_zero, varint_with_last, number_least}
use Rattle.mac_token.proofs.varint.read_varint.Goals as goal

pub loop-i-init : goal.loop-i-init
loop-i-init c = record { whole = sym (varint_with_none _); positive = omega arith }

pub returns-in_err-number-clause-none : goal.returns-in_err-number-clause-none
returns-in_err-number-clause-none c =
    rw c.from_residual.ensures (λ n rest small is.
    let p = number_least _ _ _ _ _ n rest (at_byte _ _ _ _ c.loop-i-test.true c.loop-i.invariant.whole) is in
    c.in_err-number.ensures (omega (arith, p.0, small)))

pub returns-then-unit-gt1-clause-none : goal.returns-then-unit-gt1-clause-none
returns-then-unit-gt1-clause-none c = λ n rest small is.
    no_varint _ rest n (at_byte _ _ _ _ c.loop-i-test.true c.loop-i.invariant.whole ∙ rw c.if-byte-eq0.true (varint_with_zero _ _ _ c.if-unit-gt1.true)) is

pub returns-then-byte-lt128-clause-found : goal.returns-then-byte-lt128-clause-found
returns-then-byte-lt128-clause-found c =
    rw (take_rest, c.in_ok-number.ensures.1) (varint_takes _ _ _ (λ i. omega (arith, c.type_inv.bytes i))
    (at_byte _ _ _ _ c.loop-i-test.true c.loop-i.invariant.whole ∙ varint_with_last _ _ _ _ c.if-byte-lt128.true (λ zero. omega arith)))

pub returns-in_err-unit-clause-none : goal.returns-in_err-unit-clause-none
returns-in_err-unit-clause-none c = rw c.from_residual-in_err-unit.ensures (λ n rest small is.
    let p = number_least _ _ _ _ _ n rest (at_byte _ _ _ _ c.loop-i-test.true c.loop-i.invariant.whole) is in
    c.in_err-unit.ensures (omega (arith, p.1 c.if-byte-lt128.false, small)))

pub loop-i-preserved : goal.loop-i-preserved
loop-i-preserved c = record {
  whole = rw (c.in_ok-number.ensures.1, c.in_ok-unit.ensures.1) (at_byte _ _ _ _ c.loop-i-test.true c.loop-i.invariant.whole ∙ varint_with_more _ _ _ _ c.loop-i.invariant.positive c.if-byte-lt128.false);
  positive = omega (arith, c.in_ok-unit.ensures.1, c.loop-i.invariant.positive);
}

pub returns-clause-none : goal.returns-clause-none
returns-clause-none c = λ n rest small is.
    no_varint _ rest n (c.loop-i.invariant.whole ∙ ap (λ t. varint_with c.loop-i.number c.loop-i.unit (varint_at t)) (drop_all c.loop-i.i c.args.bytes.now c.loop-i-test.false) ∙ varint_with_end _ _) is
