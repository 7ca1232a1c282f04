use Rattle.std.proofs.Common.{◌≡◌, length, arith, ap}
use Rattle.mac_token.specs.Varint.{varint}
use Rattle.mac_token.proofs.VarintLemmas.{varint_low, length-varint_high, length-varint_10}
use Rattle.mac_token.proofs.varint.varint_len.Goals as goal

pub overflow_add-len : goal.overflow_add-len
overflow_add-len c = omega (arith, c.loop-rest.invariant.whole, length-varint_10 c.args.number c.loop-rest.invariant.fits)

pub loop-rest-preserved : goal.loop-rest-preserved
loop-rest-preserved c = record { whole = omega (arith, c.loop-rest.invariant.whole, length-varint_high c.loop-rest.rest c.loop-rest-test.true); fits = c.loop-rest.invariant.fits }

pub returns-clause-value : goal.returns-clause-value
returns-clause-value c =
    let last : length (varint c.loop-rest.rest) ≡ 1 = ap length (varint_low c.loop-rest.rest c.loop-rest-test.false) in
    omega (arith, c.loop-rest.invariant.whole, last)

pub returns-clause-bound : goal.returns-clause-bound
returns-clause-bound c =
    let last : length (varint c.loop-rest.rest) ≡ 1 = ap length (varint_low c.loop-rest.rest c.loop-rest-test.false) in
    omega (arith, c.loop-rest.invariant.whole, last, length-varint_10 c.args.number c.loop-rest.invariant.fits)
