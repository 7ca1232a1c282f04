use Rattle.std.proofs.Common.{arith, sym}
use Rattle.mac_token.proofs.V2Fields.{counted_large, counted_fits, counted_none, read_front}
use Rattle.mac_token.proofs.v2.reading.counted.Goals as goal

pub returns-in_err-length : goal.returns-in_err-length
returns-in_err-length c = rw c.from_residual.ensures (sym (counted_none _ (λ i. omega (arith, c.type_inv.bytes i)) (omega arith) c.in_err-length.ensures.none))

pub returns-then-rest-length : goal.returns-then-rest-length
returns-then-rest-length c = sym (counted_large _ _ _ (read_front _ _ _ c.in_ok-length.ensures.found) c.if-rest-length.true)

pub returns : goal.returns
returns c = rw (c.split_at.ensures.front, c.split_at.ensures.back) (sym (counted_fits _ _ _ (read_front _ _ _ c.in_ok-length.ensures.found) c.if-rest-length.false))
