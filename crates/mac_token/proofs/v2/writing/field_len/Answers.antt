use Rattle.std.proofs.Common.{arith}
use Rattle.mac_token.proofs.V2Writing.{length-field}
use Rattle.mac_token.proofs.v2.writing.field_len.Goals as goal

pub returns-clause-value : goal.returns-clause-value
returns-clause-value c = omega (arith, length-field c.args.kind c.args.bytes.now, c.varint_len.ensures.value)
