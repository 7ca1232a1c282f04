use Rattle.std.proofs.Common.{◌≡◌, ◌<◌, drop}
use Rattle.mac_token.specs.V2Reading.{varint_with, varint_at}
use Rattle.mac_token.proofs.varint.read_varint.Given as goal

abbrev pub invariant-loop-i : goal.invariant-loop-i
invariant-loop-i l = record {
  whole : varint_at l.bytes ≡ varint_with l.number l.unit (varint_at (drop l.i l.bytes));
  positive : 0 < l.unit;
}
