use Rattle.std.proofs.Common.{◌≡◌, ◌↔◌, IsTrue, take}
use Rattle.mac_hmac.proofs.signature.same.Given as goal

abbrev pub invariant-loop-i : goal.invariant-loop-i
invariant-loop-i l = IsTrue l.agree ↔ (take l.i l.a-inside.bytes ≡ take l.i l.b-inside.bytes)
