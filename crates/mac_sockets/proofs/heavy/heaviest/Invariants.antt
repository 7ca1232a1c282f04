use Rattle.std.proofs.Common.{◌≡◌, ◌<◌, ℕ, IfSome, Some}
use Rattle.mac_sockets.specs.Heavy.{HoldsAsMuch, bytes_at}
use Rattle.mac_sockets.proofs.heavy.heaviest.Given as goal

-- the one that was found holds most of those in the slots so far
abbrev pub invariant-loop-slot : goal.invariant-loop-slot
invariant-loop-slot g l = record {
  one : IfSome l.found (λ one. bytes_at g.C.Holds.bytes l.slots one.slot ≡ Some one.held);
  most : (slot held : ℕ) → slot < l.slot → bytes_at g.C.Holds.bytes l.slots slot ≡ Some held → HoldsAsMuch l.found held;
}
