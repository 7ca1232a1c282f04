-- Loops as they are made.
use Rattle.std.proofs.Common.{◌≡◌, ◌+◌, ◌++◌, ℕ, List, [], ◌∷◌, length, arith}
use Rattle.std.specs.declared.alloc.Global.{Global}
use Rattle.std.specs.declared.boxed.Box.{Box}
use Rattle.mac_loop.specs.Made.{AreInOrder}
use Rattle.mac_loop.specs.declared.looping.Loop.{Loop}
use Rattle.mac_loop.specs.declared.register.Origin.{Ghosts}

module _ {O : Type 0} {origin : Ghosts O} where
  -- one more with the next number
  pub in_order-next : (number : ℕ) (made : List (Box (Loop O origin) Global)) (one : Box (Loop O origin) Global)
      → AreInOrder number made → one.value.number ≡ number + length made → AreInOrder number (made ++ one ∷ [])
  in_order-next number [] one before is = (omega (arith, is), tt)
  in_order-next number (first ∷ more) one before is = (before.0, in_order-next (number + 1) more one before.1 (omega (arith, is)))
