-- Loops as they are made (this project's own).
use Rattle.std.specs.Prelude.{◌≡◌, ◌+◌, ℕ, List, [], ◌∷◌, length}
use Rattle.std.specs.declared.alloc.Global.{Global}
use Rattle.std.specs.declared.boxed.Box.{Box}
use Rattle.mac_loop.specs.declared.inbox.Loops.{Loops}
use Rattle.mac_loop.specs.declared.looping.Loop.{Loop}
use Rattle.mac_loop.specs.declared.register.Origin.{Ghosts}

module _ {O : Type 0} {origin : Ghosts O} where
  -- how many loops can be handed clients
  abbrev pub count_sides : Loops O origin → ℕ
  count_sides loops = length loops.sides.items

  -- the numbers of these loops go on from a first one, each by one
  abbrev pub AreInOrder : ℕ → List (Box (Loop O origin) Global) → Type 0
  AreInOrder number [] = Unit {0}
  AreInOrder number (one ∷ more) = (one.value.number ≡ number) × AreInOrder (number + 1) more
