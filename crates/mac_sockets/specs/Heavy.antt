-- Which connection of a loop holds most memory.
use Rattle.std.specs.Prelude.{◌≡◌, ◌≤◌, ℕ, Option, Some, None, IfSome, option_map}
use Rattle.mac_slots.specs.Slots.{Slots, at, held}
use Rattle.mac_sockets.specs.declared.heavy.Heavy.{Heavy}

-- one was found that holds so much or more; where none was, it is nothing
abbrev pub HoldsAsMuch : Option Heavy → ℕ → Type 0
HoldsAsMuch None bytes = bytes ≡ 0
HoldsAsMuch (Some found) bytes = bytes ≤ found.held

module _ {C : Type 0} where
  -- how many bytes the connection of a slot holds, where one is there
  abbrev pub bytes_at : (C → ℕ) → Slots C → ℕ → Option ℕ
  bytes_at bytes slots slot = option_map bytes (held (at slots slot))

  -- the one that holds most; none is found where none holds any
  pub record IsHeaviest (bytes : C → ℕ) (slots : Slots C) (found : Option Heavy) : Type 0 where
    pub one : IfSome found (λ one. bytes_at bytes slots one.slot ≡ Some one.held)
    pub most : (slot held : ℕ) → bytes_at bytes slots slot ≡ Some held → HoldsAsMuch found held
