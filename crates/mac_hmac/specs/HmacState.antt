-- What a contract sees of an `HmacState`: its key, and the text that it was fed so far.
use Rattle.std.specs.Prelude.{ℕ, List, ◌++◌}
use Rattle.sha2.specs.Hashers.{Holds256}
use Rattle.mac_hmac.specs.Hmac.{inner_block, outer_block}
use Rattle.mac_hmac.specs.declared.hmac_state.HmacState.{HmacState}

-- the state s belongs to this key and was fed this text
pub record Holds (s : HmacState) (key text : List ℕ) : Type 0 where
  pub inner : Holds256 s.inner (inner_block key ++ text)
  pub outer : Holds256 s.outer (outer_block key)
