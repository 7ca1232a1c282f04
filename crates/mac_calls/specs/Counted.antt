-- How many facts there may be (this project's own).
use Rattle.std.specs.Prelude.{ℕ, Bool, nat_lt, nat_le, not, ◌&&◌, List, length}
use Rattle.std.specs.List.{list_any}
use Rattle.mac_wire.specs.declared.request.TheConstants.{FACTS_MAX}
use Rattle.mac_calls.specs.declared.counted.TheConstants.{FACT_MAX}

-- a fact is longer than a request may have
abbrev pub is_long : List ℕ → Bool
is_long fact = nat_lt FACT_MAX (length fact)

-- the facts are no more and no longer than a request may have
abbrev pub are_few : List (List ℕ) → Bool
are_few facts = nat_le (length facts) FACTS_MAX && not (list_any is_long facts)
