-- What is known of tables that are published, and of a clock beside them.
use Rattle.std.specs.Prelude.{◌≡◌, ℕ, Bool, List, [], ◌∷◌, ◌++◌, Option}
use Rattle.mac_keys.specs.KeyTable.{Table}
use Rattle.mac_board.specs.Follows.{Advances, Known, IsUp, Looks}
use Rattle.mac_board.specs.declared.outlook.Current.{Current as LentCurrent}

-- a key table with a moment, in seconds since 1970, if the clock told one
pub record Current : Type 0 where
  pub table : Table
  pub moment : Option ℕ

-- those that a value of the program lends
abbrev pub lent_current : LentCurrent → Current
lent_current current = record { table = current.table.now; moment = current.moment }

-- what is known of the tables, the moments that the clock told so far, and the one that the last
-- look came to
pub record Noticed : Type 0 where
  pub tables : Known
  pub told : List (Option ℕ)
  pub moment : Option ℕ

-- one look: the tables were looked at once, and the clock was asked once
pub record Notices (tells : Bool) (before after : Noticed) : Type 0 where
  pub looks : Looks tells before.tables after.tables
  pub told : after.told ≡ before.told ++ after.moment ∷ []

-- the tables went on without a look, and the clock was not asked
pub record Reaches (before after : Noticed) : Type 0 where
  pub tables : Advances before.tables after.tables
  pub told : after.told ≡ before.told
  pub moment : after.moment ≡ before.moment

-- the table that is had, and the moment that the last look came to
abbrev pub IsCurrent : Noticed → Current → Type 0
IsCurrent noticed current =
    IsUp noticed.tables current.table × (current.moment ≡ noticed.moment)
