-- What a request is answered under (this project's own).
use Rattle.std.specs.Prelude.{ℕ, List, Option, Some, None, Bool, true}
use Rattle.std.specs.List.{list_any}
use Rattle.std.specs.Str.{bytes_eq}
use Rattle.mac_keys.specs.KeyTable.{Table, bare}
use Rattle.mac_decide.specs.declared.rights.Rights.{Rights}
use Rattle.mac_decide.specs.declared.rights.Terms.{Terms as LentTerms}

-- the key table that is up, with what was taken back, what the connection's socket allows, and the moment, in seconds since
-- 1970, if the clock tells one
pub record Terms : Type 0 where
  pub table : Table
  pub rights : Rights
  pub moment : Option ℕ

-- those that a value of the program lends
abbrev pub lent_terms : LentTerms → Terms
lent_terms terms =
    record { table = terms.table.now; rights = terms.rights.now; moment = terms.moment }

-- everything is allowed
abbrev pub all_rights : Rights
all_rights = record { may_mint = true; names = None }

-- a table under which everything is allowed, at a moment
abbrev pub full : Table → Option ℕ → Terms
full table moment = record { table = table; rights = all_rights; moment = moment }

-- the same terms, where nothing was taken back
abbrev pub without_list : Terms → Terms
without_list terms = record terms { table = bare terms.table.keys }

-- the same terms over another table, but with all of its names
abbrev pub with_all_names : Table → Terms → Terms
with_all_names table terms =
    record terms { table = table; rights = record terms.rights { names = None } }

-- whether a name is among those that may be used: all may where none are given
abbrev pub is_allowed : Option (List (List ℕ)) → List ℕ → Bool
is_allowed None name = true
is_allowed (Some names) name = list_any (bytes_eq name) names
