-- What contracts see of a queue.
use Rattle.std.specs.Prelude.{refl}
use Rattle.std.specs.Coded.{Coded, code_by, coded×}
use Rattle.atomic_table.specs.Seated.{TableId, table_id_coded}

-- a queue: the names of its tickets and of the mark that it is closed
pub record Line : Type 0 where
  pub tickets : TableId
  pub closing : TableId

abbrev pub line_code : Coded Line
line_code =
    code_by (TableId × TableId) (coded× table_id_coded table_id_coded)
    (λ l. (l.tickets, l.closing))
    (λ l. record { tickets = l.0; closing = l.1 })
    (λ _. refl)
