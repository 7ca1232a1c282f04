-- What contracts see of a mailbox.
use Rattle.std.specs.Prelude.{refl}
use Rattle.std.specs.Coded.{Coded, code_by, coded×}
use Rattle.atomic_table.specs.Seated.{TableId, table_id_coded}

-- a mailbox: the names of its posts and of the mark that it is closed
pub record Mail : Type 0 where
  pub posts : TableId
  pub closing : TableId

abbrev pub mail_code : Coded Mail
mail_code =
    code_by (TableId × TableId) (coded× table_id_coded table_id_coded)
    (λ m. (m.posts, m.closing))
    (λ m. record { posts = m.0; closing = m.1 })
    (λ _. refl)
