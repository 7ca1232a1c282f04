-- What contracts see of a putter.
use Rattle.std.specs.Prelude.{◌≡◌, ℕ, List, [], ◌∷◌, ◌++◌, refl}
use Rattle.std.specs.Coded.{Coded, code_by, coded×}
use Rattle.atomic_table.specs.Seated.{TableId}
use Rattle.mac_queue.specs.Mail.{Mail, mail_code}
use Rattle.mac_queue.specs.Pass.{Pass, pass_code, IsSamePass}

-- a putter: its pass, as `Pass` has it, and the mailbox for the answers to what it puts
pub record Putting (Job : Type 0) : Type 0 where
  pub queue : TableId
  pub seat : ℕ
  pub number : ℕ
  pub put : List (Mail × (ℕ × Job))
  pub claimed : List (Mail × (ℕ × Job))
  pub mail : Mail

module _ {Job : Type 0} where
  -- a putter with this pass and this mailbox
  abbrev pub putting_of : Pass Job → Mail → Putting Job
  putting_of pass mail = record {
    queue = pass.queue;
    seat = pass.seat;
    number = pass.number;
    put = pass.put;
    claimed = pass.claimed;
    mail = mail;
  }

  -- the pass of a putter
  abbrev pub pass_of : Putting Job → Pass Job
  pass_of putting = record {
    queue = putting.queue;
    seat = putting.seat;
    number = putting.number;
    put = putting.put;
    claimed = putting.claimed;
  }

  -- the putter once it has put this job at this place
  abbrev pub with_put : Putting Job → ℕ × Job → Putting Job
  with_put putting entry = record putting { put = putting.put ++ (putting.mail, entry) ∷ [] }

  -- one and the same pass and mailbox, whatever was put in between
  abbrev pub IsSamePutter : Putting Job → Putting Job → Type 0
  IsSamePutter before after =
      IsSamePass (pass_of before) (pass_of after) × (after.mail ≡ before.mail)

abbrev pub putting_code : {Job : Type 0} → Coded Job → Coded (Putting Job)
putting_code {Job} job =
    code_by (Pass Job × Mail) (coded× (pass_code job) mail_code)
    (λ p. (pass_of p, p.mail))
    (λ p. putting_of p.0 p.1)
    (λ _. refl)
