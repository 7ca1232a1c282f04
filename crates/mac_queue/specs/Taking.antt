-- What contracts see of a taker.
use Rattle.std.specs.Prelude.{ℕ, List, [], ◌∷◌, ◌++◌, Option, refl}
use Rattle.std.specs.Coded.{Coded, code_by, coded×, coded_list, coded_option, coded_ℕ}
use Rattle.mac_queue.specs.Mail.{Mail, mail_code}

-- a taker: its mailbox, and the posts that it has taken, each as its place with its answer's job,
-- or with none
pub record Taking (Job : Type 0) : Type 0 where
  pub mail : Mail
  pub taken : List (ℕ × Option Job)

abbrev pub taking_code : {Job : Type 0} → Coded Job → Coded (Taking Job)
taking_code {Job} job =
    code_by (Mail × List (ℕ × Option Job))
    (coded× mail_code (coded_list (coded× coded_ℕ (coded_option job))))
    (λ t. (t.mail, t.taken))
    (λ t. record { mail = t.0; taken = t.1 })
    (λ _. refl)

module _ {Job : Type 0} where
  -- a taker of this mailbox that has taken nothing
  abbrev pub fresh_taking : Mail → Taking Job
  fresh_taking mail = record { mail = mail; taken = [] }

  -- the taker once it has taken these posts more
  abbrev pub with_posts : Taking Job → List (ℕ × Option Job) → Taking Job
  with_posts taking posts = record taking { taken = taking.taken ++ posts }

  -- the taker once it has taken one post more
  abbrev pub with_taken : Taking Job → ℕ × Option Job → Taking Job
  with_taken taking post = with_posts taking (post ∷ [])
