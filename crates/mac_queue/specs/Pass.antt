-- What contracts see of a pass to the queue.
use Rattle.std.specs.Prelude.{◌≡◌, ℕ, List, [], ◌∷◌, ◌++◌, length, Some, slice_get, refl}
use Rattle.std.specs.List.{flat_map}
use Rattle.std.specs.Coded.{Coded, code_by, coded×, coded_list, coded_ℕ}
use Rattle.atomic_table.specs.Seated.{TableId, table_id_coded}
use Rattle.mac_queue.specs.Mail.{Mail, mail_code}

-- a pass: its queue, its seat there, its number, the entries that it put, and those that it claimed,
-- each a place and the job there with the mailbox for its answer
pub record Pass (Job : Type 0) : Type 0 where
  pub queue : TableId
  pub seat : ℕ
  pub number : ℕ
  pub put : List (Mail × (ℕ × Job))
  pub claimed : List (Mail × (ℕ × Job))

abbrev pub pass_code : {Job : Type 0} → Coded Job → Coded (Pass Job)
pass_code {Job} job =
    code_by (TableId × (ℕ × (ℕ × (List (Mail × (ℕ × Job)) × List (Mail × (ℕ × Job))))))
    (coded× table_id_coded (coded× coded_ℕ (coded× coded_ℕ
    (coded× (coded_list (coded× mail_code (coded× coded_ℕ job)))
    (coded_list (coded× mail_code (coded× coded_ℕ job)))))))
    (λ p. (p.queue, (p.seat, (p.number, (p.put, p.claimed)))))
    (λ p. record {
      queue = p.0;
      seat = p.1.0;
      number = p.1.1.0;
      put = p.1.1.1.0;
      claimed = p.1.1.1.1;
    })
    (λ _. refl)

module _ {Job : Type 0} where
  -- the pass once it has put one more entry
  abbrev pub with_put : Pass Job → Mail × (ℕ × Job) → Pass Job
  with_put pass entry = record pass { put = pass.put ++ entry ∷ [] }

  -- the pass once it has claimed one more entry
  abbrev pub with_claimed : Pass Job → Mail × (ℕ × Job) → Pass Job
  with_claimed pass entry = record pass { claimed = pass.claimed ++ entry ∷ [] }

  -- one and the same pass, whatever it has put or claimed in between
  abbrev pub IsSamePass : Pass Job → Pass Job → Type 0
  IsSamePass before after =
      (after.queue ≡ before.queue) × (after.seat ≡ before.seat) × (after.number ≡ before.number)

  -- the entries that the passes put, and those that they claimed, one pass after another
  abbrev pub all_put : List (Pass Job) → List (Mail × (ℕ × Job))
  all_put passes = flat_map (λ (p : Pass Job). p.put) passes

  abbrev pub all_claimed : List (Pass Job) → List (Mail × (ℕ × Job))
  all_claimed passes = flat_map (λ (p : Pass Job). p.claimed) passes

-- the same pass, with so many entries more that it has claimed and nothing more that it has put
pub record HasClaimed {Job : Type 0} (before : Pass Job) (count : ℕ)
    (after : Pass Job) : Type 0 where
  pub same : IsSamePass before after
  pub put : after.put ≡ before.put
  pub more : List (Mail × (ℕ × Job))
  pub claimed : after.claimed ≡ before.claimed ++ more
  pub number : length more ≡ count

-- a pass of this queue and this number that has done nothing
pub record IsFresh {Job : Type 0} (queue : TableId) (number : ℕ) (pass : Pass Job) : Type 0 where
  pub queue_is : pass.queue ≡ queue
  pub number_is : pass.number ≡ number
  pub put_is : pass.put ≡ []
  pub claimed_is : pass.claimed ≡ []

-- the passes are fresh, and have the numbers 0, 1, 2 and so on
abbrev pub AreFresh : {Job : Type 0} → TableId → List (Pass Job) → Type 0
AreFresh {Job} queue passes =
    (number : ℕ) (pass : Pass Job) → slice_get passes number ≡ Some pass → IsFresh queue number pass
