-- One parcel more answers one ticket more, and what a ticket is taken apart into.
use Rattle.std.proofs.Common.{◌≡◌, ◌+◌, ◌≤◌, List, [], ◌∷◌, ◌++◌, length, sym, ◌∙◌, ap, refl, subst, arith, append_assoc, length-append}
use Rattle.mac_queue.specs.declared.ticket.Ticket.{Ticket}
use Rattle.mac_pool.specs.declared.work.Label.{Label}
use Rattle.mac_pool.specs.declared.work.Parcel.{Parcel}
use Rattle.mac_pool.specs.Parcel.{Pairwise, IsAnswerTo, AnswerEach, joined}

module _ {A B : Type 0} (R : A → B → Type 0) where
  pub pairwise_append : (xs more : List A) (ys others : List B) → Pairwise R xs ys → Pairwise R more others → Pairwise R (xs ++ more) (ys ++ others)
  pairwise_append [] more [] others each then = then
  pairwise_append [] more (y ∷ ys) others each then = absurd each
  pairwise_append (x ∷ xs) more [] others each then = absurd each
  pairwise_append (x ∷ xs) more (y ∷ ys) others each then = (each.0, pairwise_append xs more ys others each.1 then)

module _ {S Job Reply : Type 0} where
  pub answer_push : (tickets : List (Ticket S Job Reply)) (parcels : List (Parcel S Job Reply)) (ticket : Ticket S Job Reply) (parcel : Parcel S Job Reply)
      → AnswerEach tickets parcels → IsAnswerTo ticket parcel → AnswerEach (tickets ++ ticket ∷ []) (parcels ++ parcel ∷ [])
  answer_push tickets parcels ticket parcel each one =
      pairwise_append (λ (t : Ticket S Job Reply) (p : Parcel S Job Reply). IsAnswerTo t p) tickets (ticket ∷ []) parcels (parcel ∷ []) each (one, tt)

  -- there are as many parcels as tickets
  pub answers_long : (tickets : List (Ticket S Job Reply)) (parcels : List (Parcel S Job Reply)) → AnswerEach tickets parcels → length parcels ≡ length tickets
  answers_long [] [] each = refl
  answers_long [] (p ∷ parcels) each = absurd each
  answers_long (t ∷ tickets) [] each = absurd each
  answers_long (t ∷ tickets) (p ∷ parcels) each = let rest = answers_long tickets parcels each.1 in omega arith

  -- a ticket moves from those that are left to those that are done
  pub ticket_done : (done left rest tickets : List (Ticket S Job Reply)) (ticket : Ticket S Job Reply) → left ≡ ticket ∷ rest → done ++ left ≡ tickets → (done ++ ticket ∷ []) ++ rest ≡ tickets
  ticket_done done left rest tickets ticket split was = append_assoc done (ticket ∷ []) rest ∙ subst (λ (l : List (Ticket S Job Reply)). done ++ l ≡ tickets) split was

  -- the ticket of this label and this job
  abbrev pub ticket_of : Label S Job Reply → Job → Ticket S Job Reply
  ticket_of label job = record { place = label.place; job = job; mail = label.mail }

  joined_push : (labels : List (Label S Job Reply)) (jobs : List Job) (label : Label S Job Reply) (job : Job) → length labels ≡ length jobs
      → joined (labels ++ label ∷ []) (jobs ++ job ∷ []) ≡ joined labels jobs ++ ticket_of label job ∷ []
  joined_push [] [] label job even = refl
  joined_push [] (j ∷ jobs) label job even = absurd (omega arith)
  joined_push (l ∷ labels) [] label job even = absurd (omega arith)
  joined_push (l ∷ labels) (j ∷ jobs) label job even = ap (λ rest. ticket_of l j ∷ rest) (joined_push labels jobs label job (omega arith))

  -- one ticket more is taken apart
  pub joined_more : (labels more_labels : List (Label S Job Reply)) (jobs more_jobs : List Job) (label : Label S Job Reply) (job : Job) (left rest tickets : List (Ticket S Job Reply))
      → more_labels ≡ labels ++ label ∷ [] → more_jobs ≡ jobs ++ job ∷ [] → length labels ≡ length jobs → left ≡ ticket_of label job ∷ rest → joined labels jobs ++ left ≡ tickets
      → joined more_labels more_jobs ++ rest ≡ tickets
  joined_more labels more_labels jobs more_jobs label job left rest tickets labels_are jobs_are even split was =
      rw (labels_are, jobs_are, joined_push labels jobs label job even) (ticket_done (joined labels jobs) left rest tickets (ticket_of label job) split was)

  module _ (labels rest : List (Label S Job Reply)) (jobs others : List Job) (label : Label S Job Reply) (job : Job)
      (labels_are : labels ≡ rest ++ label ∷ []) (jobs_are : jobs ≡ others ++ job ∷ []) (even : length labels ≡ length jobs) where
    -- without the last label and the last job there are as many of each
    pub even_less : length rest ≡ length others
    even_less = omega (arith, ap length labels_are, ap length jobs_are, length-append rest (label ∷ []), length-append others (job ∷ []))

    -- their ticket moves to those that are done
    pub joined_less : (done tickets : List (Ticket S Job Reply)) → joined labels jobs ++ done ≡ tickets → joined rest others ++ ticket_of label job ∷ done ≡ tickets
    joined_less done tickets was =
        sym (append_assoc (joined rest others) (ticket_of label job ∷ []) done)
        ∙ ap (λ l. l ++ done) (sym (rw (labels_are, jobs_are) (joined_push rest others label job even_less)))
        ∙ was

    -- for which there is room
    pub joined_room : (done tickets : List (Ticket S Job Reply)) (parcels : List (Parcel S Job Reply)) → joined labels jobs ++ done ≡ tickets → AnswerEach done parcels → length parcels + 1 ≤ length tickets
    joined_room done tickets parcels was each =
        omega (arith, answers_long done parcels each, ap length (joined_less done tickets was), length-append (joined rest others) (ticket_of label job ∷ done))

  -- where no job is left, all are done
  pub joined_end : (done tickets : List (Ticket S Job Reply)) (labels : List (Label S Job Reply)) (jobs : List Job) → length jobs ≡ 0 → joined labels jobs ++ done ≡ tickets → done ≡ tickets
  joined_end done tickets [] [] none was = was
  joined_end done tickets (label ∷ labels) [] none was = was
  joined_end done tickets labels (job ∷ jobs) none was = absurd (omega arith)
