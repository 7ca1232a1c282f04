-- What a pass has claimed grows by one ticket after another, and each is answered.
use Rattle.std.proofs.Common.{◌≡◌, ℕ, ◌+◌, ◌<◌, ◌^◌, List, [], length, ◌∷◌, ◌++◌, map, length-append, sym, ◌∙◌, ap, refl, subst, arith, append_assoc, append-nil}
use Rattle.std.proofs.lemmas.List.{length-map}
use Rattle.mac_queue.specs.Mail.{Mail}
use Rattle.mac_queue.specs.declared.receipt.Delivery.{Delivery}
use Rattle.mac_queue.specs.Balance.{entry_of}
use Rattle.mac_queue.specs.Pass.{Pass, with_claimed}
use Rattle.mac_queue.specs.declared.ticket.Ticket.{Ticket}
use Rattle.mac_pool.specs.Parcel.{Pairwise, IsAnswered}
use Rattle.mac_pool.specs.Working.{with_tickets, HasTurned, HasWorked}
use Rattle.mac_pool.proofs.Parcels.{pairwise_append}

module _ {Job : Type 0} where
  -- a pass that has just claimed has claimed few
  pub few_claimed : (before after : Pass Job) (claim : Mail × (ℕ × Job)) → after ≡ with_claimed before claim → (length before.claimed < length after.claimed → length after.claimed < 2 ^ 62) → length after.claimed < 2 ^ 62
  few_claimed before after claim is few = few (omega (arith, ap (λ (p : Pass Job). length p.claimed) is, length-append before.claimed (claim ∷ [])))

  -- a claim of the pass as it was before one that got nothing
  pub claimed_later : (first second third : Pass Job) (claim : Mail × (ℕ × Job)) → second ≡ first → third ≡ with_claimed second claim → third ≡ with_claimed first claim
  claimed_later first second third claim same is = is ∙ ap (λ (p : Pass Job). with_claimed p claim) same

-- no ticket was claimed
pub tickets_none : {Job : Type 0} (S Reply : Type 0) (pass : Pass Job) → pass ≡ with_tickets {S = S} {Job = Job} {Reply = Reply} pass []
tickets_none S Reply pass = ap (λ l. record pass { claimed = l }) (sym (append-nil pass.claimed))

module _ {S Job Reply : Type 0} where
  map_push : (tickets : List (Ticket S Job Reply)) (ticket : Ticket S Job Reply) → map entry_of (tickets ++ ticket ∷ []) ≡ map entry_of tickets ++ entry_of ticket ∷ []
  map_push [] ticket = refl
  map_push (t ∷ tickets) ticket = ap (λ (l : List (Mail × (ℕ × Job))). entry_of t ∷ l) (map_push tickets ticket)

  -- one ticket more was claimed
  pub tickets_more : (first second third : Pass Job) (got : List (Ticket S Job Reply)) (ticket : Ticket S Job Reply) → second ≡ with_tickets first got → third ≡ with_claimed second (entry_of ticket) → third ≡ with_tickets first (got ++ ticket ∷ [])
  tickets_more first second third got ticket was is =
      is ∙ ap (λ (p : Pass Job). with_claimed p (entry_of ticket)) was
      ∙ ap (λ (l : List (Mail × (ℕ × Job))). record first { claimed = l }) (append_assoc first.claimed (map entry_of got) (entry_of ticket ∷ []) ∙ ap (λ (l : List (Mail × (ℕ × Job))). first.claimed ++ l) (sym (map_push got ticket)))

  pub worked_none : (pass : Pass Job) → HasWorked {S = S} {Reply = Reply} pass 0 pass []
  worked_none pass = record { claims = record { same = (refl, refl, refl); put = refl; more = []; claimed = sym (append-nil pass.claimed); number = refl }; answered = tt }

  -- a ticket and others more were claimed and answered
  pub worked_turn : (first second third fourth : Pass Job) (n m : ℕ) (ticket : Ticket S Job Reply) (before after : List (Delivery S Job Reply))
      → HasWorked first n second before → third ≡ with_claimed second (entry_of ticket) → HasTurned ticket third m fourth before after → HasWorked first (n + 1 + m) fourth after
  worked_turn first second third fourth n m ticket before after was is turned =
      let claim = entry_of ticket in
      let others = map entry_of turned.others in
      let more : List (Mail × (ℕ × Job)) = was.claims.more ++ claim ∷ others in
      let last = turned.after_is in
      record {
        claims = record {
          same = (
            ap (λ (p : Pass Job). p.queue) last ∙ ap (λ (p : Pass Job). p.queue) is ∙ was.claims.same.0,
            ap (λ (p : Pass Job). p.seat) last ∙ ap (λ (p : Pass Job). p.seat) is ∙ was.claims.same.1,
            ap (λ (p : Pass Job). p.number) last ∙ ap (λ (p : Pass Job). p.number) is ∙ was.claims.same.2,
          );
          put = ap (λ (p : Pass Job). p.put) last ∙ ap (λ (p : Pass Job). p.put) is ∙ was.claims.put;
          more = more;
          claimed = ap (λ (p : Pass Job). p.claimed) last
              ∙ ap (λ (p : Pass Job). p.claimed ++ others) is
              ∙ append_assoc second.claimed (claim ∷ []) others
              ∙ ap (λ (l : List (Mail × (ℕ × Job))). l ++ (claim ∷ others)) was.claims.claimed
              ∙ append_assoc first.claimed was.claims.more (claim ∷ others);
          number = omega (arith, length-append was.claims.more (claim ∷ others), length-map turned.others (λ (t : Ticket S Job Reply). entry_of t), was.claims.number, turned.count_is);
        };
        answered = subst (λ (l : List (Delivery S Job Reply)). Pairwise IsAnswered more l) (sym turned.book_is)
            (pairwise_append (λ (c : Mail × (ℕ × Job)) (d : Delivery S Job Reply). IsAnswered c d) was.claims.more (claim ∷ others) before turned.more was.answered turned.answered);
      }

  -- a ticket that was answered by itself
  turned_alone : (ticket : Ticket S Job Reply) (pass : Pass Job) (delivery : Delivery S Job Reply) (before after : List (Delivery S Job Reply))
      → IsAnswered (entry_of ticket) delivery → after ≡ before ++ delivery ∷ [] → HasTurned ticket pass 0 pass before after
  turned_alone ticket pass delivery before after one is = record { others = []; count_is = refl; after_is = tickets_none S Reply pass; more = delivery ∷ []; book_is = is; answered = (one, tt) }

  pub worked_alone : (first second third : Pass Job) (n : ℕ) (ticket : Ticket S Job Reply) (delivery : Delivery S Job Reply) (before after : List (Delivery S Job Reply))
      → HasWorked first n second before → third ≡ with_claimed second (entry_of ticket) → IsAnswered (entry_of ticket) delivery → after ≡ before ++ delivery ∷ [] → HasWorked first (n + 1) third after
  worked_alone first second third n ticket delivery before after was is one book =
      let same : n + 1 + 0 ≡ n + 1 = omega arith in
      subst (λ (k : ℕ). HasWorked first k third after) same
      (worked_turn first second third third n 0 ticket before after was is (turned_alone ticket third delivery before after one book))

  -- a pass with few claims has counted few
  pub few_counted : (first second third : Pass Job) (n : ℕ) (claim : Mail × (ℕ × Job)) (deliveries : List (Delivery S Job Reply)) → HasWorked first n second deliveries → third ≡ with_claimed second claim → length third.claimed < 2 ^ 62 → n + 1 < 2 ^ 62
  few_counted first second third n claim deliveries was is few =
      let a = was.claims in
      omega (arith, few, ap (λ (p : Pass Job). length p.claimed) is, length-append second.claimed (claim ∷ []), ap length a.claimed, length-append first.claimed a.more, a.number)
