-- What leaves the world of macaroons.
use Rattle.std.proofs.Common.{◌≡◌, ℕ, List, [], ◌∷◌, map, Some, refl, ap, subst, ◌∙◌}
use Rattle.std.specs.Prelude.{slice_get}
use Rattle.mac_order.specs.History.{IsBeginningOf, reached}
use Rattle.mac_order.specs.State.{Connection}
use Rattle.mac_order.specs.declared.event.Event.{Event}
use Rattle.mac_order.proofs.Beginnings.{IsAnswered, answered-moved}
use Rattle.mac_order.proofs.Kept.{reached-kept}
use Rattle.mac_wire.specs.declared.arrival.Arrival.{Arrival}
use Rattle.mac_wire.specs.declared.reply.Reply.{Reply}
use Rattle.mac_decide.specs.Answer.{reply_of, answer_of}
use Rattle.mac_decide.specs.Terms.{Terms}
use Rattle.mac_decide.specs.World.{job_under}
use Rattle.mac_decide.specs.declared.job.Job.{Job}

abbrev reply_to : Job → Reply
reply_to job = reply_of job.arrival job.basis

-- the replies to the jobs of arrivals are the arrivals' answers
replies-answers : (terms : Terms) (arrivals : List Arrival) → map reply_to (map (job_under terms) arrivals) ≡ map (answer_of terms) arrivals
unfolding answer_of
replies-answers terms [] = refl
replies-answers terms (arrival ∷ arrivals) = ap (λ replies. answer_of terms arrival ∷ replies) (replies-answers terms arrivals)

pub world-answers : {Which : Type 0} (terms : Terms) (connections workers number : ℕ) (events : List (Event Which Job Reply)) (link : Connection Job Reply) (arrivals : List Arrival)
    → slice_get (reached reply_to connections workers events).connections number ≡ Some link → link.arrived ≡ map (job_under terms) arrivals
    → IsBeginningOf link.sent (map (answer_of terms) arrivals)
world-answers terms connections workers number events link arrivals known arrived =
    let beginning = reached-kept reply_to (IsAnswered reply_to) (answered-moved reply_to) ([], refl) connections workers events number link known in
    subst (IsBeginningOf link.sent) (ap (map reply_to) arrived ∙ replies-answers terms arrivals) beginning
