-- Ends that meet show a state of the core.
use Rattle.std.proofs.Common.{◌≡◌, ℕ, ◌+◌, ◌≤◌, List, ◌++◌, length, map, take, sym, ◌∙◌, ap, subst, arith, length-append}
use Rattle.std.proofs.lemmas.List.{take-append-le}
use Rattle.mac_order.specs.History.{IsReached}
use Rattle.mac_order.specs.declared.reorder.TheConstants.{SLOTS}

-- 64 jobs that were received and not sent, and 64 that wait behind them, are within the window
pub meets : {Which Job Answered : Type 0} (reply_to : Job → Answered)
    → ((jobs : List Job) (sent : ℕ) → sent ≤ length jobs → length jobs ≤ sent + SLOTS → IsReached Which reply_to jobs (map reply_to (take sent jobs)))
    → (jobs received waiting : List Job) (next : ℕ) → received ++ waiting ≡ jobs → next ≤ length received → length received ≤ next + 64 → length waiting ≤ 64
    → IsReached Which reply_to jobs (map reply_to (take next received))
meets {Which} reply_to reach jobs received waiting next is sent window ring =
    let whole = ap length (sym is) ∙ length-append received waiting in
    subst (λ first. IsReached Which reply_to jobs (map reply_to first)) (ap (take next) (sym is) ∙ take-append-le next received waiting sent)
    (reach jobs next (omega (arith, whole)) (omega (arith, whole)))
