-- Requests that are counted one after the other.
use Rattle.std.proofs.Common.{◌≡◌, ℕ, suc, ◌+◌, ◌<◌, ◌≤◌, List, [], ◌∷◌, length, map, drop, get_or, refl, sym, ap, ◌∙◌, ◌⊎◌, ⊎_elim, inl, inr, true, false, drop-cons, add-one, arith}
use Rattle.std.specs.Prelude.{min, nat_le}
use Rattle.std.proofs.lemmas.Bool.Decides.{nat_tests}
use Rattle.std.proofs.lemmas.List.{drop_all}
use Rattle.mac_count.specs.RequestCounts.{with_all_counted, with_counted}
use Rattle.mac_decide.specs.Viewed.{viewed}
use Rattle.mac_decide.specs.declared.job.Job.{Job}
use Rattle.mac_decide.specs.declared.job_view.JobView.{JobView}
use Rattle.mac_plain.specs.Tally.{request_of, requests_of}
use Rattle.mac_wire.specs.declared.reply.Reply.{Reply}

-- from a place on: the one that stands there, and then the rest
from-place : {X : Type 0} → (xs : List X) (i : ℕ) (x : X) → i < length xs → x ≡ get_or xs i x → drop i xs ≡ x ∷ drop (i + 1) xs
from-place xs i x within is =
    drop-cons xs i x within ∙ ap (λ y. y ∷ drop (suc i) xs) (sym is) ∙ ap (λ (n : ℕ). x ∷ drop n xs) (sym (add-one i))

pub one-counted : (counts : List ℕ) (jobs : List JobView) (replies : List Reply) (i : ℕ) (job : JobView) (reply : Reply) → i < length jobs → i < length replies
    → job ≡ get_or jobs i job → reply ≡ get_or replies i reply
    → with_all_counted counts (requests_of (map viewed (drop i jobs)) (drop i replies))
    ≡ with_all_counted (with_counted counts (request_of (viewed job) reply)) (requests_of (map viewed (drop (i + 1) jobs)) (drop (i + 1) replies))
one-counted counts jobs replies i job reply in_jobs in_replies is_job is_reply =
    ap (λ (l : List JobView). with_all_counted counts (requests_of (map viewed l) (drop i replies))) (from-place jobs i job in_jobs is_job)
    ∙ ap (λ (l : List Reply). with_all_counted counts (requests_of (map viewed (job ∷ drop (i + 1) jobs)) l)) (from-place replies i reply in_replies is_reply)

none-left : (jobs : List Job) → requests_of jobs [] ≡ []
none-left [] = refl
none-left (job ∷ jobs) = refl

past-one : (a b i : ℕ) → min a b ≤ i → (a ≤ i) ⊎ (b ≤ i)
past-one a b i past =
    elim (nat_le a i) as (λ t. nat_le a i ≡ t → (a ≤ i) ⊎ (b ≤ i)) [
      | true ↦ λ first. inl (grind (arith, nat_tests))
      | false ↦ λ other. inr (grind (arith, nat_tests))
    ] refl

pub all-counted : (counts : List ℕ) (jobs : List JobView) (replies : List Reply) (i : ℕ) → min (length jobs) (length replies) ≤ i
    → with_all_counted counts (requests_of (map viewed (drop i jobs)) (drop i replies)) ≡ counts
all-counted counts jobs replies i over =
    ⊎_elim (λ (h : length jobs ≤ i). ap (λ (l : List JobView). with_all_counted counts (requests_of (map viewed l) (drop i replies))) (drop_all i jobs h))
    (λ (h : length replies ≤ i). ap (λ (l : List Reply). with_all_counted counts (requests_of (map viewed (drop i jobs)) l)) (drop_all i replies h)
    ∙ ap (with_all_counted counts) (none-left (map viewed (drop i jobs)))) (past-one (length jobs) (length replies) i over)
