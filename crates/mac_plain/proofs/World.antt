-- Jobs and their replies as what a connection of the world comes to.
use Rattle.std.proofs.Common.{List, [], refl, arith}
use Rattle.std.proofs.lemmas.List.{append-nil}
use Rattle.std.specs.FinSet.{empty, contains-empty}
use Rattle.std.specs.Ordering.{nat_cmp}
use Rattle.mac_order.proofs.Reaching.{serve_all}
use Rattle.mac_order.specs.History.{IsReached}
use Rattle.mac_decide.specs.Prepared.{reply_to_job}
use Rattle.mac_decide.specs.declared.job.Job.{Job}
use Rattle.mac_decide.specs.declared.macaroons.Macaroons.{Macaroons}
use Rattle.mac_plain.specs.Client.{replies}

pub reached_by : (jobs : List Job) → IsReached Macaroons reply_to_job jobs (replies jobs)
reached_by jobs =
    serve_all _ reply_to_job jobs (replies jobs) jobs [] [] [] empty empty refl
    (λ place above. contains-empty nat_cmp place) (omega arith) (append-nil jobs) refl
