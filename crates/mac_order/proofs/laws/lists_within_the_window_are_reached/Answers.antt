-- The jobs that are to be answered are served in turn, and then the others arrive.
use Rattle.std.proofs.Common.{[], map, take, drop, refl, arith, length-drop}
use Rattle.std.proofs.lemmas.List.{take-append-drop}
use Rattle.std.specs.FinSet.{empty, contains-empty}
use Rattle.std.specs.Ordering.{nat_cmp}
use Rattle.mac_order.proofs.Reaching.{serve_all}
use Rattle.mac_order.proofs.laws.lists_within_the_window_are_reached.Goals as goal

pub returns : goal.returns
returns g c jobs sent within room =
    serve_all _ g.S.Service.reply_to jobs (map g.S.Service.reply_to (take sent jobs)) (take sent jobs) (drop sent jobs) [] [] empty empty refl
    (λ place above. contains-empty nat_cmp place)
    (simp length-drop (omega arith))
    (take-append-drop sent jobs)
    refl
