use Rattle.std.proofs.Common.{rules, FitsSigned, w64}
use Rattle.std.proofs.lemmas.Int.{to_z-of_z}
use Rattle.mac_words.proofs.MomentLemmas.{by_time, by_seconds}
use Rattle.mac_words.proofs.moments.moment.Goals as goal

pub returns-in-Some : goal.returns-in-Some
returns-in-Some c =
    let fits : FitsSigned w64 c.in-Some.second = search rules in
    by_time c.args.text.now c.in-Some.second c.from_1970.result (rw c.in-Some.is at c.in_ok-second.ensures) (rw (to_z-of_z w64 c.in-Some.second fits) at c.from_1970.ensures)

pub returns-in-None : goal.returns-in-None
returns-in-None c = by_seconds c.args.text.now c.seconds.result (rw c.in-None.is at c.in_ok-second.ensures) c.seconds.ensures
