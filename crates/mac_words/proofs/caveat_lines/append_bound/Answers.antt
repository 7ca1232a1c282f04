use Rattle.std.proofs.Common.{rules, FitsSigned, w64}
use Rattle.std.proofs.lemmas.Int.{to_z-of_z}
use Rattle.mac_words.proofs.InspectedLemmas.{limit_told, since_told, none_told}
use Rattle.mac_words.proofs.caveat_lines.append_bound.Goals as goal

pub returns-in_ok-append_limit-in-Some : goal.returns-in_ok-append_limit-in-Some
returns-in_ok-append_limit-in-Some c =
    let fits : FitsSigned w64 c.in-Some.second = search rules in
    limit_told c.args.id.now c.in-Some.second _ _ (rw c.in-Some.is at c.time_limit.ensures) (rw (to_z-of_z w64 c.in-Some.second fits) at c.in_ok-append_limit-in-Some.ensures)

pub returns-in_ok-append_since-in-Some-time_since : goal.returns-in_ok-append_since-in-Some-time_since
returns-in_ok-append_since-in-Some-time_since c =
    let fits : FitsSigned w64 c.in-Some-time_since.second = search rules in
    since_told c.args.id.now c.in-Some-time_since.second _ _ (rw c.in-Some-time_since.is at c.time_since.ensures) (rw (to_z-of_z w64 c.in-Some-time_since.second fits) at c.in_ok-append_since-in-Some-time_since.ensures)

pub returns-in_ok-append_no_bound-in-None-time_since : goal.returns-in_ok-append_no_bound-in-None-time_since
returns-in_ok-append_no_bound-in-None-time_since c =
    none_told c.args.id.now _ _ (rw c.in-None.is at c.time_limit.ensures) (rw c.in-None-time_since.is at c.time_since.ensures) c.in_ok-append_no_bound-in-None-time_since.ensures
