use Rattle.std.proofs.Common.{map, ap, refl, subst, IfOk, string_bytes}
use Rattle.std.proofs.lemmas.Result.{IfOk-weaker}
use Rattle.clap.specs.Words.{App, FailsBy, HasMatchesOf, fault_of, is_simple_and_free}
use Rattle.mac_commands.proofs.OptionLemmas.{command_found}
use Rattle.mac_commands.proofs.command_line.match_words.Goals as goal

pub returns-clause-faults : goal.returns-clause-faults
returns-clause-faults c =
    let words = map string_bytes c.args.words.now in
    let same = c.in_ok-build_command.ensures in
    subst (λ (a : App). FailsBy (fault_of a words) c.try_get_matches_from.result) same (c.try_get_matches_from.ensures.kinds (ap is_simple_and_free same))

pub returns-clause-rows : goal.returns-clause-rows
returns-clause-rows c =
    let words = map string_bytes c.args.words.now in
    let r = c.try_get_matches_from.result in
    IfOk-weaker r _ _ (λ m has. (has refl).1) (subst (λ (a : App). IfOk r (HasMatchesOf a words)) c.in_ok-build_command.ensures c.try_get_matches_from.ensures.matches)

pub returns-clause-options : goal.returns-clause-options
returns-clause-options c =
    let words = map string_bytes c.args.words.now in
    let r = c.try_get_matches_from.result in
    let same = c.in_ok-build_command.ensures in
    command_found words r
    (subst (λ (a : App). FailsBy (fault_of a words) r) same (c.try_get_matches_from.ensures.kinds (ap is_simple_and_free same)))
    (subst (λ (a : App). IfOk r (HasMatchesOf a words)) same c.try_get_matches_from.ensures.matches)
