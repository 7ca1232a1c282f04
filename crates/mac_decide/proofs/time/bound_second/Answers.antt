use Rattle.std.proofs.Common.{Some, None}
use Rattle.std.proofs.lemmas.Bool.Decides.{Decides-eqb}
use Rattle.std.proofs.lemmas.Slice.Eq.{strip_prefix_is}
use Rattle.mac_decide.proofs.TimeLemmas.{no_front, bound-exact}
use Rattle.mac_decide.proofs.time.bound_second.Goals as goal

pub returns-in_err-time : goal.returns-in_err-time
returns-in_err-time c =
    let none = strip_prefix_is Decides-eqb c.args.text.now c.args.front.now None c.in_err-time.ensures.cases in
    rw c.from_residual.ensures (no_front _ _ none)

pub returns : goal.returns
returns c =
    let front = strip_prefix_is Decides-eqb c.args.text.now c.args.front.now (Some c.in_ok-time.time) c.in_ok-time.ensures.cases in
    bound-exact _ _ _ _ front c.time_second.ensures
