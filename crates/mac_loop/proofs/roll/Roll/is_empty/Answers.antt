use Rattle.std.proofs.Common.{arith, sym, ◌∙◌}
use Rattle.std.proofs.lemmas.Bool.{eqb-true}
use Rattle.mac_loop.proofs.RollLemmas.{no-newcomer, nobody-held}
use Rattle.mac_loop.proofs.roll.Roll.is_empty.Goals as goal

pub returns : goal.returns
returns g c = λ is.
    let nobody = nobody-held c.args.self.now.connections.slots (sym c.count.ensures ∙ eqb-true c.count.result 0 is) in
    let none = no-newcomer c.args.self.now.newcomer (sym c.is_some.ensures ∙ c.if-is_some.false) in
    grind (arith, nobody, none, c.is_empty.ensures c.if-not-is_empty.false)
