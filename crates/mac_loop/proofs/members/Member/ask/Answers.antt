use Rattle.mac_board.specs.Noticed.{lent_current}
use Rattle.mac_loop.proofs.AliveLemmas.{keeps-asking}
use Rattle.mac_loop.proofs.RegisterLemmas.{still-called}
use Rattle.mac_loop.proofs.members.Member.ask.Goals as goal

pub invariant_of-self : goal.invariant_of-self
invariant_of-self g c = record {
  lives = keeps-asking (lent_current c.args.current) c.args.self.now.client c.ask.new.self c.ask.result c.ask.ensures.asked c.ask.ensures.rights c.ask.ensures.answers c.args.self.now.lives;
  called = still-called _ _ c.args.self.now.client c.ask.new.self c.ask.ensures.rights c.args.self.now.called;
}
