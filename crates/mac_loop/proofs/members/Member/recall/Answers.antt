use Rattle.mac_board.specs.Noticed.{lent_current}
use Rattle.mac_loop.proofs.AliveLemmas.{keeps-recalling}
use Rattle.mac_loop.proofs.RegisterLemmas.{still-called}
use Rattle.mac_loop.proofs.members.Member.recall.Goals as goal

pub invariant_of-self : goal.invariant_of-self
invariant_of-self g c = record {
  lives = keeps-recalling c.recall.result (lent_current c.args.current) c.args.self.now.client c.recall.new.client c.recall.ensures.answers c.recall.ensures.untold c.recall.ensures.rights c.args.self.now.lives;
  called = still-called _ _ c.args.self.now.client c.recall.new.client c.recall.ensures.rights c.args.self.now.called;
}
