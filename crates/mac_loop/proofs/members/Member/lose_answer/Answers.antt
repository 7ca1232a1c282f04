use Rattle.mac_loop.proofs.AliveLemmas.{keeps-still}
use Rattle.mac_loop.proofs.RegisterLemmas.{still-called}
use Rattle.mac_loop.proofs.members.Member.lose_answer.Goals as goal

pub invariant_of-self : goal.invariant_of-self
invariant_of-self g c = record {
  lives = keeps-still c.args.self.now.client c.lose_answer.new.self c.lose_answer.ensures.rights c.lose_answer.ensures.answers c.args.self.now.lives;
  called = still-called _ _ c.args.self.now.client c.lose_answer.new.self c.lose_answer.ensures.rights c.args.self.now.called;
}
