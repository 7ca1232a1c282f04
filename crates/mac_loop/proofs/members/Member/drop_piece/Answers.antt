use Rattle.std.proofs.Common.{ap}
use Rattle.mac_loop.proofs.AliveLemmas.{keeps-still}
use Rattle.mac_loop.proofs.RegisterLemmas.{still-called}
use Rattle.mac_loop.proofs.members.Member.drop_piece.Goals as goal

pub invariant_of-self : goal.invariant_of-self
invariant_of-self g c = record {
  lives = keeps-still c.args.self.now.client c.drop_piece.new.self (ap (λ x. x.rights) c.drop_piece.ensures.same) c.drop_piece.ensures.answers c.args.self.now.lives;
  called = still-called _ _ c.args.self.now.client c.drop_piece.new.self (ap (λ x. x.rights) c.drop_piece.ensures.same) c.args.self.now.called;
}
