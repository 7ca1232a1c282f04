use Rattle.mac_token.proofs.WrittenLaws.{written_read}
use Rattle.mac_token.proofs.laws.each_token_is_read_again.Goals as goal

pub returns : goal.returns
returns c = written_read c.args.token.now c.args.form c.parts_of_a_token.ensures.parts c.parts_of_a_token.ensures.within
