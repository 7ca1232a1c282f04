use Rattle.std.proofs.Common.{refl}
use Rattle.mac_token.specs.Read.{read_of, raw_read_of}
use Rattle.mac_token.proofs.laws.read_through_bare.Goals as goal

pub returns-clause-taken : goal.returns-clause-taken
unfolding read_of raw_read_of
returns-clause-taken c = λ input bytes e. rw e refl

pub returns-clause-refused : goal.returns-clause-refused
unfolding read_of raw_read_of
returns-clause-refused c = λ input refusal e. rw e refl
