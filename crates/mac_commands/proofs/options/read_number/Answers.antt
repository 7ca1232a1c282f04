use Rattle.std.specs.Str.Parse.{ExplainsUnsignedError, HasUnsignedDigitsIfOk, ParsesUnsigned}
use Rattle.clap.specs.Words.{found_of}
use Rattle.mac_commands.proofs.OptionReads.{number_read, number_there}
use Rattle.mac_commands.proofs.options.read_number.Goals as goal

pub unreachable-requires : goal.unreachable-requires
unreachable-requires c = number_there _ (λ bs r. ParsesUnsigned 64 10 bs r × ExplainsUnsignedError 10 bs r × HasUnsignedDigitsIfOk bs r) (λ t r g. g.0) (found_of c.args.options.now) c.args.name.now c.in-None.ensures.value c.requires

pub returns : goal.returns
returns c = number_read _ (λ bs r. ParsesUnsigned 64 10 bs r × ExplainsUnsignedError 10 bs r × HasUnsignedDigitsIfOk bs r) (λ t r g. g.0) (found_of c.args.options.now) c.args.name.now c.in-Some.number c.in-Some.ensures.value
