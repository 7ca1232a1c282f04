use Rattle.std.proofs.Common.{sym}
use Rattle.std.proofs.lemmas.List.{append-nil}
use Rattle.mac_commands.proofs.LineLemmas.{lines-behind}
use Rattle.mac_commands.proofs.piping.rest_behind.Goals as goal

pub returns-in-Oversize-clause-rest : goal.returns-in-Oversize-clause-rest
returns-in-Oversize-clause-rest c reply =
    rw (c.in-Oversize.is, lines-behind c.args.behind.now) (sym (append-nil _))
