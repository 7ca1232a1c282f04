use Rattle.std.proofs.Common.{refl}
use Rattle.sha256x8.proofs.begun.lanes_of.Goals as goal

pub returns : goal.returns
returns c = λ j lt.
    rw (
      c.row_of.ensures j lt,
      c.row_of-2.ensures j lt,
      c.row_of-3.ensures j lt,
      c.row_of-4.ensures j lt,
      c.row_of-5.ensures j lt,
      c.row_of-6.ensures j lt,
      c.row_of-7.ensures j lt,
      c.row_of-8.ensures j lt,
    ) refl
