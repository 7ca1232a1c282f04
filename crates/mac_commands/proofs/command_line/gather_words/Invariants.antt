use Rattle.std.proofs.Common.{◌≡◌, ◌++◌, take}
use Rattle.std.specs.Vec.Iter.{into_iter_items, into_iter_len}
use Rattle.mac_commands.proofs.command_line.gather_words.Given as goal

abbrev pub invariant-loop-word : goal.invariant-loop-word
invariant-loop-word l = l.words.items ++ take (into_iter_len l.word-iterator) (into_iter_items l.word-iterator)
    ≡ take (into_iter_len l.initial.word-iterator) (into_iter_items l.initial.word-iterator)
