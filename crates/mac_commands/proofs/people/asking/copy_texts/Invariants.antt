use Rattle.std.proofs.Common.{◌≡◌, map, take}
use Rattle.mac_words.specs.Payload.{texts_of}
use Rattle.mac_commands.proofs.people.asking.copy_texts.Given as goal

abbrev pub invariant-loop-text : goal.invariant-loop-text
invariant-loop-text l = texts_of l.copies.items ≡ map (λ text. text.now) (take l.text-index l.texts)
