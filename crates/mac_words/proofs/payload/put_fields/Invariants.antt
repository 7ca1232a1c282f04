use Rattle.std.proofs.Common.{◌≡◌, ◌++◌, take}
use Rattle.std.specs.List.{flat_map}
use Rattle.mac_wire.specs.Request.{long_field}
use Rattle.mac_words.specs.Payload.{texts_of}
use Rattle.mac_words.proofs.payload.put_fields.Given as goal

abbrev pub invariant-loop-text : goal.invariant-loop-text
invariant-loop-text l = l.payload.items ≡ l.fn.payload.items ++ flat_map long_field (texts_of (take l.text-index l.texts))
