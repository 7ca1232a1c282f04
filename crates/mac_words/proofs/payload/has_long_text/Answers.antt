use Rattle.std.proofs.Common.{◌∙◌}
use Rattle.mac_words.proofs.PayloadLemmas.{any_long}
use Rattle.mac_words.proofs.payload.has_long_text.Goals as goal

pub returns : goal.returns
returns c = c.any_is_long.ensures ∙ any_long c.args.texts.now
