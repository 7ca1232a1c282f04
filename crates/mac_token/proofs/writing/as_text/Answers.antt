use Rattle.std.proofs.Common.{length, refl, rules}
use Rattle.mac_token.proofs.WritesLemmas.{text_too_long, text_is_short}
use Rattle.mac_token.proofs.writing.as_text.Goals as goal

pub returns-then-not-text_fits : goal.returns-then-not-text_fits
returns-then-not-text_fits c = text_too_long c.args.bytes.now (length c.args.bytes.now) c.text_fits.result c.text_fits.ensures c.if-not-text_fits.true refl

pub returns : goal.returns
returns c =
    let short = text_is_short c.args.bytes.now (length c.args.bytes.now) c.text_fits.result c.text_fits.ensures c.if-not-text_fits.false refl in
    (search rules, short)
