use Rattle.mac_token.specs.Written.{token_bytes}
use Rattle.mac_token.specs.V1.{v1_bytes}
use Rattle.mac_token.specs.V2.{v2_bytes}
use Rattle.mac_token.proofs.WritesLemmas.{text_too_long, text_is_short}
use Rattle.mac_token.proofs.writing.may_fit.Goals as goal

pub returns-in-V1Text-clause-long : goal.returns-in-V1Text-clause-long
unfolding token_bytes
returns-in-V1Text-clause-long c = rw c.in-V1Text.is (λ no. text_too_long (v1_bytes c.args.token.now) c.written_len.result c.text_fits.result c.text_fits.ensures no c.written_len.ensures.value)

pub returns-in-V1Text-clause-short : goal.returns-in-V1Text-clause-short
unfolding token_bytes
returns-in-V1Text-clause-short c = rw c.in-V1Text.is (λ yes other. text_is_short (v1_bytes c.args.token.now) c.written_len.result c.text_fits.result c.text_fits.ensures yes c.written_len.ensures.value)

pub returns-in-V2Text-clause-long : goal.returns-in-V2Text-clause-long
unfolding token_bytes
returns-in-V2Text-clause-long c = rw c.in-V2Text.is (λ no. text_too_long (v2_bytes c.args.token.now) c.written_len-in-V2Text.result c.text_fits-in-V2Text.result c.text_fits-in-V2Text.ensures no c.written_len-in-V2Text.ensures)

pub returns-in-V2Text-clause-short : goal.returns-in-V2Text-clause-short
unfolding token_bytes
returns-in-V2Text-clause-short c = rw c.in-V2Text.is (λ yes other. text_is_short (v2_bytes c.args.token.now) c.written_len-in-V2Text.result c.text_fits-in-V2Text.result c.text_fits-in-V2Text.ensures yes c.written_len-in-V2Text.ensures)
