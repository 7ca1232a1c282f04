use Rattle.std.proofs.Common.{◌∙◌, refl, sym}
use Rattle.mac_http.proofs.calling.fill.Goals as goal

pub returns-in-Some-clause-told : goal.returns-in-Some-clause-told
returns-in-Some-clause-told c =
    rw (sym c.refusal_of.ensures ∙ c.in-Some.is) (record { status = refl; headers = c.requires.headers; body = c.requires.body })

pub returns-in-Some-clause-noted : goal.returns-in-Some-clause-noted
returns-in-Some-clause-noted c = rw (sym c.refusal_of.ensures ∙ c.in-Some.is) refl
