use Rattle.std.proofs.Common.{◌≡◌, ◌∙◌, None, sym}
use Rattle.mac_wire.specs.Request.{verify}
use Rattle.mac_words.specs.Payload.{field_fault, texts_of}
use Rattle.mac_words.proofs.PayloadLemmas.{gives_fault, gives_payload, verify_fits}
use Rattle.mac_words.proofs.payload.verify_payload.Goals as goal

pub returns-in-Some : goal.returns-in-Some
returns-in-Some c = gives_fault (verify c.args.key.now c.args.token.now c.args.moment (texts_of c.args.facts.now)) c.in-Some.fault (sym (c.verify_fault.ensures c.args.moment) ∙ c.in-Some.is)

pub verify_bytes-requires : goal.verify_bytes-requires
verify_bytes-requires c =
    let none : field_fault (verify c.args.key.now c.args.token.now c.args.moment (texts_of c.args.facts.now)) ≡ None = sym (c.verify_fault.ensures c.args.moment) ∙ c.in-None.is in
    verify_fits c.args.key.now c.args.token.now c.args.moment (texts_of c.args.facts.now) c.ranges.moment.fits none

pub returns-in-None : goal.returns-in-None
returns-in-None c =
    let none : field_fault (verify c.args.key.now c.args.token.now c.args.moment (texts_of c.args.facts.now)) ≡ None = sym (c.verify_fault.ensures c.args.moment) ∙ c.in-None.is in
    gives_payload (verify c.args.key.now c.args.token.now c.args.moment (texts_of c.args.facts.now)) c.verify_bytes.result c.framed.result none (verify_fits c.args.key.now c.args.token.now c.args.moment (texts_of c.args.facts.now) c.ranges.moment.fits none) c.verify_bytes.ensures c.framed.ensures
