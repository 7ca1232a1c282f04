use Rattle.std.proofs.Common.{◌≡◌, ◌∙◌, None, sym}
use Rattle.mac_wire.specs.Request.{attenuate}
use Rattle.mac_words.specs.Payload.{field_fault, texts_of}
use Rattle.mac_words.proofs.PayloadLemmas.{gives_fault, gives_payload, attenuate_fits}
use Rattle.mac_words.proofs.payload.attenuate_payload.Goals as goal

pub returns-in-Some : goal.returns-in-Some
returns-in-Some c = gives_fault (attenuate c.args.form c.args.token.now (texts_of c.args.caveats.now)) c.in-Some.fault (sym (c.attenuate_fault.ensures c.args.form) ∙ c.in-Some.is)

pub attenuate_bytes-requires : goal.attenuate_bytes-requires
attenuate_bytes-requires c =
    let none : field_fault (attenuate c.args.form c.args.token.now (texts_of c.args.caveats.now)) ≡ None = sym (c.attenuate_fault.ensures c.args.form) ∙ c.in-None.is in
    attenuate_fits c.args.form c.args.token.now (texts_of c.args.caveats.now) none

pub returns-in-None : goal.returns-in-None
returns-in-None c =
    let none : field_fault (attenuate c.args.form c.args.token.now (texts_of c.args.caveats.now)) ≡ None = sym (c.attenuate_fault.ensures c.args.form) ∙ c.in-None.is in
    gives_payload (attenuate c.args.form c.args.token.now (texts_of c.args.caveats.now)) c.attenuate_bytes.result c.framed.result none (attenuate_fits c.args.form c.args.token.now (texts_of c.args.caveats.now) none) c.attenuate_bytes.ensures c.framed.ensures
