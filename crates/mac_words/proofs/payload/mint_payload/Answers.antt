use Rattle.std.proofs.Common.{◌≡◌, ◌∙◌, None, sym}
use Rattle.mac_wire.specs.Request.{mint}
use Rattle.mac_words.specs.Payload.{field_fault, texts_of}
use Rattle.mac_words.proofs.PayloadLemmas.{gives_fault, gives_payload, mint_fits}
use Rattle.mac_words.proofs.payload.mint_payload.Goals as goal

pub returns-in-Some : goal.returns-in-Some
returns-in-Some c = gives_fault (mint c.args.form c.args.key.now c.args.location.now c.args.identifier.now (texts_of c.args.caveats.now)) c.in-Some.fault (sym (c.mint_fault.ensures c.args.form) ∙ c.in-Some.is)

pub mint_bytes-requires : goal.mint_bytes-requires
mint_bytes-requires c =
    let none : field_fault (mint c.args.form c.args.key.now c.args.location.now c.args.identifier.now (texts_of c.args.caveats.now)) ≡ None = sym (c.mint_fault.ensures c.args.form) ∙ c.in-None.is in
    mint_fits c.args.form c.args.key.now c.args.location.now c.args.identifier.now (texts_of c.args.caveats.now) c.utf8.location none

pub returns-in-None : goal.returns-in-None
returns-in-None c =
    let none : field_fault (mint c.args.form c.args.key.now c.args.location.now c.args.identifier.now (texts_of c.args.caveats.now)) ≡ None = sym (c.mint_fault.ensures c.args.form) ∙ c.in-None.is in
    gives_payload (mint c.args.form c.args.key.now c.args.location.now c.args.identifier.now (texts_of c.args.caveats.now)) c.mint_bytes.result c.framed.result none (mint_fits c.args.form c.args.key.now c.args.location.now c.args.identifier.now (texts_of c.args.caveats.now) c.utf8.location none) c.mint_bytes.ensures c.framed.ensures
