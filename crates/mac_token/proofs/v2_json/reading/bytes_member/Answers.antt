-- Where the base64 text of the one member spells nothing, the members have no bytes.
use Rattle.std.proofs.Common.{◌≡◌, Some, None, refl, rules}
use Rattle.serde_json.specs.Data.{string}
use Rattle.serde_json.specs.Find.{get}
use Rattle.serde_json.specs.View.{view}
use Rattle.mac_token.proofs.JsonGiven.{no_member_bytes}
use Rattle.mac_token.proofs.v2_json.reading.bytes_member.Goals as goal

pub returns-in-None : goal.returns-in-None
returns-in-None c =
    let letters = c.in-None-Some.letters.now in
    let text = get c.args.plain.now (view c.args.object.now) in
    let coded = get c.args.coded.now (view c.args.object.now) in
    let absent : text ≡ None = search rules in
    let present : coded ≡ Some (string letters) = search rules in
    let nothing = rw c.in-None.is at c.in_ok-bytes-in-None-Some.ensures in
    let fails = rw c.as_bytes-in-None-Some.ensures.value at nothing in
    (refl, λ bytes has. no_member_bytes text coded letters bytes absent present fails has)
