use Rattle.mac_token.specs.RawToken.{text_of}
use Rattle.mac_words.proofs.InspectedLemmas.{third_told}
use Rattle.mac_words.proofs.caveat_lines.append_party.Goals as goal

pub returns-in_ok-append_escaped-in-Some : goal.returns-in_ok-append_escaped-in-Some
returns-in_ok-append_escaped-in-Some c = rw c.in-Some.is (third_told c.in-Some.field-0.items (text_of c.args.location.now) c.args.id.now _ _ _ _ c.in_ok-append_third_party-in-Some.ensures c.in_ok-append_place-in-Some.ensures c.in_ok-append_escaped-in-Some.ensures)
