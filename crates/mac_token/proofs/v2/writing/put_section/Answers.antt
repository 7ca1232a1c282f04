use Rattle.mac_token.specs.V2.{written_location}
use Rattle.mac_token.proofs.V2Writing.{section_pushed}
use Rattle.mac_token.proofs.v2.writing.put_section.Goals as goal

pub returns : goal.returns
returns c = rw (c.in_ok-push.ensures.items, c.in_ok-put_field.ensures, c.in_ok-put_location.ensures) (section_pushed c.args.out.now.items (written_location c.args.location.now) c.args.identifier.now)
