use Rattle.std.proofs.Common.{◌≡◌, ◌∙◌, sym, ap, None}
use Rattle.mac_token.specs.Location.{text_at}
use Rattle.mac_token.specs.Section.{location_bytes}
use Rattle.mac_token.proofs.Texts.{unsaid_location}
use Rattle.mac_token.proofs.tally.Tally.with_caveat.Goals as goal

pub returns-in_err-location : goal.returns-in_err-location
returns-in_err-location c =
    let none : text_at (location_bytes c.args.section.now) ≡ None = sym (ap text_at c.location_or_empty.ensures) ∙ sym c.in_err-location.ensures in
    rw (c.from_residual.ensures, unsaid_location c.args.section.now none)
