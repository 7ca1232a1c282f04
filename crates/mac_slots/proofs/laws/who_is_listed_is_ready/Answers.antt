-- By whether the slot is ready already.
use Rattle.mac_slots.proofs.Listing.{listed-ready, listed-others}
use Rattle.mac_slots.proofs.laws.who_is_listed_is_ready.Goals as goal

pub returns : goal.returns
returns g c = record { ready = listed-ready; others = listed-others }
