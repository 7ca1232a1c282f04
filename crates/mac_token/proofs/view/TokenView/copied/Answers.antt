use Rattle.mac_token.proofs.view.TokenView.copied.Goals as goal

-- a token that was within the limits is within them as a copy
pub returns-in_err-new : goal.returns-in_err-new
returns-in_err-new c =
    absurd (c.in_err-new.ensures.made
    (rw (c.in_ok-location.ensures.ok, c.location.ensures, c.in_ok-identifier.ensures.items, c.identifier.ensures, c.in_ok-caveats.ensures.value) c.caveat_copies.ensures.within))
