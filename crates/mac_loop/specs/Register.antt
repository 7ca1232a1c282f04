-- Who came to a daemon, and who has gone.
use Rattle.std.specs.Prelude.{◌≡◌, ℕ, ◌+◌, List, [], ◌∷◌, ◌++◌}
use Rattle.mac_decide.specs.declared.rights.Rights.{Rights}
use Rattle.mac_host.specs.declared.badge.Badge.{Badge}
use Rattle.mac_loop.specs.Ledger.{books_of, entered_of, gone_of}
use Rattle.mac_loop.specs.declared.register.Admitted.{Admitted}
use Rattle.mac_loop.specs.declared.register.Origin.{Ghosts}
use Rattle.mac_loop.specs.declared.register.Presence.{Presence}
use Rattle.mac_loop.specs.declared.register.Register.{Register}

-- one was admitted as what is known by this badge
pub record IsNoted (admitted : Admitted) (badge : Badge) : Type 0 where
  pub number : admitted.number ≡ badge.number
  pub socket : admitted.socket ≡ badge.socket

-- one was admitted as what is known by this badge, and under these rights
pub record IsCalled (admitted : Admitted) (badge : Badge) (rights : Rights) : Type 0 where
  pub noted : IsNoted admitted badge
  pub under : admitted.rights.value ≡ rights

module _ {O : Type 0} {origin : Ghosts O} where
  -- whom a thread has admitted
  abbrev pub came : Register O origin → List Admitted
  came register = entered_of register.book

  -- who has gone there
  abbrev pub went : Register O origin → List Admitted
  went register = gone_of register.book

  -- for how many threads it stands
  abbrev pub parts : Register O origin → ℕ
  parts register = books_of register.book

  -- who is there
  abbrev pub who : Presence O origin → Admitted
  who presence = presence.entry.entry.value

  -- one thread's part, which has admitted nobody and seen nobody off
  pub record IsBegun (register : Register O origin) : Type 0 where
    pub one : parts register ≡ 1
    pub came_is : came register ≡ []
    pub went_is : went register ≡ []

  -- the second one stands for so many threads more than the first, and tells the same
  pub record StandsForMore (few : Register O origin) (more : ℕ) (many : Register O origin) : Type 0 where
    pub ledger : many.ledger ≡ few.ledger
    pub parts_are : parts many ≡ parts few + more
    pub came_is : came many ≡ came few
    pub went_is : went many ≡ went few

  -- one more was admitted
  pub record HasAdmitted (before : Register O origin) (one : Admitted) (after : Register O origin) : Type 0 where
    pub ledger : after.ledger ≡ before.ledger
    pub parts_are : parts after ≡ parts before
    pub came_is : came after ≡ came before ++ one ∷ []
    pub went_is : went after ≡ went before

  -- one more has gone
  pub record HasSeenOff (before : Register O origin) (one : Admitted) (after : Register O origin) : Type 0 where
    pub ledger : after.ledger ≡ before.ledger
    pub parts_are : parts after ≡ parts before
    pub came_is : came after ≡ came before
    pub went_is : went after ≡ went before ++ one ∷ []
