-- The doors over HTTP of a daemon, and what is answered there.
use Rattle.std.specs.Prelude.{◌≡◌, ℕ, [], ◌∷◌, Option, None, Some, length, replicate}
use Rattle.mac_gate.specs.Offered.{let_in_by, offered_by}
use Rattle.mac_gate.specs.declared.offer.Offer.TheVariants.{Daemon, Site}
use Rattle.mac_gate.specs.declared.server.HttpServer.{HttpServer}
use Rattle.mac_http.specs.Calling.{no_calls}
use Rattle.mac_http.specs.declared.rules.Pages.TheVariants.{All}
use Rattle.mac_page.specs.declared.site.Site.{Site as PageSite}
use Rattle.mac_sockets.specs.Entrance.{opened}
use Rattle.mac_sockets.specs.declared.doors.Doors.{Doors}
use Rattle.macaroond.specs.declared.doors.HttpDoors.{HttpDoors}
use Rattle.macaroond.specs.declared.doors.HttpServers.{HttpServers}
use Rattle.macaroond.specs.declared.doors.OpenDoors.{OpenDoors}
use Rattle.macaroond.specs.declared.operating.TheConstants.{OPERATORS_LOOPS}
use Rattle.macaroond.specs.declared.http.HttpPlan.{HttpPlan}

-- Each kind of peers is answered under the rights of its own addresses: gateways under the plan's
-- terms, programs that call under these with the calls that are allowed there, and operators under
-- terms by which no call is answered and each page is told.
pub record AreOpened (plan : HttpPlan) (doors : HttpDoors) : Type 0 where
  pub gateways : doors.gateways.terms ≡ plan.terms
  pub gateways_rights : doors.gateways.rights ≡ plan.gateways.rights
  pub callers : doors.callers.terms ≡ record plan.terms { calls = plan.calls }
  pub callers_rights : doors.callers.rights ≡ plan.callers.rights
  pub operators_calls : doors.operators.terms.calls ≡ no_calls
  pub operators_pages : doors.operators.terms.pages ≡ All
  pub operators_rights : doors.operators.rights ≡ plan.operators.rights

-- A server lets in who comes by these doors, and each of its loops, so many, offers a daemon's face
-- under the terms and the rights of these doors.
pub record IsServed (own : OpenDoors) (loops : ℕ) (server : HttpServer) : Type 0 where
  pub doors : let_in_by server ≡ opened own.doors
  pub offers : offered_by server
      ≡ replicate loops (Daemon (record { terms = own.terms; rights = own.rights }))

-- the same where there are any doors
abbrev pub AreServed : OpenDoors → ℕ → Option HttpServer → Type 0
AreServed own loops None = length (opened own.doors) ≡ 0
AreServed own loops (Some server) = IsServed own loops server

-- each kind of peers is let in by its own doors, and offered what is offered there
pub record AreAllServed (doors : HttpDoors) (loops : ℕ) (servers : HttpServers) : Type 0 where
  pub gateways : AreServed doors.gateways loops servers.gateways
  pub callers : AreServed doors.callers loops servers.callers
  pub operators : AreServed doors.operators OPERATORS_LOOPS servers.operators

-- the servers are those of a plan: its doors were opened as it says, and are served so
abbrev pub ArePlanned : HttpPlan → ℕ → HttpServers → Type 0
ArePlanned plan loops servers = (doors : HttpDoors) × AreOpened plan doors
    × AreAllServed doors loops servers

-- A server lets in who comes by these doors, and its one loop offers this site.
pub record ShowsSite (own : Doors (Unit {0})) (site : PageSite) (server : HttpServer) : Type 0 where
  pub doors : let_in_by server ≡ opened own
  pub offers : offered_by server ≡ Site site ∷ []
