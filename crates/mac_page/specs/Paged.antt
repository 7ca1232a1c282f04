-- What a peer of the page is answered, over a reader and a writer that state their bytes.
use Rattle.std.specs.Prelude.{ℕ, List, Option, All}
use Rattle.std.specs.Io.KnownBytes.{Appends, Consumes}
use Rattle.http_server.specs.History.{History, IsServed}
use Rattle.mac_http.specs.declared.attending.TheConstants.{CONFIG}
use Rattle.mac_page.specs.declared.site.Site.{Site}
use Rattle.mac_page.specs.Told.{Responds}

-- What was written are HTTP's answers to the requests that were read, in order, and each is the
-- response that the site has for its request.
pub record IsPaged (site : Site) (unread left before after : Option (List ℕ)) : Type 0 where
  pub history : History
  pub read : Consumes unread left history.received
  pub written : Appends before after history.sent
  pub served : ∥ IsServed CONFIG history ∥₁
  pub right : All (λ call. Responds site call.0 call.1) history.calls
