-- What the life of a connection says of each of its responses.
use Rattle.std.proofs.Common.{◌≡◌, ◌⊎◌, ℕ, List, [], Bool, true, false, Option, Some, inl, inr, refl, ap, subst, ◌∙◌}
use Rattle.std.specs.Prelude.{All, codes}
use Rattle.std.proofs.lemmas.List.Elements.{All-weaker}
use Rattle.http.specs.Request.{head_of}
use Rattle.http.specs.declared.request.Parts.{Parts}
use Rattle.http_server.specs.Exchange.{Call}
use Rattle.http_server.specs.Response.{IsResponse}
use Rattle.http_server.specs.declared.response.Response.{Response}
use Rattle.mac_http.specs.Facts.{one_value}
use Rattle.mac_http.specs.Faced.{IsAnswerTo, MayClose}
use Rattle.mac_http.specs.Page.{TellsIf, has_page}
use Rattle.mac_http.specs.Saying.{IsOverloaded}
use Rattle.mac_http.specs.declared.page.Page.{Page}
use Rattle.mac_http.specs.declared.rules.Pages.{Pages}
use Rattle.mac_http.specs.declared.rules.Rules.{Rules}
use Rattle.mac_http.specs.declared.rules.Way.{Way}
use Rattle.mac_http.proofs.MintLemmas.{denied, not_minted}
use Rattle.mac_page.specs.Home.{is_at_home}
use Rattle.mac_page.specs.declared.site.Site.{Site as PageSite}
use Rattle.mac_page.proofs.HomeLemmas.{home_brings, others_told}
use Rattle.mac_gate.specs.declared.offer.AddressTerms.{AddressTerms}
use Rattle.mac_gate.specs.declared.offer.Offer.TheVariants.{Daemon, Site}
use Rattle.mac_gate.specs.Lives.{AreRules, AsksToMint, IsDenied, IsGuarded, IsNoPage, IsOffered, Said}

-- an address doesn't mint
abbrev pub MintsNot : AddressTerms → Type 0
MintsNot own = (own.rights.may_mint ≡ false) ⊎ (own.terms.calls.mint ≡ false)

-- nor does a face under its rules
ruled : (own : AddressTerms) (by : Way) (rules : Rules) → AreRules own by rules → MintsNot own
    → (rules.rights.now.may_mint ≡ false) ⊎ (rules.calls.mint ≡ false)
ruled own by rules are (inl bars) = inl (ap (λ r. r.may_mint) are.rights ∙ bars)
ruled own by rules are (inr bars) = inr (ap (λ r. r.mint) are.calls ∙ bars)

closed : (plain response : Response) → MayClose plain response → IsResponse 404 [] [] plain ⊎ IsOverloaded plain → IsDenied response
closed plain response may (inl r) = (inl (may.status ∙ r.status), ap (λ b. b.items) may.body ∙ r.body)
closed plain response may (inr r) = (inr (may.status ∙ r.status), ap (λ b. b.items) may.body ∙ r.body)

denied_at : (own : AddressTerms) (by : Way) → MintsNot own → (call : Call) → IsOffered (Daemon own) by call → AsksToMint call.0 → IsDenied call.1
denied_at own by why call offered asks =
    let rules = offered.0 in
    let under = offered.2.0 in
    let right = offered.2.1 in
    closed right.0 call.1 right.2
    (not_minted under.0 rules under.1 call.0 asks.0 right.0 (denied rules (ruled own by rules offered.1 why)) asks.1 right.1)

pub never_mints : (own : AddressTerms) (by : Way) (came went : List ℕ) (said : Said (Daemon own) by came went) → MintsNot own
    → All (λ call. AsksToMint call.0 → IsDenied call.1) said.done.calls
never_mints own by came went said why =
    All-weaker (IsOffered (Daemon own) by) (λ call. AsksToMint call.0 → IsDenied call.1) (denied_at own by why) said.done.calls said.right

-- who doesn't bring the secret isn't the page
other_is : (site : PageSite) (head : Parts) (home : Bool) → is_at_home site head ≡ home
    → ¬ (one_value head.headers (codes "macaroond-page") ≡ Some site.secrets.of_page) → is_at_home site head ≡ false
other_is site head true is lacks = absurd (lacks (home_brings site head is))
other_is site head false is lacks = is

guarded_at : (site : PageSite) (by : Way) (call : Call) → IsOffered (Site site) by call → IsGuarded site call.0 call.1
guarded_at site by call responds no_file no_secret =
    others_told site call.0 call.1 no_file (other_is site (head_of call.0) (is_at_home site (head_of call.0)) refl no_secret) responds

pub all_guarded : (site : PageSite) (by : Way) (came went : List ℕ) (said : Said (Site site) by came went)
    → All (λ call. IsGuarded site call.0 call.1) said.done.calls
all_guarded site by came went said =
    All-weaker (IsOffered (Site site) by) (λ call. IsGuarded site call.0 call.1) (guarded_at site by) said.done.calls said.right

-- a page that isn't there is a bare 404, and nothing more where the connection is closed behind it
no_page_at : (own : AddressTerms) (by : Way) (call : Call) → IsOffered (Daemon own) by call → IsNoPage own.terms.pages call.0 call.1
no_page_at own by call offered page named lacks =
    let rules = offered.0 in
    let under = offered.2.0 in
    let right = offered.2.1 in
    let answer : IsAnswerTo (Some page) under.0 rules under.1 call.0 right.0 =
    subst (λ (p : Option Page). IsAnswerTo p under.0 rules under.1 call.0 right.0) named right.1 in
    let none : has_page rules.pages page ≡ false = ap (λ (pages : Pages). has_page pages page) offered.1.pages ∙ lacks in
    let bare : IsResponse 404 [] [] right.0 = subst (λ (has : Bool). TellsIf has page right.0) none answer in
    (right.2.status ∙ bare.status, ap (λ b. b.items) right.2.body ∙ bare.body)

pub no_page_told : (own : AddressTerms) (by : Way) (came went : List ℕ) (said : Said (Daemon own) by came went)
    → All (λ call. IsNoPage own.terms.pages call.0 call.1) said.done.calls
no_page_told own by came went said =
    All-weaker (IsOffered (Daemon own) by) (λ call. IsNoPage own.terms.pages call.0 call.1) (no_page_at own by) said.done.calls said.right
