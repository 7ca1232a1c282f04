-- Requests that are asked of the site by its own page, and others.
use Rattle.std.proofs.Common.{◌≡◌, ◌⊎◌, ℕ, List, [], Bool, true, false, Option, Some, None, inl, inr, refl, subst, ap, ⊎_elim}
use Rattle.std.specs.Prelude.{bytes_eq, codes, length, string_bytes}
use Rattle.std.proofs.lemmas.Bool.{and_parts, false≢true}
use Rattle.std.proofs.lemmas.Slice.Eq.{bytes_eq-Decides}
use Rattle.http.specs.Request.{head_of}
use Rattle.http.specs.declared.request.Parts.{Parts}
use Rattle.http.specs.declared.request.Request.{Request}
use Rattle.http_server.specs.declared.response.Response.{Response}
use Rattle.http_server.specs.Response.{IsResponse}
use Rattle.http_uri.specs.Uri.{uri_path}
use Rattle.mac_http.specs.Facts.{one_value}
use Rattle.mac_http.specs.Saying.{IsOverloaded}
use Rattle.mac_page.specs.declared.site.Site.{Site}
use Rattle.mac_page.specs.declared.told.SiteTold.TheVariants.{Foreign}
use Rattle.mac_page.specs.declared.route.File.{File}
use Rattle.mac_page.specs.Home.{brings_secret, is_at_home, is_named, is_own, is_shown}
use Rattle.mac_page.specs.Route.{file_in}
use Rattle.mac_page.specs.Told.{Responds, Tells, guards, told_of}

pub others_told : (site : Site) (request : Request (List ℕ)) (response : Response) → file_in (uri_path (head_of request).uri) ≡ None
    → is_at_home site (head_of request) ≡ false → Responds site request response → IsResponse 403 guards [] response ⊎ IsOverloaded response
others_told site request response no_file foreign told =
    ⊎_elim
    (λ (t : (drawn : List ℕ) × (length drawn ≡ 16) × Tells site (told_of site drawn request) response).
    let same : told_of site t.0 request ≡ Foreign = rw (no_file, foreign) refl in
    inl (subst (λ x. Tells site x response) same t.2))
    (λ t. inr t)
    told

pub others_shown : (site : Site) (request : Request (List ℕ)) (response : Response) (file : File)
    → file_in (uri_path (head_of request).uri) ≡ Some file → is_shown site (head_of request) ≡ false → Responds site request response
    → IsResponse 403 guards [] response ⊎ IsOverloaded response
others_shown site request response file is_file foreign told =
    ⊎_elim
    (λ (t : (drawn : List ℕ) × (length drawn ≡ 16) × Tells site (told_of site drawn request) response).
    let same : told_of site t.0 request ≡ Foreign = rw (is_file, foreign) refl in
    inl (subst (λ x. Tells site x response) same t.2))
    (λ t. inr t)
    told

abbrev IsOne : Site → Option (List ℕ) → Type 0
IsOne site name = (name ≡ Some (string_bytes site.address)) ⊎ (name ≡ Some (string_bytes site.local))

own_is : (site : Site) (name : List ℕ) (is_address is_local : Bool) → bytes_eq name (string_bytes site.address) ≡ is_address
    → bytes_eq name (string_bytes site.local) ≡ is_local → is_own site name ≡ true → IsOne site (Some name)
own_is site name true is_local first second own = inl (ap Some ((bytes_eq-Decides name (string_bytes site.address)).0 first))
own_is site name false true first second own = inr (ap Some ((bytes_eq-Decides name (string_bytes site.local)).0 second))
own_is site name false false first second own = let bad : false ≡ true = rw (first, second) at own in absurd (false≢true bad)

named_is : (site : Site) (name : Option (List ℕ)) → is_named site name ≡ true → IsOne site name
named_is site None named = absurd (false≢true named)
named_is site (Some name) named = own_is site name _ _ refl refl named

pub home_is_named : (site : Site) (head : Parts) → is_at_home site head ≡ true → IsOne site (one_value head.headers (codes "host"))
home_is_named site head home =
    named_is site (one_value head.headers (codes "host")) (and_parts _ _ (and_parts _ _ home).0).0

brought_is : (site : Site) (value : Option (List ℕ)) → brings_secret site value ≡ true → value ≡ Some site.secrets.of_page
brought_is site None brings = absurd (false≢true brings)
brought_is site (Some value) brings = ap Some ((bytes_eq-Decides value site.secrets.of_page).0 brings)

pub home_brings : (site : Site) (head : Parts) → is_at_home site head ≡ true
    → one_value head.headers (codes "macaroond-page") ≡ Some site.secrets.of_page
home_brings site head home =
    brought_is site (one_value head.headers (codes "macaroond-page")) (and_parts _ _ (and_parts _ _ home).1).1
