-- Whether a request is asked of the page by the page itself (this project's own): the page alone has
-- the secret. A browser names in `Host` what it connects to (RFC 9110, section 7.2), and whose page
-- asks in `Origin` (RFC 6454, section 7) and `Sec-Fetch-Site` (Fetch Metadata, section 2.4).
use Rattle.std.specs.Prelude.{ℕ, Bool, true, false, ◌&&◌, ◌||◌, List, [], ◌∷◌, string_bytes, codes, bytes_eq, Option, Some, None}
use Rattle.http.specs.declared.request.Parts.{Parts}
use Rattle.http_header.specs.FieldValue.{FieldValue}
use Rattle.http_header.specs.HeaderMap.{get_all}
use Rattle.mac_http.specs.Facts.{one_value}
use Rattle.mac_http.specs.Target.{behind_front}
use Rattle.mac_page.specs.declared.site.Site.{Site}

-- the site is served under the name
abbrev pub is_own : Site → List ℕ → Bool
is_own site name =
    bytes_eq name (string_bytes site.address) || bytes_eq name (string_bytes site.local)

-- there is a name, and the site is served under it
abbrev pub is_named : Site → Option (List ℕ) → Bool
is_named site None = false
is_named site (Some name) = is_own site name

-- the page that asks is the site's
abbrev pub is_own_origin : Site → List ℕ → Bool
is_own_origin site origin = is_named site (behind_front (codes "http://") origin)

-- no page is named that asks, or one alone, and it is the site's
abbrev pub is_from_home : Site → List FieldValue → Bool
is_from_home site [] = true
is_from_home site (v ∷ []) = is_own_origin site v.bytes
is_from_home site (v ∷ w ∷ more) = false

-- no browser tells whose page asks, or one does, and it is the site's
abbrev pub is_fetched : List FieldValue → Bool
is_fetched [] = true
is_fetched (v ∷ []) = bytes_eq v.bytes (codes "same-origin")
is_fetched (v ∷ w ∷ more) = false

-- the same, or a browser tells that a person asks, and no page
abbrev pub is_opened : List FieldValue → Bool
is_opened [] = true
is_opened (v ∷ []) = bytes_eq v.bytes (codes "same-origin") || bytes_eq v.bytes (codes "none")
is_opened (v ∷ w ∷ more) = false

-- there is a value, and it is the secret of the site's page
abbrev pub brings_secret : Site → Option (List ℕ) → Bool
brings_secret site None = false
brings_secret site (Some value) = bytes_eq value site.secrets.of_page

-- the request names the site, and a page that it names by `Origin` is the site's
abbrev pub has_own_names : Site → Parts → Bool
has_own_names site head = is_named site (one_value head.headers (codes "host"))
    && is_from_home site (get_all head.headers (codes "origin"))

-- the request names the site and brings its page's secret, and no field of it names another page
abbrev pub is_at_home : Site → Parts → Bool
is_at_home site head = has_own_names site head
    && (is_fetched (get_all head.headers (codes "sec-fetch-site"))
    && brings_secret site (one_value head.headers (codes "macaroond-page")))

-- the request names the site, and no field of it names another page: all that a file asks for
abbrev pub is_shown : Site → Parts → Bool
is_shown site head = has_own_names site head
    && is_opened (get_all head.headers (codes "sec-fetch-site"))
