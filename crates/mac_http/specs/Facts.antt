-- The facts that a request brings, by the sources that are named (this project's own).
use Rattle.std.specs.Prelude.{ℕ, Bool, ◌==◌, nat_lt, not, ◌&&◌, ◌||◌, false, position, unwrap_or, List, [], ◌∷◌, ◌++◌, length, take, map, codes, bytes_eq, Option, Some, None, option_map, if◌then◌else◌}
use Rattle.std.specs.List.{flat_map, list_any}
use Rattle.std.specs.Str.Lossy.{utf8_lossy}
use Rattle.form_urlencoded.specs.Form.{raw_pairs, decode}
use Rattle.http.specs.declared.request.Parts.{Parts}
use Rattle.http_header.specs.FieldValue.{FieldValue}
use Rattle.http_header.specs.HeaderMap.{Entries, get_all}
use Rattle.http_uri.specs.Uri.{uri_query}
use Rattle.mac_http.specs.declared.rules.Sources.{Sources}
use Rattle.mac_http.specs.Authorization.{only}
use Rattle.mac_http.specs.Path.{is_plain, steps}

-- the facts, if their source is named
abbrev pub where_named : Bool → List (List ℕ) → List (List ℕ)
where_named named facts = if named then facts else []

-- ---- header: each field `Macaroon-Fact` is a fact

abbrev pub header_facts : Parts → List (List ℕ)
header_facts head = map (λ v. v.bytes) (get_all head.headers (codes "macaroon-fact"))

-- ---- query: each `fact` in the query of the request's own target, decoded as a form's

-- the fact that a pair of a name and a value brings; what isn't UTF-8 of it is replaced
abbrev pub fact_of_pair : List ℕ × List ℕ → List (List ℕ)
fact_of_pair pair =
    if bytes_eq pair.0 (codes "fact") then utf8_lossy (decode pair.1) ∷ [] else []

abbrev pub facts_of_query : Option (List ℕ) → List (List ℕ)
facts_of_query None = []
facts_of_query (Some query) = flat_map fact_of_pair (raw_pairs query)

abbrev pub query_facts : Parts → List (List ℕ)
query_facts head = facts_of_query (uri_query head.uri)

-- ---- forwarded: what the proxies' own fields tell

-- the values of either of two fields
abbrev pub values_of : Entries FieldValue → List ℕ → List ℕ → List FieldValue
values_of headers first second = get_all headers first ++ get_all headers second

-- the one value of either of two fields
abbrev pub one_of : Entries FieldValue → List ℕ → List ℕ → Option (List ℕ)
one_of headers first second = option_map (λ v. v.bytes) (only (values_of headers first second))

-- the one value of a field
abbrev pub one_value : Entries FieldValue → List ℕ → Option (List ℕ)
one_value headers name = option_map (λ v. v.bytes) (only (get_all headers name))

-- no field tells of it, and the path goes on behind the name: it is the request's own
abbrev pub is_own : Entries FieldValue → List ℕ → Bool
is_own headers behind = nat_lt 0 (length behind)
    && (length (values_of headers (codes "x-forwarded-uri") (codes "x-original-uri")) == 0
    && length (values_of headers (codes "x-forwarded-method") (codes "x-original-method")) == 0)

-- the method of the request that the gateway was sent
abbrev pub method_told : Parts → List ℕ → Option (List ℕ)
method_told head behind = if is_own head.headers behind then Some head.method
    else one_of head.headers (codes "x-forwarded-method") (codes "x-original-method")

-- the target of that request
abbrev pub target_told : Parts → List ℕ → Option (List ℕ)
target_told head behind = if is_own head.headers behind then Some behind
    else one_of head.headers (codes "x-forwarded-uri") (codes "x-original-uri")

abbrev pub is_question : ℕ → Bool
is_question b = b == 63

-- the path of a target, without its query
abbrev pub path_of : List ℕ → List ℕ
path_of target = take (unwrap_or (position is_question target) (length target)) target

-- the fact that a label and a value make, if there is a value
abbrev pub labelled : List ℕ → Option (List ℕ) → List (List ℕ)
labelled label None = []
labelled label (Some value) = (label ++ value) ∷ []

-- a method that asks for no change (RFC 9110, section 9.2.1)
abbrev pub is_safe : List ℕ → Bool
is_safe method = bytes_eq method (codes "GET") || (bytes_eq method (codes "HEAD")
    || (bytes_eq method (codes "OPTIONS") || bytes_eq method (codes "TRACE")))

-- that a method is safe
abbrev pub safe_fact : Bool → List (List ℕ)
safe_fact is_safe = if is_safe then codes "method is safe" ∷ [] else []

-- the method, and that it is safe, where it is
abbrev pub method_facts : Option (List ℕ) → List (List ℕ)
method_facts None = []
method_facts (Some method) = (codes "method = " ++ method) ∷ safe_fact (is_safe method)

-- the host that was asked for, the address of the gateway's peer, and the scheme
abbrev pub host_fact : Parts → List (List ℕ)
host_fact head =
    labelled (codes "host = ") (one_value head.headers (codes "x-forwarded-host"))

abbrev pub address_fact : Parts → List (List ℕ)
address_fact head = labelled (codes "ip = ") (one_value head.headers (codes "x-real-ip"))

abbrev pub scheme_fact : Parts → List (List ℕ)
scheme_fact head =
    labelled (codes "scheme = ") (one_value head.headers (codes "x-forwarded-proto"))

-- the path, and each of its steps
abbrev pub path_facts : Option (List ℕ) → List (List ℕ)
path_facts None = []
path_facts (Some path) =
    (codes "path = " ++ path) ∷ map (λ step. codes "path under " ++ step) (steps path)

-- what the fields tell, where they tell this method and this target
abbrev pub forwarded_facts : Parts → Option (List ℕ) → Option (List ℕ) → List (List ℕ)
forwarded_facts head method target =
    method_facts method
    ++ (host_fact head ++ (address_fact head ++ (scheme_fact head
    ++ path_facts (option_map path_of target))))

abbrev pub facts_forwarded : Parts → List ℕ → List (List ℕ)
facts_forwarded head behind =
    forwarded_facts head (method_told head behind) (target_told head behind)

-- ---- all of them

abbrev pub is_hash : ℕ → Bool
is_hash b = b == 35

-- the target that is told has a fragment, which no request may have (RFC 9112, section 3.2)
abbrev pub has_fragment : Option (List ℕ) → Bool
has_fragment None = false
has_fragment (Some target) = list_any is_hash target

-- a path is told that isn't plain, or not strictly so where that is asked for
abbrev pub is_unsafe : Bool → Option (List ℕ) → Bool
is_unsafe strict None = false
is_unsafe strict (Some path) = not (is_plain strict path)

-- the facts that a request brings
abbrev pub facts_of : Sources → Parts → List ℕ → List (List ℕ)
facts_of sources head behind =
    where_named sources.header (header_facts head)
    ++ (where_named sources.query (query_facts head)
    ++ where_named sources.forwarded (facts_forwarded head behind))

-- the sources are named that tell of a target, and it has a fragment
abbrev pub tells_fragment : Sources → Parts → List ℕ → Bool
tells_fragment sources head behind =
    sources.forwarded && has_fragment (target_told head behind)

-- the sources are named that tell of a path, and it isn't plain
abbrev pub tells_unsafe : Sources → Parts → List ℕ → Bool
tells_unsafe sources head behind = sources.forwarded
    && is_unsafe sources.strict (option_map path_of (target_told head behind))
