-- Requests that a page in a browser may have had sent to a port (this project's own): a browser says
-- in `Origin` whose page asks (RFC 6454, section 7), in `Host` what it connects to (RFC 9110, section
-- 7.2), and sends JSON to another site only once that has said that it may (Fetch, section 4.8).
use Rattle.std.specs.Prelude.{ℕ, Bool, true, false, not, ◌==◌, ◌&&◌, ◌||◌, nat_le, nat_lt, position, unwrap_or, List, [], ◌∷◌, length, take, drop, map, codes, bytes_eq, Option, Some, None, if◌then◌else◌}
use Rattle.std.specs.List.{list_all}
use Rattle.std.specs.Char.{to_ascii_lowercase}
use Rattle.http.specs.declared.request.Parts.{Parts}
use Rattle.http_header.specs.FieldValue.{FieldValue}
use Rattle.http_header.specs.HeaderMap.{Entries, get_all}
use Rattle.mac_http.specs.declared.rules.Way.{Way}
use Rattle.mac_http.specs.declared.rules.Way.TheVariants.{Socket, Port}
use Rattle.mac_http.specs.Facts.{one_value}
use Rattle.mac_http.specs.Path.{begins, begins_in_any_case}

abbrev pub is_colon : ℕ → Bool
is_colon b = b == 58

-- how many bytes stand before the port of a host that is no IPv6 address
abbrev pub host_length : List ℕ → ℕ
host_length host = unwrap_or (position is_colon host) (length host)

abbrev pub is_dotted : ℕ → Bool
is_dotted b = nat_le 48 b && nat_le b 57 || b == 46

abbrev pub are_dotted : List ℕ → Bool
are_dotted name = list_all is_dotted name

-- the name of the machine for itself (RFC 6761, section 6.3), or an IPv4 address: no name of
-- another kind has digits and dots alone (RFC 1123, section 2.1)
abbrev pub is_home : List ℕ → Bool
is_home name =
    bytes_eq (map to_ascii_lowercase name) (map to_ascii_lowercase (codes "localhost"))
    || (nat_lt 0 (length name) && are_dotted name)

-- a host is an IPv6 address in its brackets (RFC 3986, section 3.2.2), or what stands before its
-- port is one of the above
abbrev pub names_home : List ℕ → Bool
names_home host = begins (codes "[") host || is_home (take (host_length host) host)

-- there is a host, and it is such a one
abbrev pub is_named_home : Option (List ℕ) → Bool
is_named_home None = false
is_named_home (Some host) = names_home host

-- a page may have had it sent: it names whose page asks, or names no address of a machine
abbrev pub is_of_page : Entries FieldValue → Bool
is_of_page headers = nat_lt 0 (length (get_all headers (codes "origin")))
    || not (is_named_home (one_value headers (codes "host")))

-- a media type ends here: its parameters follow, or nothing (RFC 9110, section 8.3.1)
abbrev pub ends_type : List ℕ → Bool
ends_type [] = true
ends_type (b ∷ rest) = b == 59 || b == 32

-- the value is JSON's media type
abbrev pub is_json_type : List ℕ → Bool
is_json_type value = begins_in_any_case (codes "application/json") value && ends_type (drop 16 value)

abbrev pub is_type_of_json : Option (List ℕ) → Bool
is_type_of_json None = false
is_type_of_json (Some value) = is_json_type value

-- it says that it brings JSON
abbrev pub is_of_json : Entries FieldValue → Bool
is_of_json headers = is_type_of_json (one_value headers (codes "content-type"))

-- the status that refuses a call before anything else of it is looked at, if it is refused
abbrev pub refusal_of : Way → Parts → Option ℕ
refusal_of Socket head = None
refusal_of Port head = if is_of_page head.headers then Some 403
    else (if is_of_json head.headers then None else Some 415)
