-- What a path of the page leads to (this project's own).
use Rattle.std.specs.Prelude.{ℕ, true, List, codes, bytes_eq, Option, Some, None, option_map, if◌then◌else◌}
use Rattle.std.specs.Option.{option_or}
use Rattle.mac_calls.specs.declared.call.Call.{Call}
use Rattle.mac_calls.specs.declared.call.Call.TheVariants.{Verify}
use Rattle.mac_http.specs.declared.rules.Calls.{Calls}
use Rattle.mac_http.specs.Calling.{call_in}
use Rattle.mac_http.specs.Target.{behind_front}
use Rattle.mac_page.specs.declared.route.File.{File}
use Rattle.mac_page.specs.declared.route.File.TheVariants.{Document, Style, Script}

-- the file that a path names
abbrev pub file_in : List ℕ → Option File
file_in path = if bytes_eq path (codes "/") then Some Document
    else (if bytes_eq path (codes "/page.css") then Some Style
    else (if bytes_eq path (codes "/page.js") then Some Script else None))

-- each call of the face is allowed
abbrev pub all_calls : Calls
all_calls = record { mint = true; attenuate = true; inspect = true; check = true }

-- the name of a key in a path that asks for a verify
abbrev pub verify_in : List ℕ → Option (Call × List ℕ)
verify_in path = option_map (λ name. (Verify, name)) (behind_front (codes "/verify/") path)

-- the call that a path asks for, and the name that it is about, if it is
abbrev pub asked_in : List ℕ → Option (Call × List ℕ)
asked_in path = option_or (call_in all_calls path) (verify_in path)
