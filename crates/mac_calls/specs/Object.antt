-- The object that the body of a call is (RFC 8259), and the members that it may have.
use Rattle.std.specs.Prelude.{ℕ, Bool, true, ◌||◌, ◌&&◌, if◌then◌else◌, List, codes, Option, Some, None, Ok, Err}
use Rattle.std.specs.Str.{bytes_eq, is_utf8}
use Rattle.serde_json.specs.Data.{Data, Members, no_members, member}
use Rattle.serde_json.specs.Find.{as_object}
use Rattle.serde_json.specs.Read.{read}
use Rattle.mac_calls.specs.declared.call.Call.{Call}
use Rattle.mac_calls.specs.declared.call.Call.TheVariants.{Mint, Attenuate, Inspect, Check, Verify}
use Rattle.mac_calls.specs.declared.fault.BodyFault.TheVariants.{NoObject, UnknownMember}
use Rattle.mac_calls.specs.declared.fault.CallRefusal.TheVariants.{Body}
use Rattle.mac_calls.specs.Steps.{Step, or_fault, ◌>>=◌}

-- the members of what asks for a token in a context
abbrev pub asks_in_context : List ℕ → Bool
asks_in_context name = bytes_eq name (codes "token")
    || (bytes_eq name (codes "facts") || bytes_eq name (codes "moment"))

-- a call's members
abbrev pub is_known : Call → List ℕ → Bool
is_known Mint name = bytes_eq name (codes "identifier")
    || (bytes_eq name (codes "identifier64") || (bytes_eq name (codes "location")
    || (bytes_eq name (codes "caveats") || bytes_eq name (codes "form"))))
is_known Attenuate name = bytes_eq name (codes "token")
    || (bytes_eq name (codes "caveats") || bytes_eq name (codes "form"))
is_known Inspect name = bytes_eq name (codes "token")
is_known Check name = asks_in_context name
is_known Verify name = asks_in_context name

-- there is no other member
abbrev pub are_known : Call → Members → Bool
are_known call no_members = true
are_known call (member name d ms) = is_known call name && are_known call ms

-- the value, whose members are these, if it has no other
abbrev pub with_known : Call → Data → Option Members → Step Data
with_known call d None = Err (Body NoObject)
with_known call d (Some members) =
    if are_known call members then Ok d else Err (Body UnknownMember)

-- the value, if it is an object of the call's members
abbrev pub checked : Call → Data → Step Data
checked call d = with_known call d (as_object d)

-- the value that `serde_json` reads in the bytes, where they are UTF-8
abbrev pub data_of : List ℕ → Option Data
data_of body = if is_utf8 body then read body else None

-- the object that the body is
unfoldable pub object_in : Call → List ℕ → Step Data
object_in call body = or_fault NoObject (data_of body) >>= λ d. checked call d
