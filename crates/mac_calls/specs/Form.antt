-- The forms of tokens in calls (this project's own).
use Rattle.std.specs.Prelude.{ℕ, ◌==◌, if◌then◌else◌, List, codes, slice_index, Option, Some, None, Result, Ok, Err}
use Rattle.std.specs.Str.{bytes_eq}
use Rattle.mac_token.specs.declared.fault.TokenRefusal.{TokenRefusal}
use Rattle.mac_token.specs.Read.{carried_of}
use Rattle.mac_wire.specs.declared.request.TokenForm.{TokenForm}
use Rattle.mac_wire.specs.declared.request.TokenForm.TheVariants as asked
use Rattle.mac_calls.specs.declared.form.CallForm.{CallForm}
use Rattle.mac_calls.specs.declared.form.CallForm.TheVariants.{V1, V2, Json}

-- the form that a word names
abbrev pub form_named : List ℕ → Option CallForm
form_named word = if bytes_eq word (codes "v1-text") then Some V1
    else (if bytes_eq word (codes "v2-text") then Some V2
    else (if bytes_eq word (codes "v2-json") then Some Json else None))

-- its name
abbrev pub form_word : CallForm → List ℕ
form_word V1 = codes "v1-text"
form_word V2 = codes "v2-text"
form_word Json = codes "v2-json"

-- what the wire is asked for
abbrev pub wire_form : CallForm → TokenForm
wire_form V1 = asked.V1Text
wire_form V2 = asked.V2Text
wire_form Json = asked.V2Json

-- the form that the first byte of a bare token calls for: `0`, `{` or another
abbrev pub form_of_bare : List ℕ → CallForm
form_of_bare bare = if slice_index bare 0 == 48 then V1
    else (if slice_index bare 0 == 123 then Json else V2)

-- the same of what a text carries
abbrev pub form_of_carried : Result (List ℕ) TokenRefusal → CallForm
form_of_carried (Ok bare) = form_of_bare bare
form_of_carried (Err why) = V2

-- the form in which a token's text came
abbrev pub form_of_text : List ℕ → CallForm
form_of_text text = form_of_carried (carried_of text)
