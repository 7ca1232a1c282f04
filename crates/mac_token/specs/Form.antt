-- The numbers of the forms on the wire.
use Rattle.std.specs.Prelude.{ℕ}
use Rattle.mac_token.specs.declared.form.Form.{Form}
use Rattle.mac_token.specs.declared.form.Form.TheVariants.{V1Text, V2Binary, V2Json, V2Text}

-- the number of a form in this project's requests
abbrev pub form_number : Form → ℕ
form_number V1Text = 1
form_number V2Binary = 2
form_number V2Json = 3
form_number V2Text = 4
