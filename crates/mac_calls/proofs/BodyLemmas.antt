-- Bodies that are read, and the texts of a list, one after the other.
use Rattle.std.proofs.Common.{◌≡◌, ℕ, List, Some, None, inl, inr, refl}
use Rattle.std.specs.Prelude.{Ok, Err}
use Rattle.std.proofs.lemmas.Bool.{cases_Bool}
use Rattle.std.proofs.lemmas.Str.{IsUtf8-from_is_utf8, is_utf8-from_IsUtf8}
use Rattle.std.specs.Str.{IsUtf8, is_utf8}
use Rattle.serde_json.specs.Data.{Data}
use Rattle.serde_json.specs.Read.{read}
use Rattle.mac_calls.specs.declared.fault.BodyFault.TheVariants as fault
use Rattle.mac_calls.specs.declared.fault.CallRefusal.TheVariants.{Body}
use Rattle.mac_calls.specs.Object.{data_of}
use Rattle.mac_calls.specs.Steps.{or_fault}

-- a body that is read
pub data_read : (body : List ℕ) (d : Data) → IsUtf8 body → read body ≡ Some d
    → or_fault fault.NoObject (data_of body) ≡ Ok d
data_read body d text is_read = rw (is_utf8-from_IsUtf8 body text, is_read) refl

-- a body that is none
pub no_data : (body : List ℕ) → (IsUtf8 body → read body ≡ None)
    → or_fault fault.NoObject (data_of body) ≡ Err (Body fault.NoObject)
no_data body fails = elim (cases_Bool (is_utf8 body)) [
  | inl passes ↦ rw (passes, fails (IsUtf8-from_is_utf8 body passes)) refl
  | inr refused ↦ rw refused refl
]
