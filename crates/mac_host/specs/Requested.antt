-- What a line tells of a request.
use Rattle.std.specs.Prelude.{ℕ, if◌then◌else◌, List, Option, Some, None}
use Rattle.std.specs.Fmt.{decimal}
use Rattle.std.specs.Option.{option_map}
use Rattle.mac_log.specs.Fields.{FieldsText, with_field, with_front}
use Rattle.mac_log.specs.Id.{is_told_id}
use Rattle.mac_log.specs.declared.key.Key.TheVariants as key
use Rattle.mac_host.specs.Minted.{with_name}
use Rattle.mac_host.specs.declared.exchange.Exchange.{Exchange}
use Rattle.mac_host.specs.declared.exchange.LoggedReason.{LoggedReason}
use Rattle.mac_host.specs.declared.exchange.LoggedReason.TheVariants.{Code, Caveat, Status}
use Rattle.mac_host.specs.declared.exchange.TheConstants.{IDENTIFIER_TOLD}

-- why it wasn't done, each kind of reason under a key of its own
abbrev pub with_reason : FieldsText → Option LoggedReason → FieldsText
with_reason fields None = fields
with_reason fields (Some (Code code)) = with_field fields key.Code (decimal code)
with_reason fields (Some (Caveat index)) = with_field fields key.Caveat (decimal index)
with_reason fields (Some (Status status)) = with_field fields key.Status (decimal status)

-- what it is told apart by, where a line tells that
abbrev pub with_id : FieldsText → Option (List ℕ) → FieldsText
with_id fields None = fields
with_id fields (Some id) = if is_told_id id then with_field fields key.Id id else fields

-- what the identifier of its token begins with, if that is told
abbrev pub with_identifier : FieldsText → Option (List ℕ) → FieldsText
with_identifier fields None = fields
with_identifier fields (Some identifier) =
    with_front fields key.Identifier IDENTIFIER_TOLD identifier

-- what it asked for, under which name, what it was answered, and why it wasn't done
abbrev pub judged : FieldsText → Exchange → FieldsText
judged fields e = with_reason
    (with_field (with_name (with_field fields key.Asks e.asks.now) e.name.items)
    key.Verdict e.verdict.now) e.reason

-- the same, what it is told apart by, and of which identifier its token is
abbrev pub with_request : FieldsText → Exchange → FieldsText
with_request fields e = with_identifier
    (with_id (judged fields e) (option_map (λ id. id.items) e.id))
    (option_map (λ identifier. identifier.items) e.identifier)
