use Rattle.std.proofs.Common.{◌≡◌, ◌++◌, ◌∙◌, ap, sym, subst, Err, arith, rules, string_bytes}
use Rattle.std.specs.Prelude.{codes}
use Rattle.std.specs.Fmt.{decimal}
use Rattle.http_header.specs.FieldValue.{IsFieldValue}
use Rattle.mac_http.proofs.FieldLemmas.{reason_is_value}
use Rattle.mac_http.proofs.saying.unsatisfied_reason.Goals as goal

pub unreachable-requires : goal.unreachable-requires
unreachable-requires c =
    let text : string_bytes c.in_ok-reason.reason ≡ codes "24 " ++ decimal c.args.index = search (rules, c.in_ok-reason.ensures.ok) in
    c.from_string.ensures.invalid.0 (c.in-Err-Invalid.is ∙ ap Err c.in-Err-Invalid.field-0-is) (subst IsFieldValue (sym text) (reason_is_value c.args.index (omega arith)))
