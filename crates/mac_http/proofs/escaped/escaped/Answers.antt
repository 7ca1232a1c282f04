use Rattle.std.proofs.Common.{List, ℕ, ◌++◌, ◌∙◌, ap, sym, subst, Err}
use Rattle.http_header.specs.FieldValue.{IsFieldValue}
use Rattle.percent_encoding.specs.Iter.{encoded_text}
use Rattle.mac_http.proofs.FieldLemmas.{escaped_is_value}
use Rattle.mac_http.proofs.escaped.escaped.Goals as goal

pub unreachable-requires : goal.unreachable-requires
unreachable-requires c =
    let text = c.in_ok-append_to.ensures.ok ∙ ap (λ (t : List ℕ). t ++ encoded_text c.percent_encode.result) c.new-text.ensures.bytes ∙ c.percent_encode.ensures.text in
    c.from_string.ensures.invalid.0 (c.in-Err-Invalid.is ∙ ap Err c.in-Err-Invalid.field-0-is) (subst IsFieldValue (sym text) (escaped_is_value c.args.bytes.now))
