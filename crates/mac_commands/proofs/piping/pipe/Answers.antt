use Rattle.std.proofs.Common.{◌≡◌, ◌∙◌, ◌++◌, ◌∷◌, [], ℕ, List, Option, ap, sym, subst}
use Rattle.std.proofs.lemmas.List.{append_cancel_left}
use Rattle.std.specs.Prelude.{Err}
use Rattle.mac_keys.specs.KeyTable.{table_of}
use Rattle.mac_commands.specs.Lines.{lines, key_text, request_lines}
use Rattle.mac_commands.specs.Pipe.{GivesOutput, answer_beside}
use Rattle.mac_commands.proofs.PipeLemmas.{keys-unread, keys-told, output-answers, output-told, output-unread, source-answers, source-told, source-unread}
use Rattle.mac_commands.proofs.piping.pipe.Goals as goal

head_is : {a b : Option ℕ} {xs ys : List (Option ℕ)} → a ∷ xs ≡ b ∷ ys → a ≡ b
head_is e = cc

last_is : (told : List (Option ℕ)) (a b : Option ℕ) → told ++ a ∷ [] ≡ told ++ b ∷ [] → a ≡ b
last_is told a b e = head_is (append_cancel_left _ _ _ e)

pub returns-in_err-input-clause-keys : goal.returns-in_err-input-clause-keys
returns-in_err-input-clause-keys g c tells input more ended bound line kind table =
    let e = c.in_err-input.ensures in
    keys-unread c.in_err-input.field-0.0 c.from_residual.result _ _ input line kind c.from_residual.ensures.1 (e.input tells)
    (λ device. e.failed (ap Err device) ended tells) more bound table

pub returns-in_err-table-clause-keys : goal.returns-in_err-table-clause-keys
returns-in_err-table-clause-keys g c tells input more ended bound line kind table =
    let read : c.in_ok-input.input.items ≡ input = append_cancel_left _ _ _ (sym (c.in_ok-input.ensures.input tells).0 ∙ more) in
    let text = c.divide.ensures.keys ∙ ap key_text (c.as_slice.ensures.value ∙ read) in
    keys-told c.in_err-table.field-0.0 c.from_residual-in_err-table.result (table_of (key_text input)) line kind
    c.from_residual-in_err-table.ensures.1 (rw text at c.in_err-table.ensures.fault) table

pub returns-in_err-input-clause-source : goal.returns-in_err-input-clause-source
returns-in_err-input-clause-source g c tells =
    source-unread c.in_err-input.field-0.0 c.from_residual.result _ _ _ c.from_residual.ensures.1 (c.in_err-input.ensures.input tells)

pub returns-in_err-input-clause-output : goal.returns-in_err-input-clause-output
returns-in_err-input-clause-output g c source_tells sink_tells input moment more told =
    output-unread (answer_beside c.args.list.now moment) c.in_err-input.field-0.0 c.from_residual.result _ _ input _ c.from_residual.ensures.1 (c.in_err-input.ensures.input source_tells)

pub returns-in_err-table-clause-source : goal.returns-in_err-table-clause-source
returns-in_err-table-clause-source g c tells =
    let taken = c.in_ok-input.ensures.input tells in (
      c.in_ok-input.input.items,
      taken.0,
      source-told c.in_err-table.field-0.0 c.from_residual-in_err-table.result _ _ _ c.from_residual-in_err-table.ensures.1
          c.in_err-table.ensures.fault c.in_ok-input.ensures.end taken.1,
    )

pub returns-in_err-table-clause-output : goal.returns-in_err-table-clause-output
returns-in_err-table-clause-output g c source_tells sink_tells input moment more told =
    let read : c.in_ok-input.input.items ≡ input = append_cancel_left _ _ _ (sym (c.in_ok-input.ensures.input source_tells).0 ∙ more) in
    let text = c.divide.ensures.keys ∙ ap key_text (c.as_slice.ensures.value ∙ read) in
    output-told (answer_beside c.args.list.now moment) c.in_err-table.field-0.0 c.from_residual-in_err-table.result input _ c.from_residual-in_err-table.ensures.1
    (rw text at c.in_err-table.ensures.fault)

pub returns-clause-source : goal.returns-clause-source
returns-clause-source g c tells =
    let taken = c.in_ok-input.ensures.input tells in (
      c.in_ok-input.input.items,
      taken.0,
      source-answers c.write_answers.result _ _ c.in_ok-input.ensures.end taken.1 c.write_answers.ensures.ends,
    )

pub returns-clause-output : goal.returns-clause-output
returns-clause-output g c source_tells sink_tells input moment more told =
    let read : c.in_ok-input.input.items ≡ input = append_cancel_left _ _ _ (sym (c.in_ok-input.ensures.input source_tells).0 ∙ more) in
    let value = c.as_slice.ensures.value ∙ read in
    let table = ap table_of (sym (c.divide.ensures.keys ∙ ap key_text value)) ∙ c.in_ok-table.ensures.table.1 in
    let written = rw c.in_ok-table.ensures.table.2 at c.write_answers.ensures.written sink_tells in
    let same : c.tell-moment.result ≡ moment = last_is _ _ _ (sym c.tell-moment.ensures ∙ told) in
    subst (λ (m : Option ℕ). GivesOutput (answer_beside c.args.list.now m) c.write_answers.result input (g.W.Sink.written c.args.sink.now) (g.W.Sink.written c.write_answers.new.sink)) same
    (output-answers (answer_beside c.args.list.now c.tell-moment.result) c.write_answers.result input c.in_ok-table.ensures.table.0 (lines c.divide.result.1.now) _ _
    table (c.divide.ensures.requests ∙ ap request_lines value) written)

pub returns-clause-keys : goal.returns-clause-keys
returns-clause-keys g c tells input more ended bound line kind table =
    let read : c.in_ok-input.input.items ≡ input = append_cancel_left _ _ _ (sym (c.in_ok-input.ensures.input tells).0 ∙ more) in
    let text = c.divide.ensures.keys ∙ ap key_text (c.as_slice.ensures.value ∙ read) in
    let good = ap table_of (sym text) ∙ c.in_ok-table.ensures.table.1 in
    absurd (cc (good, table))
