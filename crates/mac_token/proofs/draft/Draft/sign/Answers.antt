use Rattle.std.proofs.Common.{sym, subst, rules}
use Rattle.mac_token.specs.Answers.{Answers}
use Rattle.mac_token.specs.Draft.{DraftParts, IsDraftOf, signed}
use Rattle.mac_token.specs.Push.{with_sig}
use Rattle.mac_token.proofs.DraftLemmas.{told-signed, writes-signed}
use Rattle.mac_token.proofs.WritesLemmas.{write_answers}
use Rattle.mac_token.proofs.draft.Draft.sign.Goals as goal

pub returns-clause-exact : goal.returns-clause-exact
returns-clause-exact c =
    let inside = c.self.inside in
    let told = told-signed (record { form = inside.form; caveats = inside.caveats; front = inside.front.items }) c.args.sig c.put_signature.new.out.items c.in_form.result c.in_ok-put_signature.ensures c.in_form.ensures in
    subst (λ (d : DraftParts). Answers (λ text. text.items) c.in_form.result (signed d c.args.sig)) c.self.view_is told

writes : goal.returns-clause-writes
writes c = λ form t is.
    let inside = c.self.inside in
    writes-signed form t (record { form = inside.form; caveats = inside.caveats; front = inside.front.items }) c.args.sig c.put_signature.new.out.items c.in_form.result
    (subst (λ (d : DraftParts). IsDraftOf form t d) (sym c.self.view_is) is) (search rules) c.in_ok-put_signature.ensures c.in_form.ensures

pub returns-clause-writes : goal.returns-clause-writes
returns-clause-writes c = writes c

pub returns-clause-written : goal.returns-clause-written
returns-clause-written c = λ form t is. write_answers (with_sig t c.args.sig) form c.in_form.result (writes c form t is)
