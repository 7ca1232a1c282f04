use Rattle.std.proofs.Common.{◌∙◌, sym}
use Rattle.mac_decide.specs.Revocation.{is_listed_read}
use Rattle.mac_token.specs.Read.{read_of}
use Rattle.mac_http.specs.Facts.{facts_of}
use Rattle.mac_http.specs.Found.{context_of}
use Rattle.mac_http.proofs.LawLemmas.{found_alike, found_now, found_plainly}
use Rattle.mac_http.proofs.laws.facts_tell_by_the_verdict.Goals as goal

pub returns : goal.returns
returns c = λ sources terms moment one other name here there keys scheme token is named whole whole_too safe safe_too few few_too same.
    found_plainly sources terms one (name, here) (scheme, token) whole safe few
    ∙ found_now terms name (scheme, token) (facts_of sources one here) moment keys is named
    ∙ found_alike scheme keys (is_listed_read terms.table.revoked name (read_of token)) (context_of sources moment one here) (context_of sources moment other there) (read_of token) same
    ∙ sym (found_now terms name (scheme, token) (facts_of sources other there) moment keys is named)
    ∙ sym (found_plainly sources terms other (name, there) (scheme, token) whole_too safe_too few_too)
