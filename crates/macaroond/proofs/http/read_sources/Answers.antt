use Rattle.std.proofs.Common.{◌∙◌, codes, sym}
use Rattle.macaroond.specs.Http.{is_source}
use Rattle.macaroond.proofs.HttpLemmas.{all_lent, any_lent}
use Rattle.macaroond.proofs.http.read_sources.Goals as goal

pub returns-then-not-are_sources : goal.returns-then-not-are_sources
returns-then-not-are_sources c =
    all_lent is_source c.in_ok-words.ensures c.deref.ensures.value
    ∙ sym c.are_sources.ensures ∙ c.if-not-are_sources.true

pub returns : goal.returns
returns c =
    let all = all_lent is_source c.in_ok-words.ensures c.deref.ensures.value
    ∙ sym c.are_sources.ensures ∙ c.if-not-are_sources.false in
    let header = c.has_word.ensures ∙ any_lent (codes "header") c.in_ok-words.ensures c.deref-2.ensures.value in
    let query = c.has_word-2.ensures ∙ any_lent (codes "query") c.in_ok-words.ensures c.deref-3.ensures.value in
    let forwarded = c.has_word-3.ensures ∙ any_lent (codes "forwarded") c.in_ok-words.ensures c.deref-4.ensures.value in
    (all, λ i. record { header = header i; query = query i; forwarded = forwarded i; strict = c.args.strict })
