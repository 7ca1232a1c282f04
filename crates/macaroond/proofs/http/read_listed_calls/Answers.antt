use Rattle.std.proofs.Common.{◌∙◌, codes, sym}
use Rattle.macaroond.specs.Http.{is_call}
use Rattle.macaroond.proofs.HttpLemmas.{all_lent, any_lent}
use Rattle.macaroond.proofs.http.read_listed_calls.Goals as goal

pub returns-then-not-are_calls : goal.returns-then-not-are_calls
returns-then-not-are_calls c =
    all_lent is_call c.in_ok-words.ensures c.deref.ensures.value
    ∙ sym c.are_calls.ensures ∙ c.if-not-are_calls.true

pub returns : goal.returns
returns c =
    let all = all_lent is_call c.in_ok-words.ensures c.deref.ensures.value
    ∙ sym c.are_calls.ensures ∙ c.if-not-are_calls.false in
    let mint = c.has_word.ensures ∙ any_lent (codes "mint") c.in_ok-words.ensures c.deref-2.ensures.value in
    let attenuate = c.has_word-2.ensures ∙ any_lent (codes "attenuate") c.in_ok-words.ensures c.deref-3.ensures.value in
    let inspect = c.has_word-3.ensures ∙ any_lent (codes "inspect") c.in_ok-words.ensures c.deref-4.ensures.value in
    let check = c.has_word-4.ensures ∙ any_lent (codes "check") c.in_ok-words.ensures c.deref-5.ensures.value in
    (all, λ i. record { mint = mint i; attenuate = attenuate i; inspect = inspect i; check = check i })
