use Rattle.std.proofs.Common.{rules, tests, ◌≡◌, ◌==◌, ℕ, List, Bool, true, Bor, ap, ◌∙◌}
use Rattle.std.specs.Prelude.{not, filter, map}
use Rattle.std.proofs.lemmas.Iterator.Consumers.{YieldsList-at, YieldsList-end}
use Rattle.std.proofs.lemmas.Iterator.Splits.{YieldsList-from_slice_split}
use Rattle.mac_words.specs.Revoked.{joined, says}
use Rattle.mac_words.proofs.KeptLines.{keeps-first, keeps-more, kept-line}
use Rattle.mac_words.proofs.revoked.without_revoked.Goals.{then-not-is_first+in_ok-extend_from_slice, else-not-is_first}
use Rattle.mac_words.proofs.revoked.without_revoked.Goals as goal

pub loop-line-preserved : goal.loop-line-preserved
loop-line-preserved c =
    let p : List ℕ → Bool = λ line. not (says c.args.name.now c.args.identifier.now line) in
    let lines : List (List ℕ) = filter p (map (λ (s : Bor (List ℕ)). s.now) c.loop-line.yielded) in
    let stays : p c.in-Some.line.now ≡ true = search rules in
    let more = kept-line p c.loop-line.yielded c.in-Some.line stays in
    elim c.if-not-is_first.branch [
      | then-not-is_first+in_ok-extend_from_slice w ↦
          let k = keeps-more lines c.loop-line.kept.items c.in-Some.line.now (search rules) in
          search (rules, more, k)
      | else-not-is_first w ↦
          let k = keeps-first lines c.loop-line.kept.items c.in-Some.line.now (search rules) in
          search (rules, more, k)
    ]

pub returns : goal.returns
returns c =
    let seen = YieldsList-end
    (YieldsList-at c.into_iter-line-iterator.ensures.into_iter_gives
    (YieldsList-from_slice_split _ (λ b. b == 10) c.args.text.now c.split-line-items.ensures.rest c.split-line-items.ensures.done c.split-line-items.ensures.closure (λ x b q k. search (rules, tests))))
    c.loop-line.yielded _ c.loop-line.yielded_by _ _ c.in-None.is c.next.ensures.steps in
    c.loop-line.invariant.0 ∙ ap (λ l. joined (filter (λ line. not (says c.args.name.now c.args.identifier.now line)) l)) seen.0
