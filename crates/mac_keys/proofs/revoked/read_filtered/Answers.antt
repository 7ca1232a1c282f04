use Rattle.std.proofs.Common.{◌==◌, ap, drop, length, rules, tests}
use Rattle.std.proofs.lemmas.List.{length_push}
use Rattle.std.proofs.lemmas.Iterator.Consumers.{YieldsList-from_enumerate, YieldsList-at, YieldsList-turn, YieldsList-end}
use Rattle.std.proofs.lemmas.Iterator.Splits.{YieldsList-from_slice_split}
use Rattle.mac_keys.specs.Table.{lines_of}
use Rattle.mac_keys.specs.Revoked.{after_lines}
use Rattle.mac_keys.proofs.FilterLemmas.{admits-nothing}
use Rattle.mac_keys.proofs.RevokedLemmas.{here, leads-all, leads-more, leads_or_memory}
use Rattle.mac_keys.proofs.revoked.read_filtered.Goals as goal

pub loop-index-init : goal.loop-index-init
loop-index-init c = (
  ap (λ list. after_lines 1 list (drop 0 (lines_of c.args.text.now))) c.new-lists.ensures,
  admits-nothing c.new-lists.result _ c.new-lists.ensures,
)

pub loop-index-preserved : goal.loop-index-preserved
loop-index-preserved c =
    let here_is = YieldsList-turn
    (YieldsList-at c.into_iter-index-iterator.ensures.into_iter_gives
    (YieldsList-from_enumerate (YieldsList-at c.enumerate-index-items.ensures.source
    (YieldsList-from_slice_split _ (λ b. b == 10) c.args.text.now c.split.ensures.rest c.split.ensures.done c.split.ensures.closure (λ x b q k. search (rules, tests))))
    c.enumerate-index-items.ensures.count))
    c.loop-index.yielded _ c.loop-index.yielded_by _ _ (c.in-Some.index, c.in-Some.line) c.in-Some.is c.next.ensures.steps in
    let at = here (lines_of c.args.text.now) (length c.loop-index.yielded) c.in-Some.index c.in-Some.line.now here_is in (
      leads-more (lines_of c.args.text.now) _ _ _ _ _ _ at c.loop-index.invariant.0 (length_push c.loop-index.yielded _) c.in_default.ensures.ok,
      c.in_default.ensures.noted c.loop-index.invariant.1,
    )

pub returns-in-Err : goal.returns-in-Err
returns-in-Err c =
    let here_is = YieldsList-turn
    (YieldsList-at c.into_iter-index-iterator.ensures.into_iter_gives
    (YieldsList-from_enumerate (YieldsList-at c.enumerate-index-items.ensures.source
    (YieldsList-from_slice_split _ (λ b. b == 10) c.args.text.now c.split.ensures.rest c.split.ensures.done c.split.ensures.closure (λ x b q k. search (rules, tests))))
    c.enumerate-index-items.ensures.count))
    c.loop-index.yielded _ c.loop-index.yielded_by _ _ (c.in-Some.index, c.in-Some.line) c.in-Some.is c.next.ensures.steps in
    let at = here (lines_of c.args.text.now) (length c.loop-index.yielded) c.in-Some.index c.in-Some.line.now here_is in
    record {
      list = search rules;
      fault = leads_or_memory (lines_of c.args.text.now) _ _ _ _ c.in-Err.fault at c.loop-index.invariant.0 c.in-Err.ensures.fault;
    }

pub returns-clause-list : goal.returns-clause-list
returns-clause-list c =
    let seen = YieldsList-end
    (YieldsList-at c.into_iter-index-iterator.ensures.into_iter_gives
    (YieldsList-from_enumerate (YieldsList-at c.enumerate-index-items.ensures.source
    (YieldsList-from_slice_split _ (λ b. b == 10) c.args.text.now c.split.ensures.rest c.split.ensures.done c.split.ensures.closure (λ x b q k. search (rules, tests))))
    c.enumerate-index-items.ensures.count))
    c.loop-index.yielded _ c.loop-index.yielded_by _ _ c.in-None.is c.next.ensures.steps in
    leads-all (lines_of c.args.text.now) _ _ c.loop-index.invariant.0 seen.1

pub invariant_of-result : goal.invariant_of-result
invariant_of-result c = c.loop-index.invariant.1
