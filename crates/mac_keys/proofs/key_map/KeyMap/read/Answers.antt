use Rattle.std.proofs.Common.{◌==◌, length, ap, rules, tests}
use Rattle.std.proofs.lemmas.List.{length_push}
use Rattle.std.proofs.lemmas.Iterator.Consumers.{YieldsList-from_enumerate, YieldsList-at, YieldsList-turn, YieldsList-end}
use Rattle.std.proofs.lemmas.Iterator.Splits.{YieldsList-from_slice_split}
use Rattle.std.specs.FinMap as map
use Rattle.mac_keys.specs.Keys.{by_name}
use Rattle.mac_keys.specs.Table.{lines_of}
use Rattle.mac_keys.proofs.Lines.{turn, SoFar-none, SoFar-push, SoFar-refused, SoFar-all, TakeMemory-refused}
use Rattle.mac_keys.proofs.key_map.KeyMap.read.Goals as goal

pub loop-index-init : goal.loop-index-init
loop-index-init c = SoFar-none _ _ (ap (λ entries. map.from_entries (by_name entries)) c.new.ensures.empty)

pub returns-in-Err : goal.returns-in-Err
returns-in-Err c =
    let here = YieldsList-turn
    (YieldsList-at c.into_iter-index-iterator.ensures.into_iter_gives
    (YieldsList-from_enumerate (YieldsList-at c.enumerate-index-items.ensures.source
    (YieldsList-from_slice_split _ (λ b. b == 10) c.args.text.now c.split.ensures.rest c.split.ensures.done c.split.ensures.closure (λ x b q k. search (rules, tests))))
    c.enumerate-index-items.ensures.count))
    c.loop-index.yielded _ c.loop-index.yielded_by _ _ (c.in-Some.index, c.in-Some.line) c.in-Some.is c.next.ensures.steps in
    let t = turn (lines_of c.args.text.now) (length c.loop-index.yielded) c.in-Some.index c.in-Some.line.now here in
    record {
      table = search rules;
      fault = SoFar-refused _ _ _ _ _ c.in-Err.refusal _ t c.loop-index.invariant c.in-Err.ensures.fault c.at_line.ensures;
      memory = TakeMemory-refused _ _ _ _ _ c.in-Err.refusal _ t c.loop-index.invariant c.in-Err.ensures.memory c.at_line.ensures;
    }

pub loop-index-preserved : goal.loop-index-preserved
loop-index-preserved c =
    let here = YieldsList-turn
    (YieldsList-at c.into_iter-index-iterator.ensures.into_iter_gives
    (YieldsList-from_enumerate (YieldsList-at c.enumerate-index-items.ensures.source
    (YieldsList-from_slice_split _ (λ b. b == 10) c.args.text.now c.split.ensures.rest c.split.ensures.done c.split.ensures.closure (λ x b q k. search (rules, tests))))
    c.enumerate-index-items.ensures.count))
    c.loop-index.yielded _ c.loop-index.yielded_by _ _ (c.in-Some.index, c.in-Some.line) c.in-Some.is c.next.ensures.steps in
    let t = turn (lines_of c.args.text.now) (length c.loop-index.yielded) c.in-Some.index c.in-Some.line.now here in
    SoFar-push _ _ _ _ _ _ _ t c.loop-index.invariant (length_push c.loop-index.yielded _) c.in_default.ensures.ok

pub returns-clause-table : goal.returns-clause-table
returns-clause-table c =
    let seen = YieldsList-end
    (YieldsList-at c.into_iter-index-iterator.ensures.into_iter_gives
    (YieldsList-from_enumerate (YieldsList-at c.enumerate-index-items.ensures.source
    (YieldsList-from_slice_split _ (λ b. b == 10) c.args.text.now c.split.ensures.rest c.split.ensures.done c.split.ensures.closure (λ x b q k. search (rules, tests))))
    c.enumerate-index-items.ensures.count))
    c.loop-index.yielded _ c.loop-index.yielded_by _ _ c.in-None.is c.next.ensures.steps in
    SoFar-all _ _ _ c.loop-index.invariant seen.1
