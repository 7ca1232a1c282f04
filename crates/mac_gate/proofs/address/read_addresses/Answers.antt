use Rattle.std.proofs.Common.{Bor, List, [], ◌∷◌, ℕ, Ok, map, rules, subst, tests}
use Rattle.std.proofs.lemmas.List.{map-append}
use Rattle.std.specs.List.{AllZip}
use Rattle.std.proofs.lemmas.Iterator.Consumers.{YieldsList-at, YieldsList-end}
use Rattle.std.proofs.lemmas.Iterator.Splits.{YieldsList-from_slice_split}
use Rattle.mac_gate.specs.Address.{ReadsAs, is_comma}
use Rattle.mac_gate.specs.declared.address.Address.{Address}
use Rattle.mac_gate.proofs.ListLemmas.{all_zip_more}
use Rattle.mac_gate.proofs.address.read_addresses.Goals as goal

pub loop-word-preserved : goal.loop-word-preserved
loop-word-preserved c =
    let more = all_zip_more (λ (word : List ℕ) (address : Address). ReadsAs c.args.reach word (Ok address))
    (map (λ word. word.now) c.loop-word.yielded) c.loop-word.addresses.items c.in-Some.word.now c.in-Ok.address c.loop-word.invariant c.in-Ok.ensures in
    rw (map-append (λ (word : Bor (List ℕ)). word.now) c.loop-word.yielded (c.in-Some.word ∷ []), c.push.ensures.items, ← c.if-is_ok.ensures.value) more

pub returns : goal.returns
returns c =
    let seen = YieldsList-end
    (YieldsList-at c.into_iter-word-iterator.ensures.into_iter_gives
    (YieldsList-from_slice_split _ is_comma c.args.list.now c.split-word-items.ensures.rest c.split-word-items.ensures.done c.split-word-items.ensures.closure (λ x b q k. search (rules, tests))))
    c.loop-word.yielded _ c.loop-word.yielded_by _ _ c.in-None.is c.next.ensures.steps in
    subst (λ (words : List (List ℕ)). AllZip (λ word address. ReadsAs c.args.reach word (Ok address)) words c.loop-word.addresses.items) seen.0 c.loop-word.invariant
