use Rattle.std.proofs.Common.{ℕ, suc, ◌+◌, arith, ◌≡◌, ◌++◌, ◌∷◌, [], take, sym, ◌∙◌, ap, subst, Vec, Global}
use Rattle.std.proofs.Math.Seq.{take-suc}
use Rattle.std.proofs.lemmas.List.Elements.{All-map, All-append, All-cons, All-nil, All-same}
use Rattle.std.proofs.lemmas.List.{take_all}
use Rattle.base64.specs.GeneralPurpose.{IsBytes}
use Rattle.mac_token.proofs.laws.all_are_bytes.Goals as goal

abbrev IsList : Vec ℕ Global → Type 0
IsList list = IsBytes list.items

pub loop-list-init : goal.loop-list-init
loop-list-init c = All-nil IsList

pub loop-list-preserved : goal.loop-list-preserved
loop-list-preserved c =
    let item = c.list-item.result in
    let here : IsList item = subst IsBytes c.deref.ensures.value c.are_bytes.ensures in
    let one : c.loop-list.list-index + 1 ≡ suc c.loop-list.list-index = omega arith in
    let next = ap (λ n. take n c.args.lists.now) one ∙ take-suc c.args.lists.now c.loop-list.list-index item c.loop-list-test.true ∙ ap (λ x. take c.loop-list.list-index c.args.lists.now ++ x ∷ []) (sym c.list-item.is) in
    All-same IsList _ _ next (All-append IsList _ _ c.loop-list.invariant (All-cons IsList item [] here (All-nil IsList)))

pub returns : goal.returns
returns c =
    let whole = take_all c.loop-list.list-index c.args.lists.now c.loop-list-test.false in
    All-map IsBytes (λ list. list.items) c.args.lists.now (All-same IsList _ _ (sym whole) c.loop-list.invariant)
