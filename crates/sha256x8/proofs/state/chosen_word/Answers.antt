use Rattle.std.proofs.Common.{ℕ, List, false, cond, ltb, get_or, replicate, ap, ◌∙◌, arith, w32}
use lib.Lanes.{zip2, sel_l}
use Rattle.std.proofs.lemmas.Simd.{tops_compared, length-zip2, get_or-sel_l, get_or-zip2, get_or-replicate}
use Rattle.sha256x8.proofs.state.chosen_word.Goals as goal

pub returns : goal.returns
returns c = λ j lt.
    let none : List ℕ = replicate 8 0 in
    let busy = c.args.busy in
    let next = c.args.next in
    let old = c.args.old in
    let l1 = c.fits-busy.0 in
    let l2 = c.fits-next.0 in
    let l3 = c.fits-old.0 in
    let long = length-zip2 ltb none busy (omega arith) in
    let is = ap (λ ms. sel_l ms next old) (tops_compared w32 ltb none busy) in
    ap (λ l. get_or l j 0) is
    ∙ get_or-sel_l (zip2 ltb none busy) next old j 0 (omega arith) (omega arith) (omega arith)
    ∙ ap (λ t. cond t (get_or next j 0) (get_or old j 0))
    (get_or-zip2 ltb none busy j 0 0 false (omega arith) (omega arith))
    ∙ ap (λ (z : ℕ). cond (ltb z (get_or busy j 0)) (get_or next j 0) (get_or old j 0))
    (get_or-replicate 8 j 0 0 lt)
