use Rattle.std.proofs.Common.{◌≡◌, ◌+◌, [], length, refl, ap, arith, sym, append-nil}
use Rattle.mac_words.proofs.InspectedLemmas.{all_lines, more_lines}
use Rattle.mac_words.proofs.caveat_lines.append_caveats.Goals as goal

pub loop-caveat-init : goal.loop-caveat-init
loop-caveat-init c = record { place = refl; within = omega arith; lines = ([], refl, sym (append-nil c.args.out.now.items)) }

pub loop-caveat-preserved : goal.loop-caveat-preserved
loop-caveat-preserved c = record {
  place = ap (λ n. n + 1) c.loop-caveat.invariant.place;
  within = let inside = c.loop-caveat-test.true in omega arith;
  lines = more_lines c.loop-caveat.caveat-index c.loop-caveat.place c.args.caveats.now c.caveat-item.result c.args.out.now.items c.loop-caveat.out.items _
      c.loop-caveat.invariant.place c.loop-caveat-test.true c.caveat-item.is c.loop-caveat.invariant.lines c.in_ok-append_line.ensures;
}

pub returns : goal.returns
returns c =
    let stop = c.loop-caveat-test.false in
    let within = c.loop-caveat.invariant.within in
    let all : c.loop-caveat.caveat-index ≡ length c.args.caveats.now = omega arith in
    all_lines c.loop-caveat.caveat-index c.args.caveats.now c.args.out.now.items c.loop-caveat.out.items all c.loop-caveat.invariant.lines
