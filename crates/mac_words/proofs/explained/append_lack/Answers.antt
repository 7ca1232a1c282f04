use Rattle.std.proofs.Common.{◌≡◌, rules}
use Rattle.mac_words.proofs.ExplainedLemmas.{one_told}
use Rattle.mac_words.proofs.explained.append_lack.Goals as goal

pub returns : goal.returns
returns c =
    let same : c.as_slice-caveat.result.now ≡ c.index-caveats-place.result.items = search rules in
    rw (one_told c.args.caveats.now c.index-caveats-place.result c.as_slice-caveat.result.now c.args.place c.args.context.now c.find_lack.result c.requires c.index-caveats-place.is same c.find_lack.ensures) at c.append_told.ensures
