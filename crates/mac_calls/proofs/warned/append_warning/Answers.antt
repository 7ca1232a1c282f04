use Rattle.std.proofs.Common.{◌≡◌, rules, take}
use Rattle.std.specs.List.{list_any}
use Rattle.std.specs.Str.{bytes_eq}
use Rattle.mac_decide.specs.Doubt.{doubt_of}
use Rattle.mac_calls.proofs.WarnedLemmas.{one_told}
use Rattle.mac_calls.proofs.warned.append_warning.Goals as goal

pub returns : goal.returns
returns c =
    let again : c.is_among-is_repeated.result ≡ list_any (λ other. bytes_eq c.index-caveats-place.result.items other.items) (take c.args.place c.args.caveats.now) = search rules in
    let found : c.find_doubt.result ≡ doubt_of c.index-caveats-place.result.items c.is_among-is_repeated.result c.args.moment = search rules in
    rw (one_told c.args.caveats.now c.index-caveats-place.result c.args.place c.args.moment c.is_among-is_repeated.result c.find_doubt.result c.requires c.index-caveats-place.is again found) at c.append_doubt.ensures
