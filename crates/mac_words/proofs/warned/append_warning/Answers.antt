use Rattle.std.proofs.Common.{◌≡◌, rules, string_bytes, take}
use Rattle.std.specs.List.{list_any}
use Rattle.std.specs.Str.{bytes_eq}
use Rattle.mac_words.proofs.WarnedLemmas.{one_told}
use Rattle.mac_words.proofs.warned.append_warning.Goals as goal

pub returns : goal.returns
returns c =
    let same : c.as_bytes-caveat.result.now ≡ string_bytes c.index-caveats-place.result = search rules in
    let again : c.is_among-is_repeated.result ≡ list_any (λ text. bytes_eq c.as_bytes-caveat.result.now (string_bytes text)) (take c.args.place c.args.caveats.now) = search rules in
    rw (one_told c.args.caveats.now c.index-caveats-place.result c.as_bytes-caveat.result.now c.args.place c.args.moment _ _ c.requires c.index-caveats-place.is same again c.find_doubt.ensures) at c.append_doubt.ensures
