use Rattle.std.proofs.Common.{codes, rules, FitsSigned, w64}
use Rattle.std.proofs.lemmas.Int.{to_z-of_z}
use Rattle.std.specs.Fmt.{signed_decimal}
use Rattle.mac_words.proofs.Appends.{three}
use Rattle.mac_words.proofs.caveat_lines.append_second.Goals as goal

pub returns : goal.returns
returns c =
    let fits : FitsSigned w64 c.args.second = search rules in
    three _ _ _ _ c.args.front.now (signed_decimal c.args.second) (codes " since 1970)")
    c.in_ok-extend_from_slice.ensures.items (rw (to_z-of_z w64 c.args.second fits) at c.in_ok-append_signed.ensures) c.in_ok-extend_from_slice-2.ensures.items
