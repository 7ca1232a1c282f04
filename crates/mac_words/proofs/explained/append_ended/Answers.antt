use Rattle.std.proofs.Common.{codes, pos, ◌-ℤ◌, rules, arith, FitsSigned, w64}
use Rattle.std.proofs.lemmas.Int.{ints, to_z-of_z}
use Rattle.std.specs.Fmt.{signed_decimal}
use Rattle.mac_words.proofs.Appends.{five}
use Rattle.mac_words.proofs.explained.append_ended.Goals as goal

pub returns : goal.returns
returns c =
    let fits : FitsSigned w64 c.args.limit = search rules in
    let second = rw (to_z-of_z w64 c.args.limit fits) at c.in_ok-append_second.ensures in
    five _ _ _ _ _ _ (codes "it ended at second ") (signed_decimal c.args.limit) (codes " since 1970, ") (signed_decimal (pos c.args.moment -ℤ c.args.limit)) (codes " s before the moment")
    c.in_ok-extend_from_slice.ensures.items second c.in_ok-extend_from_slice-2.ensures.items (search (arith, ints, to_z-of_z, c.in_ok-append_seconds.ensures)) c.in_ok-extend_from_slice-3.ensures.items
