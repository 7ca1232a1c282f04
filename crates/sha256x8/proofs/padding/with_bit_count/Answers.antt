use Rattle.std.proofs.Common.{◌≡◌, [], drop, arith, refl, length-drop}
use Rattle.std.proofs.lemmas.List.{append-nil, drop_all}
use borrow.Rule.Slice.PartMut.{post_of}
use Rattle.sha256x8.proofs.padding.with_bit_count.Goals as goal

pub returns : goal.returns
returns c =
    let block = c.args.block in
    let rest : post_of 56 8 block ≡ [] =
    drop_all 8 (drop 56 block) (omega (arith, length-drop 56 block)) in
    rw (rest, append-nil, c.copy_from_slice.ensures.after, c.to_be_bytes.ensures) refl
