use Rattle.std.proofs.Common.{◌≡◌, ◌-◌, ◌++◌, ap₂, drop, length, replicate}
use Rattle.std.proofs.lemmas.List.{drop-replicate}
use Rattle.sha256x8.proofs.padding.filled.Goals as goal

pub returns : goal.returns
returns c =
    let n = length c.args.bytes.now in
    let zeros : drop n (replicate 64 0) ≡ replicate (64 - n) 0 = drop-replicate n 64 0 in
    ap₂ ◌++◌ c.copy_from_slice.ensures.after zeros
