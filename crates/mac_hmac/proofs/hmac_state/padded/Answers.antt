use Rattle.std.proofs.Common.{◌≡◌, ℕ, length, take, arith, ◌∙◌}
use Rattle.std.proofs.lemmas.List.{take_all}
use Rattle.std.specs.Int.Bits.{bit_xor}
use Rattle.mac_hmac.proofs.HmacLemmas.{filled_more, xor_pad-zeros}
use Rattle.mac_hmac.proofs.hmac_state.padded.Goals as goal

pub loop-i-preserved : goal.loop-i-preserved
loop-i-preserved c =
    let f : ℕ → ℕ = λ byte. bit_xor byte c.args.pad in
    let more = filled_more c.args.key.now f c.args.pad c.loop-i.i c.loop-i-test.true c.requires in
    rw c.loop-i.invariant more

pub returns : goal.returns
returns c =
    let done : c.loop-i.i ≡ length c.args.key.now = omega arith in
    let all : take c.loop-i.i c.args.key.now ≡ c.args.key.now = take_all _ _ (omega arith) in
    rw (xor_pad-zeros, ← done) (c.loop-i.invariant ∙ rw all)
