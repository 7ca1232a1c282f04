-- Reading caveats one after the other, as a loop does.
use Rattle.std.proofs.Common.{◌≡◌, ℕ, zero, suc, ◌<◌, List, [], ◌∷◌, ◌++◌, Option, Some, None, true, false, cond, length, refl, ap, ◌∙◌, arith, length-append}
use Rattle.std.specs.List.{flat_map}
use Rattle.mac_token.specs.declared.v1.key.PacketKey.TheVariants.{Cid}
use Rattle.mac_token.specs.RawToken.{CaveatParts}
use Rattle.mac_token.specs.Steps.{◌>>=◌}
use Rattle.mac_token.specs.V1.{Field, packet, vid_fields}
use Rattle.mac_token.specs.V1Reading.{has_key, caveat_at, caveats_at}
use Rattle.mac_token.proofs.Packets.{length-packet}
use Rattle.mac_token.proofs.V1Caveats.{caveat_at_takes}

-- the caveats behind one that was read
abbrev pub with_more : ℕ → CaveatParts × List ℕ → Option (List CaveatParts × List ℕ)
with_more n c = caveats_at n c.1 >>= λ cs. Some (c.0 ∷ cs.0, cs.1)

packets_are_long : (f : Field) (fs : List Field) (rest : List ℕ) → length rest < length (flat_map packet (f ∷ fs) ++ rest)
packets_are_long f fs rest =
    omega (arith, length-append (packet f ++ flat_map packet fs) rest, length-append (packet f) (flat_map packet fs), length-packet f)

-- a caveat takes bytes
pub caveat_shortens : (bytes : List ℕ) (c : CaveatParts) (rest : List ℕ) → caveat_at bytes ≡ Some (c, rest) → length rest < length bytes
caveat_shortens bytes c rest e =
    let is = caveat_at_takes bytes c rest e in
    let parts = ap length (is.stand.parts ∙ ap (λ (fs : List Field). flat_map packet fs ++ rest) is.are.2) in
    omega (arith, parts, packets_are_long (record { key = Cid; value = c.id }) (vid_fields c.vid ++ is.are.0) rest)

same_more : (n m : ℕ) (o : Option (CaveatParts × List ℕ)) → ((c : CaveatParts) (rest : List ℕ) → o ≡ Some (c, rest) → caveats_at n rest ≡ caveats_at m rest) → (o >>= with_more n) ≡ (o >>= with_more m)
same_more n m None same = refl
same_more n m (Some x) same = ap (λ (cs : Option (List CaveatParts × List ℕ)). cs >>= λ cs. Some (x.0 ∷ cs.0, cs.1)) (same x.0 x.1 refl)

-- how many caveats there may be does not matter, if they may be as many as there are bytes
pub any_count : (n m : ℕ) (bytes : List ℕ) → length bytes < n → length bytes < m → caveats_at n bytes ≡ caveats_at m bytes
unfolding caveats_at
any_count zero m bytes h k = absurd (omega arith)
any_count (suc n) zero bytes h k = absurd (omega arith)
any_count (suc n) (suc m) bytes h k =
    ap (λ (o : Option (List CaveatParts × List ℕ)). cond (has_key Cid bytes) o (Some ([], bytes)))
    (same_more n m (caveat_at bytes) (λ c rest e. any_count n m rest (omega (arith, caveat_shortens bytes c rest e, h)) (omega (arith, caveat_shortens bytes c rest e, k))))

-- one caveat, and those behind it
pub v1_caveats_more : (bytes : List ℕ) (c : CaveatParts) (rest : List ℕ) → has_key Cid bytes ≡ true → caveat_at bytes ≡ Some (c, rest)
    → caveats_at (suc (length bytes)) bytes ≡ with_more (suc (length rest)) (c, rest)
unfolding caveats_at
v1_caveats_more bytes c rest test read =
    let fewer = any_count (length bytes) (suc (length rest)) rest (caveat_shortens bytes c rest read) (omega arith) in
    let one : caveats_at (suc (length bytes)) bytes ≡ with_more (length bytes) (c, rest) = rw (test, read) refl in
    one ∙ ap (λ (cs : Option (List CaveatParts × List ℕ)). cs >>= λ cs. Some (c ∷ cs.0, cs.1)) fewer

-- a caveat that is none
pub v1_caveats_fail : (bytes : List ℕ) → has_key Cid bytes ≡ true → caveat_at bytes ≡ None → caveats_at (suc (length bytes)) bytes ≡ None
unfolding caveats_at
v1_caveats_fail bytes test none = rw (test, none) refl

-- no caveat
pub v1_caveats_end : (bytes : List ℕ) → has_key Cid bytes ≡ false → caveats_at (suc (length bytes)) bytes ≡ Some ([], bytes)
unfolding caveats_at
v1_caveats_end bytes test = rw test refl
