-- The packets that are written for a token spell it.
use Rattle.std.proofs.Common.{◌≡◌, ℕ, suc, List, [], ◌∷◌, ◌++◌, length, map, refl, inl, arith}
use Rattle.std.specs.List.{AllByRecursion}
use Rattle.mac_token.specs.declared.v1.key.PacketKey.TheVariants.{Signature}
use Rattle.mac_token.specs.RawToken.{TokenParts, IsToken, raw_of, first_party}
use Rattle.mac_token.specs.Limits.{IsWithinLimits, AreShort}
use Rattle.mac_token.specs.V1.{HasLength, AreCaveatsFields, caveat_field, v1_bytes, V1}

fields_are : (caveats : List (List ℕ)) → AreCaveatsFields (map first_party caveats) (map caveat_field caveats)
fields_are [] = refl
fields_are (c ∷ cs) = (caveat_field c ∷ [], map caveat_field cs, ([], inl refl, refl), fields_are cs, refl)

-- the caveats' packets and the signature's
lengths_hold : (sig : List ℕ) (caveats : List (List ℕ)) → length sig ≡ 32 → AreShort caveats → AllByRecursion HasLength (map caveat_field caveats ++ record { key = Signature; value = sig } ∷ [])
lengths_hold sig [] size short = (omega arith, tt)
lengths_hold sig (c ∷ cs) size short =
    let first = short 0 [] (omega arith) in
    (omega (arith, first), lengths_hold sig cs size (λ k d below. short (suc k) d (omega arith)))

-- within the limits each packet's length fits its four digits
pub v1_bytes_spell : (t : TokenParts) → IsToken t → IsWithinLimits t → V1 (v1_bytes t) (raw_of t)
v1_bytes_spell t token within = record {
  caveats = map caveat_field t.caveats;
  are_caveats = fields_are t.caveats;
  location = token.location;
  sig = token.sig_length;
  lengths = (omega (arith, within.location), (omega (arith, within.identifier), lengths_hold t.sig t.caveats token.sig_length within.each));
  joined = refl;
}
