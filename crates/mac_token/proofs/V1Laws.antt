-- What V1 packets are read as is the one raw token that they spell.
use Rattle.std.proofs.Common.{◌≡◌, ℕ, zero, suc, ◌+◌, ◌<◌, ◌≤◌, Bool, true, false, cond, List, [], ◌∷◌, ◌++◌, length, Option, Some, None, refl, sym, ap, subst, ◌∙◌, append_assoc, arith, length-append}
use Rattle.std.specs.Prelude.{◌==◌, ◌&&◌}
use Rattle.std.specs.List.{flat_map, AllByRecursion}
use Rattle.std.specs.Str.{IsUtf8}
use Rattle.std.proofs.lemmas.Bool.{eqb-true, eq-eqb}
use Rattle.std.proofs.lemmas.List.{append-nil}
use Rattle.std.proofs.lemmas.List.Concat.{flat_map-append}
use Rattle.std.proofs.lemmas.Option.{same_Some, some_pair_parts}
use Rattle.mac_token.specs.declared.v1.key.PacketKey.TheVariants.{Location, Identifier, Cid, Signature}
use Rattle.mac_token.specs.Steps.{◌>>=◌}
use Rattle.mac_token.specs.RawToken.{CaveatParts, RawParts}
use Rattle.mac_token.specs.Location.{text_at}
use Rattle.mac_token.specs.V1.{Field, HasLength, packet, vid_fields, AreCaveatFields, AreCaveatsFields, fields_round, V1}
use Rattle.mac_token.specs.V1Reading.{field_at, has_key, caveat_at, caveats_at, signature_at, v1_of}
use Rattle.mac_token.proofs.Steps.{bind_some, kept, both_true}
use Rattle.mac_token.proofs.Texts.{text_at-IsUtf8, text_at-Some}
use Rattle.mac_token.proofs.Packets.{length-packet}
use Rattle.mac_token.proofs.V1Fields.{IsField, field_at_takes, field_at_again}
use Rattle.mac_token.proofs.V1Caveats.{AreFields, AreFields-then, IsCaveat, EndsCaveat, one_is, one_field, caveat_at_takes, caveat_at_again, has_cid, cid_ends, signature_ends, no_cid_at_signature, AllByRecursion-parts}
use Rattle.mac_token.proofs.CaveatLoop.{with_more}

empty : {A : Type 0} (xs : List A) → length xs ≡ 0 → xs ≡ []
empty [] e = refl
empty (x ∷ xs) e = absurd (omega arith)

-- caveats stand at the front
pub record AreCaveats (bytes : List ℕ) (cs : List CaveatParts) (rest : List ℕ) : Type 0 where
  pub fields : List Field
  pub are : AreCaveatsFields cs fields
  pub stand : AreFields bytes fields rest

abbrev more_caveats : CaveatParts → List CaveatParts × List ℕ → Option (List CaveatParts × List ℕ)
more_caveats c cs = Some (c ∷ cs.0, cs.1)

more_takes : (bytes : List ℕ) (c : CaveatParts) (after : List ℕ) (cs : List CaveatParts) (rest : List ℕ) → IsCaveat bytes c after → AreCaveats after cs rest → AreCaveats bytes (c ∷ cs) rest
more_takes bytes c after cs rest first others = record {
  fields = first.fields ++ others.fields;
  are = (first.fields, others.fields, first.are, others.are, refl);
  stand = AreFields-then bytes after rest first.fields others.fields first.stand others.stand;
}

caveats_step : (n : ℕ) (bytes : List ℕ) (cs : List CaveatParts) (rest : List ℕ) (test : Bool) → cond test (caveat_at bytes >>= with_more n) (Some ([], bytes)) ≡ Some (cs, rest)
    → ((after : List ℕ) (others : List CaveatParts) (end : List ℕ) → caveats_at n after ≡ Some (others, end) → AreCaveats after others end) → AreCaveats bytes cs rest
caveats_step n bytes cs rest true e again =
    let first = bind_some (caveat_at bytes) (with_more n) (cs, rest) e in
    let others = bind_some (caveats_at n first.0.1) (more_caveats first.0.0) (cs, rest) first.2 in
    let same = some_pair_parts (first.0.0 ∷ others.0.0) cs others.0.1 rest others.2 in
    let whole = more_takes bytes first.0.0 first.0.1 others.0.0 others.0.1 (caveat_at_takes bytes first.0.0 first.0.1 first.1) (again first.0.1 others.0.0 others.0.1 others.1) in
    subst (λ (r : List ℕ). AreCaveats bytes cs r) same.1 (subst (λ (p : List CaveatParts). AreCaveats bytes p others.0.1) same.0 whole)
caveats_step n bytes cs rest false e again =
    let same = some_pair_parts [] cs bytes rest e in
    let none : AreCaveats bytes [] rest = record { fields = []; are = refl; stand = record { parts = same.1; lengths = tt } } in
    subst (λ (p : List CaveatParts). AreCaveats bytes p rest) same.0 none

pub caveats_at_takes : (n : ℕ) (bytes : List ℕ) (cs : List CaveatParts) (rest : List ℕ) → caveats_at n bytes ≡ Some (cs, rest) → AreCaveats bytes cs rest
unfolding caveats_at
caveats_at_takes zero bytes cs rest e = absurd cc
caveats_at_takes (suc n) bytes cs rest e = caveats_step n bytes cs rest (has_key Cid bytes) e (caveats_at_takes n)

abbrev cid_field : CaveatParts → Field
cid_field c = record { key = Cid; value = c.id }

-- a caveat's packets begin with its own
caveat_front : (c : CaveatParts) (fields : List Field) (rest : List ℕ) → (are : AreCaveatFields c fields) → flat_map packet fields ++ rest ≡ packet (cid_field c) ++ (flat_map packet (vid_fields c.vid ++ are.0) ++ rest)
caveat_front c fields rest are =
    ap (λ (fs : List Field). flat_map packet fs ++ rest) are.2 ∙ append_assoc (packet (cid_field c)) (flat_map packet (vid_fields c.vid ++ are.0)) rest

-- the packets of a caveat and of those behind it
caveats_front : (first others : List Field) (rest : List ℕ) → flat_map packet (first ++ others) ++ rest ≡ flat_map packet first ++ (flat_map packet others ++ rest)
caveats_front first others rest = ap (λ (t : List ℕ). t ++ rest) (flat_map-append packet first others) ∙ append_assoc (flat_map packet first) (flat_map packet others) rest

-- what follows a caveat ends it: another one, or what ends the last
caveats_end : (cs : List CaveatParts) (fields : List Field) (rest : List ℕ) → AreCaveatsFields cs fields → EndsCaveat rest → EndsCaveat (flat_map packet fields ++ rest)
caveats_end [] fields rest are ends = subst (λ (fs : List Field). EndsCaveat (flat_map packet fs ++ rest)) (sym are) ends
caveats_end (c ∷ cs) fields rest are ends =
    let after = flat_map packet are.1 ++ rest in
    let front : flat_map packet fields ++ rest ≡ packet (cid_field c) ++ (flat_map packet (vid_fields c.vid ++ are.2.0) ++ after) =
    ap (λ (fs : List Field). flat_map packet fs ++ rest) are.4 ∙ caveats_front are.0 are.1 rest ∙ caveat_front c are.0 after are.2 in
    subst EndsCaveat (sym front) (cid_ends c.id (flat_map packet (vid_fields c.vid ++ are.2.0) ++ after))

pub caveats_at_again : (n : ℕ) (cs : List CaveatParts) (fields : List Field) (rest : List ℕ) → length cs < n → AreCaveatsFields cs fields → AllByRecursion HasLength fields
    → EndsCaveat rest → has_key Cid rest ≡ false → caveats_at n (flat_map packet fields ++ rest) ≡ Some (cs, rest)
unfolding caveats_at
caveats_at_again zero cs fields rest enough are lengths ends last = absurd (omega arith)
caveats_at_again (suc n) [] fields rest enough are lengths ends last = rw are (rw last refl)
caveats_at_again (suc n) (c ∷ cs) fields rest enough are lengths ends last =
    let after = flat_map packet are.1 ++ rest in
    let each = AllByRecursion-parts are.0 are.1 (subst (AllByRecursion HasLength) are.4 lengths) in
    let bytes-are : flat_map packet fields ++ rest ≡ flat_map packet are.0 ++ after = ap (λ (fs : List Field). flat_map packet fs ++ rest) are.4 ∙ caveats_front are.0 are.1 rest in
    let front = caveat_front c are.0 after are.2 in
    let test : has_key Cid (flat_map packet are.0 ++ after) ≡ true = ap (has_key Cid) front ∙ has_cid c.id (flat_map packet (vid_fields c.vid ++ are.2.0) ++ after) in
    let first = caveat_at_again c are.0 after are.2 each.0 (caveats_end cs are.1 rest are.3 ends) in
    let others = caveats_at_again n cs are.1 rest (omega arith) are.3 each.1 ends last in
    rw (bytes-are, test, first, others) refl

-- ---- a whole token

pub signature_at_takes : (bytes sig : List ℕ) → signature_at bytes ≡ Some sig → IsField bytes Signature sig [] × (length sig ≡ 32)
unfolding signature_at
signature_at_takes bytes sig e =
    let f = bind_some (field_at Signature bytes) (λ f. cond ((length f.0 == 32) && (length f.1 == 0)) (Some f.0) None) sig e in
    let k = kept ((length f.0.0 == 32) && (length f.0.1 == 0)) f.0.0 sig f.2 in
    let tests = both_true (length f.0.0 == 32) (length f.0.1 == 0) k.0 in
    let is = field_at_takes Signature bytes f.0.0 f.0.1 f.1 in
    let size : length f.0.0 ≡ 32 = eqb-true _ _ tests.0 in
    let over : f.0.1 ≡ [] = empty f.0.1 (eqb-true _ _ tests.1) in
    (subst (λ (s : List ℕ). IsField bytes Signature s []) k.1 (subst (λ (r : List ℕ). IsField bytes Signature f.0.0 r) over is), ap length (sym k.1) ∙ size)

pub signature_at_again : (sig : List ℕ) → length sig ≡ 32 → HasLength (record { key = Signature; value = sig }) → signature_at (packet (record { key = Signature; value = sig }) ++ []) ≡ Some sig
unfolding signature_at
signature_at_again sig size below =
    let test : (length sig == 32) ≡ true = eq-eqb _ _ size in
    rw (field_at_again Signature sig [] below, test) refl

abbrev v1_signature : List ℕ → List ℕ → List CaveatParts → List ℕ → Option RawParts
v1_signature location identifier caveats sig = Some (record { location = location; identifier = identifier; caveats = caveats; sig = sig })

abbrev v1_caveats : List ℕ → List ℕ → List CaveatParts × List ℕ → Option RawParts
v1_caveats location identifier cs = signature_at cs.1 >>= v1_signature location identifier cs.0

abbrev v1_identifier : List ℕ → List ℕ × List ℕ → Option RawParts
v1_identifier location identifier = caveats_at (suc (length identifier.1)) identifier.1 >>= v1_caveats location identifier.0

abbrev v1_text : List ℕ → List ℕ → Option RawParts
v1_text rest location = field_at Identifier rest >>= v1_identifier location

abbrev v1_location : List ℕ × List ℕ → Option RawParts
v1_location location = text_at location.0 >>= v1_text location.1

-- what is read is spelled so
pub v1_takes : (bytes : List ℕ) (r : RawParts) → v1_of bytes ≡ Some r → V1 bytes r
unfolding v1_of
v1_takes bytes r e =
    let l = bind_some (field_at Location bytes) v1_location r e in
    let t = bind_some (text_at l.0.0) (v1_text l.0.1) r l.2 in
    let i = bind_some (field_at Identifier l.0.1) (v1_identifier t.0) r t.2 in
    let c = bind_some (caveats_at (suc (length i.0.1)) i.0.1) (v1_caveats t.0 i.0.0) r i.2 in
    let s = bind_some (signature_at c.0.1) (v1_signature t.0 i.0.0 c.0.0) r c.2 in
    let text = text_at-Some l.0.0 t.0 t.1 in
    let first = one_is bytes Location l.0.0 l.0.1 (field_at_takes Location bytes l.0.0 l.0.1 l.1) in
    let located : AreFields bytes (one_field Location t.0) l.0.1 = subst (λ (v : List ℕ). AreFields bytes (one_field Location v) l.0.1) (sym text.0) first in
    let second = one_is l.0.1 Identifier i.0.0 i.0.1 (field_at_takes Identifier l.0.1 i.0.0 i.0.1 i.1) in
    let cs = caveats_at_takes (suc (length i.0.1)) i.0.1 c.0.0 c.0.1 c.1 in
    let signed = signature_at_takes c.0.1 s.0 s.1 in
    let last = one_is c.0.1 Signature s.0 [] signed.0 in
    let ends = AreFields-then i.0.1 c.0.1 [] cs.fields (one_field Signature s.0) cs.stand last in
    let later = AreFields-then l.0.1 i.0.1 [] (one_field Identifier i.0.0) (cs.fields ++ one_field Signature s.0) second ends in
    let all = AreFields-then bytes l.0.1 [] (one_field Location t.0) (one_field Identifier i.0.0 ++ (cs.fields ++ one_field Signature s.0)) located later in
    let parts : RawParts = record { location = t.0; identifier = i.0.0; caveats = c.0.0; sig = s.0 } in
    let whole : V1 bytes parts = record {
      caveats = cs.fields;
      are_caveats = cs.are;
      location = subst IsUtf8 (sym text.0) text.1;
      sig = signed.1;
      lengths = all.lengths;
      joined = all.parts ∙ append-nil (flat_map packet (fields_round parts cs.fields));
    } in
    subst (V1 bytes) (same_Some parts r s.2) whole

more_fields : (cs : List CaveatParts) (fields : List Field) → AreCaveatsFields cs fields → length cs ≤ length fields
more_fields [] fields are = omega arith
more_fields (c ∷ cs) fields are =
    let others = more_fields cs are.1 are.3 in
    let count : length fields ≡ suc (length (vid_fields c.vid ++ are.2.0)) + length are.1 = ap length are.4 ∙ ap (λ (fs : List Field). length (fs ++ are.1)) are.2.2 ∙ length-append (cid_field c ∷ (vid_fields c.vid ++ are.2.0)) are.1 in
    omega (arith, others, count)

more_bytes : (fields : List Field) → length fields ≤ length (flat_map packet fields)
more_bytes [] = omega arith
more_bytes (f ∷ fs) = omega (arith, more_bytes fs, length-packet f, length-append (packet f) (flat_map packet fs))

-- what is spelled is read
pub v1_again : (bytes : List ℕ) (r : RawParts) → V1 bytes r → v1_of bytes ≡ Some r
unfolding v1_of
v1_again bytes r v =
    let signature : Field = record { key = Signature; value = r.sig } in
    let location : Field = record { key = Location; value = r.location } in
    let identifier : Field = record { key = Identifier; value = r.identifier } in
    let end = packet signature ++ [] in
    let each = AllByRecursion-parts v.caveats (signature ∷ []) v.lengths.1.1 in
    let caveats = flat_map packet v.caveats ++ end in
    let split : bytes ≡ packet location ++ (packet identifier ++ caveats) =
    v.joined ∙ ap (λ (t : List ℕ). packet location ++ (packet identifier ++ t)) (flat_map-append packet v.caveats (signature ∷ [])) in
    let enough : length r.caveats < suc (length caveats) = omega (arith, more_fields r.caveats v.caveats v.are_caveats, more_bytes v.caveats, length-append (flat_map packet v.caveats) end) in
    let read_caveats = caveats_at_again (suc (length caveats)) r.caveats v.caveats end enough v.are_caveats each.0 (signature_ends r.sig []) (no_cid_at_signature r.sig []) in
    rw (split, field_at_again Location r.location (packet identifier ++ caveats) v.lengths.0, text_at-IsUtf8 r.location v.location, field_at_again Identifier r.identifier caveats v.lengths.1.0, read_caveats, signature_at_again r.sig v.sig each.1.0) refl

-- V1 packets spell at most one raw token
pub v1_one : (bytes : List ℕ) (r s : RawParts) → V1 bytes r → V1 bytes s → r ≡ s
v1_one bytes r s v w = same_Some r s (sym (v1_again bytes r v) ∙ v1_again bytes s w)
