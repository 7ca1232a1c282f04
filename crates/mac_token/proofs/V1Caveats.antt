-- A caveat that is read is the caveat that was spelled, and what was spelled is read again.
use Rattle.std.proofs.Common.{◌≡◌, ℕ, Bool, true, false, cond, List, [], ◌∷◌, ◌++◌, Option, Some, None, option_map, refl, sym, ap, subst, ◌∙◌, append_assoc, inl, inr}
use Rattle.std.specs.List.{flat_map, AllByRecursion}
use Rattle.std.specs.Str.{is_utf8}
use Rattle.std.proofs.lemmas.List.{append-nil}
use Rattle.std.proofs.lemmas.List.Concat.{flat_map-append}
use Rattle.std.proofs.lemmas.Option.{same_Some, some_pair_parts}
use Rattle.std.proofs.lemmas.Str.{IsUtf8-from_is_utf8, is_utf8-from_IsUtf8}
use Rattle.mac_token.specs.declared.v1.key.PacketKey.{PacketKey}
use Rattle.mac_token.specs.declared.v1.key.PacketKey.TheVariants.{Cid, Vid, Cl, Signature}
use Rattle.mac_token.specs.Steps.{◌>>=◌}
use Rattle.mac_token.specs.RawToken.{CaveatParts}
use Rattle.mac_token.specs.V1.{Field, HasLength, packet, vid_fields, AreLocationFields, AreCaveatFields}
use Rattle.mac_token.specs.Location.{location_at}
use Rattle.mac_token.specs.Section.{SectionParts, caveat_said}
use Rattle.mac_token.specs.V1Reading.{field_at, has_key, optional_at, section_at, caveat_at}
use Rattle.mac_token.proofs.Steps.{bind_some, kept}
use Rattle.mac_token.proofs.V1Fields.{IsField, field_at_takes, field_at_again}

-- ---- which key comes next

-- the next packet has none of the keys that a caveat's packets have
pub record EndsCaveat (bytes : List ℕ) : Type 0 where
  pub no_vid : has_key Vid bytes ≡ false
  pub no_cl : has_key Cl bytes ≡ false

pub has_cid : (value rest : List ℕ) → has_key Cid (packet (record { key = Cid; value = value }) ++ rest) ≡ true
unfolding has_key packet
has_cid value rest = refl

has_vid : (value rest : List ℕ) → has_key Vid (packet (record { key = Vid; value = value }) ++ rest) ≡ true
unfolding has_key packet
has_vid value rest = refl

has_cl : (value rest : List ℕ) → has_key Cl (packet (record { key = Cl; value = value }) ++ rest) ≡ true
unfolding has_key packet
has_cl value rest = refl

no_vid_at_cl : (value rest : List ℕ) → has_key Vid (packet (record { key = Cl; value = value }) ++ rest) ≡ false
unfolding has_key packet
no_vid_at_cl value rest = refl

pub cid_ends : (value rest : List ℕ) → EndsCaveat (packet (record { key = Cid; value = value }) ++ rest)
unfolding has_key packet
cid_ends value rest = record { no_vid = refl; no_cl = refl }

pub signature_ends : (value rest : List ℕ) → EndsCaveat (packet (record { key = Signature; value = value }) ++ rest)
unfolding has_key packet
signature_ends value rest = record { no_vid = refl; no_cl = refl }

pub no_cid_at_signature : (value rest : List ℕ) → has_key Cid (packet (record { key = Signature; value = value }) ++ rest) ≡ false
unfolding has_key packet
no_cid_at_signature value rest = refl

-- ---- fields

abbrev pub one_field : PacketKey → List ℕ → List Field
one_field key value = record { key = key; value = value } ∷ []

-- these fields stand at the front
pub record AreFields (bytes : List ℕ) (fields : List Field) (rest : List ℕ) : Type 0 where
  pub parts : bytes ≡ flat_map packet fields ++ rest
  pub lengths : AllByRecursion HasLength fields

AllByRecursion-append : (xs ys : List Field) → AllByRecursion HasLength xs → AllByRecursion HasLength ys → AllByRecursion HasLength (xs ++ ys)
AllByRecursion-append [] ys p q = q
AllByRecursion-append (x ∷ xs) ys p q = (p.0, AllByRecursion-append xs ys p.1 q)

pub AllByRecursion-parts : (xs ys : List Field) → AllByRecursion HasLength (xs ++ ys) → AllByRecursion HasLength xs × AllByRecursion HasLength ys
AllByRecursion-parts [] ys p = (tt, p)
AllByRecursion-parts (x ∷ xs) ys p = let q = AllByRecursion-parts xs ys p.1 in ((p.0, q.0), q.1)

-- fields, and then further ones
pub AreFields-then : (a b c : List ℕ) (xs ys : List Field) → AreFields a xs b → AreFields b ys c → AreFields a (xs ++ ys) c
AreFields-then a b c xs ys p q = record {
  parts = p.parts ∙ ap (λ (t : List ℕ). flat_map packet xs ++ t) q.parts ∙ sym (append_assoc (flat_map packet xs) (flat_map packet ys) c) ∙ ap (λ (t : List ℕ). t ++ c) (sym (flat_map-append packet xs ys));
  lengths = AllByRecursion-append xs ys p.lengths q.lengths;
}

pub one_is : (bytes : List ℕ) (key : PacketKey) (value rest : List ℕ) → IsField bytes key value rest → AreFields bytes (one_field key value) rest
one_is bytes key value rest f = record {
  parts = f.parts ∙ ap (λ (t : List ℕ). t ++ rest) (sym (append-nil (packet (record { key = key; value = value }))));
  lengths = (f.below, tt);
}

-- the field, where there is one
abbrev pub optional_fields : PacketKey → Option (List ℕ) → List Field
optional_fields key None = []
optional_fields key (Some value) = one_field key value

abbrev found : List ℕ × List ℕ → Option (Option (List ℕ) × List ℕ)
found f = Some (Some f.0, f.1)

by_test : (key : PacketKey) (bytes : List ℕ) (value : Option (List ℕ)) (rest : List ℕ) (test : Bool) → cond test (field_at key bytes >>= found) (Some (None, bytes)) ≡ Some (value, rest)
    → AreFields bytes (optional_fields key value) rest
by_test key bytes value rest true e =
    let f = bind_some (field_at key bytes) found (value, rest) e in
    let same = some_pair_parts (Some f.0.0) value f.0.1 rest f.2 in
    let is = one_is bytes key f.0.0 f.0.1 (field_at_takes key bytes f.0.0 f.0.1 f.1) in
    subst (λ (v : Option (List ℕ)). AreFields bytes (optional_fields key v) rest) same.0 (subst (λ (r : List ℕ). AreFields bytes (one_field key f.0.0) r) same.1 is)
by_test key bytes value rest false e =
    let same = some_pair_parts None value bytes rest e in
    subst (λ (v : Option (List ℕ)). AreFields bytes (optional_fields key v) rest) same.0 (record { parts = same.1; lengths = tt })

pub optional_at_takes : (key : PacketKey) (bytes : List ℕ) (value : Option (List ℕ)) (rest : List ℕ) → optional_at key bytes ≡ Some (value, rest) → AreFields bytes (optional_fields key value) rest
unfolding optional_at
optional_at_takes key bytes value rest e = by_test key bytes value rest (has_key key bytes) e

one_again : (key : PacketKey) (has : (value rest : List ℕ) → has_key key (packet (record { key = key; value = value }) ++ rest) ≡ true) (value rest : List ℕ)
    → HasLength (record { key = key; value = value }) → optional_at key (flat_map packet (one_field key value) ++ rest) ≡ Some (Some value, rest)
unfolding optional_at
one_again key has value rest below = rw (append-nil (packet (record { key = key; value = value })), has value rest, field_at_again key value rest below) refl

none_again : (key : PacketKey) (bytes : List ℕ) → has_key key bytes ≡ false → optional_at key bytes ≡ Some (None, bytes)
unfolding optional_at
none_again key bytes no_more = rw no_more refl

-- ---- a caveat

-- the location in a caveat's last packet
abbrev spelled_location : Option (List ℕ) → Option (Option (List ℕ))
spelled_location None = Some None
spelled_location (Some value) = location_at value

location_takes : (cl location : Option (List ℕ)) → spelled_location cl ≡ Some location → AreLocationFields location (optional_fields Cl cl)
location_takes None location e =
    subst (λ (l : Option (List ℕ)). AreLocationFields l []) (same_Some None location e) (inl refl)
location_takes (Some []) location e =
    subst (λ (l : Option (List ℕ)). AreLocationFields l (one_field Cl [])) (same_Some None location e) (inr refl)
location_takes (Some (b ∷ bs)) location e =
    let k = kept (is_utf8 (b ∷ bs)) (Some (b ∷ bs)) location e in
    subst (λ (l : Option (List ℕ)). AreLocationFields l (one_field Cl (b ∷ bs))) k.1 ((λ none. absurd cc), IsUtf8-from_is_utf8 (b ∷ bs) k.0, refl)

-- a location's fields are at most one, which is read as it
pub record IsLocationField (location : Option (List ℕ)) (fields : List Field) : Type 0 where
  pub cl : Option (List ℕ)
  pub fields_are : fields ≡ optional_fields Cl cl
  pub again : spelled_location cl ≡ Some location

location_field : (location : Option (List ℕ)) (fields : List Field) → AreLocationFields location fields → IsLocationField location fields
location_field None fields (inl e) = record { cl = None; fields_are = e; again = refl }
location_field None fields (inr e) = record { cl = Some []; fields_are = e; again = refl }
location_field (Some []) fields p = absurd (p.0 refl)
location_field (Some (b ∷ bs)) fields p = record { cl = Some (b ∷ bs); fields_are = p.2; again = rw (is_utf8-from_IsUtf8 (b ∷ bs) p.1) refl }

vid_fields_are : (vid : Option (List ℕ)) → optional_fields Vid vid ≡ vid_fields vid
vid_fields_are None = refl
vid_fields_are (Some v) = refl

abbrev caveat_parts : List ℕ → Option (List ℕ) → Option (List ℕ) → CaveatParts
caveat_parts id vid location = record { id = id; vid = vid; location = location }

abbrev caveat_done : List ℕ → Option (List ℕ) → List ℕ → Option (List ℕ) → Option (CaveatParts × List ℕ)
caveat_done id vid rest location = Some (record { id = id; vid = vid; location = location }, rest)

abbrev caveat_cl : List ℕ → Option (List ℕ) → Option (List ℕ) × List ℕ → Option (CaveatParts × List ℕ)
caveat_cl id vid cl = spelled_location cl.0 >>= caveat_done id vid cl.1

abbrev caveat_vid : List ℕ → Option (List ℕ) × List ℕ → Option (CaveatParts × List ℕ)
caveat_vid id vid = optional_at Cl vid.1 >>= caveat_cl id vid.0

abbrev caveat_id : List ℕ × List ℕ → Option (CaveatParts × List ℕ)
caveat_id id = optional_at Vid id.1 >>= caveat_vid id.0

-- the same step by step, the location read last
abbrev steps_at : List ℕ → Option (CaveatParts × List ℕ)
steps_at bytes = field_at Cid bytes >>= caveat_id

abbrev fields_of : List ℕ → Option (List ℕ) → Option (List ℕ) → SectionParts
fields_of id vid cl = record { location = cl; identifier = id; vid = vid }

abbrev with_rest : List ℕ → CaveatParts → Option (CaveatParts × List ℕ)
with_rest rest c = Some (c, rest)

abbrev said_with : SectionParts × List ℕ → Option (CaveatParts × List ℕ)
said_with s = caveat_said s.0 >>= with_rest s.1

abbrev section_cl : List ℕ → Option (List ℕ) → Option (List ℕ) × List ℕ → Option (SectionParts × List ℕ)
section_cl id vid cl = Some (fields_of id vid cl.0, cl.1)

abbrev section_vid : List ℕ → Option (List ℕ) × List ℕ → Option (SectionParts × List ℕ)
section_vid id vid = optional_at Cl vid.1 >>= section_cl id vid.0

abbrev section_id : List ℕ × List ℕ → Option (SectionParts × List ℕ)
section_id id = optional_at Vid id.1 >>= section_vid id.0

mapped : (id : List ℕ) (vid : Option (List ℕ)) (rest : List ℕ) (location : Option (Option (List ℕ)))
    → (option_map (λ l. caveat_parts id vid l) location >>= with_rest rest) ≡ (location >>= caveat_done id vid rest)
mapped id vid rest None = refl
mapped id vid rest (Some location) = refl

said_by_location : (id : List ℕ) (vid cl : Option (List ℕ)) (rest : List ℕ) → said_with (fields_of id vid cl, rest) ≡ caveat_cl id vid (cl, rest)
said_by_location id vid None rest = refl
said_by_location id vid (Some value) rest = mapped id vid rest (location_at value)

said_cl : (id : List ℕ) (vid : Option (List ℕ)) (cl : Option (Option (List ℕ) × List ℕ)) → ((cl >>= section_cl id vid) >>= said_with) ≡ (cl >>= caveat_cl id vid)
said_cl id vid None = refl
said_cl id vid (Some cl) = said_by_location id vid cl.0 cl.1

said_vid : (id : List ℕ) (vid : Option (Option (List ℕ) × List ℕ)) → ((vid >>= section_vid id) >>= said_with) ≡ (vid >>= caveat_vid id)
said_vid id None = refl
said_vid id (Some vid) = said_cl id vid.0 (optional_at Cl vid.1)

said_id : (id : Option (List ℕ × List ℕ)) → ((id >>= section_id) >>= said_with) ≡ (id >>= caveat_id)
said_id None = refl
said_id (Some id) = said_vid id.0 (optional_at Vid id.1)

-- what the fields say is what the steps give
caveat_at_steps : (bytes : List ℕ) → caveat_at bytes ≡ steps_at bytes
unfolding caveat_at section_at
caveat_at_steps bytes = said_id (field_at Cid bytes)

-- a caveat stands at the front
pub record IsCaveat (bytes : List ℕ) (c : CaveatParts) (rest : List ℕ) : Type 0 where
  pub fields : List Field
  pub are : AreCaveatFields c fields
  pub stand : AreFields bytes fields rest

pub caveat_at_takes : (bytes : List ℕ) (c : CaveatParts) (rest : List ℕ) → caveat_at bytes ≡ Some (c, rest) → IsCaveat bytes c rest
caveat_at_takes bytes c rest e =
    let id = bind_some (field_at Cid bytes) caveat_id (c, rest) (sym (caveat_at_steps bytes) ∙ e) in
    let vid = bind_some (optional_at Vid id.0.1) (caveat_vid id.0.0) (c, rest) id.2 in
    let cl = bind_some (optional_at Cl vid.0.1) (caveat_cl id.0.0 vid.0.0) (c, rest) vid.2 in
    let location = bind_some (spelled_location cl.0.0) (caveat_done id.0.0 vid.0.0 cl.0.1) (c, rest) cl.2 in
    let parts : CaveatParts = record { id = id.0.0; vid = vid.0.0; location = location.0 } in
    let same = some_pair_parts parts c cl.0.1 rest location.2 in
    let first = one_is bytes Cid id.0.0 id.0.1 (field_at_takes Cid bytes id.0.0 id.0.1 id.1) in
    let second = optional_at_takes Vid id.0.1 vid.0.0 vid.0.1 vid.1 in
    let third = optional_at_takes Cl vid.0.1 cl.0.0 cl.0.1 cl.1 in
    let cl_fields = optional_fields Cl cl.0.0 in
    let later = AreFields-then id.0.1 vid.0.1 cl.0.1 (optional_fields Vid vid.0.0) cl_fields second third in
    let all = AreFields-then bytes id.0.1 cl.0.1 (one_field Cid id.0.0) (optional_fields Vid vid.0.0 ++ cl_fields) first later in
    let whole : IsCaveat bytes parts cl.0.1 = record {
      fields = one_field Cid id.0.0 ++ (optional_fields Vid vid.0.0 ++ cl_fields);
      are = (cl_fields, location_takes cl.0.0 location.0 location.1, ap (λ (fs : List Field). one_field Cid id.0.0 ++ (fs ++ cl_fields)) (vid_fields_are vid.0.0));
      stand = all;
    } in
    subst (λ (r : List ℕ). IsCaveat bytes c r) same.1 (subst (λ (p : CaveatParts). IsCaveat bytes p cl.0.1) same.0 whole)

vid_again : (vid cl : Option (List ℕ)) (rest : List ℕ) → EndsCaveat rest → AllByRecursion HasLength (vid_fields vid)
    → optional_at Vid (flat_map packet (vid_fields vid) ++ (flat_map packet (optional_fields Cl cl) ++ rest)) ≡ Some (vid, flat_map packet (optional_fields Cl cl) ++ rest)
vid_again None None rest ends lengths = none_again Vid rest ends.no_vid
vid_again None (Some cl) rest ends lengths =
    none_again Vid (flat_map packet (one_field Cl cl) ++ rest) (rw (append-nil (packet (record { key = Cl; value = cl }))) (no_vid_at_cl cl rest))
vid_again (Some vid) cl rest ends lengths = one_again Vid has_vid vid (flat_map packet (optional_fields Cl cl) ++ rest) lengths.0

cl_again : (cl : Option (List ℕ)) (rest : List ℕ) → EndsCaveat rest → AllByRecursion HasLength (optional_fields Cl cl)
    → optional_at Cl (flat_map packet (optional_fields Cl cl) ++ rest) ≡ Some (cl, rest)
cl_again None rest ends lengths = none_again Cl rest ends.no_cl
cl_again (Some cl) rest ends lengths = one_again Cl has_cl cl rest lengths.0

parts_again : (id : List ℕ) (vid cl location : Option (List ℕ)) (rest : List ℕ) → EndsCaveat rest → AllByRecursion HasLength (one_field Cid id ++ (vid_fields vid ++ optional_fields Cl cl))
    → spelled_location cl ≡ Some location
    → caveat_at (packet (record { key = Cid; value = id }) ++ (flat_map packet (vid_fields vid) ++ (flat_map packet (optional_fields Cl cl) ++ rest))) ≡ caveat_done id vid rest location
parts_again id vid cl location rest ends lengths read =
    let later = AllByRecursion-parts (vid_fields vid) (optional_fields Cl cl) lengths.1 in
    caveat_at_steps (packet (record { key = Cid; value = id }) ++ (flat_map packet (vid_fields vid) ++ (flat_map packet (optional_fields Cl cl) ++ rest)))
    ∙ rw (field_at_again Cid id (flat_map packet (vid_fields vid) ++ (flat_map packet (optional_fields Cl cl) ++ rest)) lengths.0, vid_again vid cl rest ends later.0, cl_again cl rest ends later.1, read) refl

pub caveat_at_again : (c : CaveatParts) (fields : List Field) (rest : List ℕ) → AreCaveatFields c fields → AllByRecursion HasLength fields → EndsCaveat rest
    → caveat_at (flat_map packet fields ++ rest) ≡ Some (c, rest)
caveat_at_again c fields rest are lengths ends =
    let l = location_field c.location are.0 are.1 in
    let all = one_field Cid c.id ++ (vid_fields c.vid ++ optional_fields Cl l.cl) in
    let fields-are : fields ≡ all = are.2 ∙ ap (λ (fs : List Field). one_field Cid c.id ++ (vid_fields c.vid ++ fs)) l.fields_are in
    let bytes-are : flat_map packet all ++ rest ≡ packet (record { key = Cid; value = c.id }) ++ (flat_map packet (vid_fields c.vid) ++ (flat_map packet (optional_fields Cl l.cl) ++ rest)) =
    rw (flat_map-append packet (vid_fields c.vid) (optional_fields Cl l.cl)) (simp append_assoc) in
    ap (λ (fs : List Field). caveat_at (flat_map packet fs ++ rest)) fields-are ∙ ap caveat_at bytes-are
    ∙ parts_again c.id c.vid l.cl c.location rest ends (subst (λ (fs : List Field). AllByRecursion HasLength fs) fields-are lengths) l.again
