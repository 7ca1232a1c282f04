-- Caveats where they lie, one after the other.
use Rattle.std.proofs.Common.{◌≡◌, ℕ, ◌<◌, Bool, true, false, cond, List, [], ◌∷◌, ◌++◌, append_assoc, length, map, Option, Some, None, IsSome, is_some, option_map, refl, sym, ap, ◌∙◌}
use Rattle.std.specs.List.{flat_map}
use Rattle.std.proofs.lemmas.List.{append-nil}
use Rattle.base64.specs.GeneralPurpose.{IsBytes}
use Rattle.mac_token.specs.RawToken.{CaveatParts}
use Rattle.mac_token.specs.Location.{location_at}
use Rattle.mac_token.specs.Section.{SectionParts, location_bytes, caveat_said}
use Rattle.mac_token.specs.Reads.{Fails}
use Rattle.mac_token.specs.declared.fault.TokenFault.{TokenFault}
use Rattle.mac_token.specs.declared.fault.TokenFault.TheVariants.{Refused, Memory}
use Rattle.mac_token.specs.Steps.{◌>>=◌}
use Rattle.mac_token.specs.V1.{packet}
use Rattle.mac_token.specs.V1Reading.{has_key, field_at, section_at, caveat_at}
use Rattle.mac_token.specs.CaveatsIn.{section_in, end_in, caveats_in, found_caveats, spelled_in, ids_in}
use Rattle.mac_token.specs.declared.v1.key.PacketKey.{PacketKey}
use Rattle.mac_token.specs.declared.v1.key.PacketKey.TheVariants.{Cid}
use Rattle.mac_token.specs.declared.version.Version.{Version}
use Rattle.mac_token.specs.declared.version.Version.TheVariants.{V1, V2}
use Rattle.mac_token.proofs.Steps.{went_on}
use Rattle.mac_token.proofs.CaveatLoop.{caveat_shortens, v1_caveats_more, v1_caveats_fail, v1_caveats_end}
use Rattle.mac_token.proofs.V1Caveats.{caveat_at_takes}
use Rattle.mac_token.proofs.V1Fields.{field_at_takes}
use Rattle.mac_token.proofs.V2CaveatLoop.{v2_caveats_more, v2_caveats_end}
use Rattle.mac_token.proofs.V2Caveats.{section_shorter}
use Rattle.mac_token.proofs.V2Fields.{IsBytes-rest}
use Rattle.mac_token.proofs.V2Sections.{section_takes}

-- one caveat, and those behind it
abbrev pub with_rest : Version → List ℕ → CaveatParts → Option (List CaveatParts × List ℕ)
with_rest version rest c = caveats_in version rest >>= λ cs. Some (c ∷ cs.0, cs.1)

v1_caveat : (bytes : List ℕ) (s : SectionParts) (rest : List ℕ) (said : Option CaveatParts) → section_at bytes ≡ Some (s, rest) → caveat_said s ≡ said
    → caveat_at bytes ≡ (said >>= λ c. Some (c, rest))
unfolding caveat_at
v1_caveat bytes s rest said read says = rw (read, says) refl

v1_more : (bytes : List ℕ) (s : SectionParts) (rest : List ℕ) (said : Option CaveatParts) → has_key Cid bytes ≡ true → section_at bytes ≡ Some (s, rest) → caveat_said s ≡ said
    → caveats_in V1 bytes ≡ (said >>= with_rest V1 rest)
v1_more bytes s rest None test read says = v1_caveats_fail bytes test (v1_caveat bytes s rest None read says)
v1_more bytes s rest (Some c) test read says = v1_caveats_more bytes c rest test (v1_caveat bytes s rest (Some c) read says)

-- where a caveat's fields come next, it is the first
pub caveats_more : (version : Version) (bytes : List ℕ) (s : SectionParts) (rest : List ℕ) → IsBytes bytes → section_in version bytes ≡ Some (s, rest)
    → caveats_in version bytes ≡ (caveat_said s >>= with_rest version rest)
caveats_more V1 bytes s rest fits read =
    let found = went_on (has_key Cid bytes) (section_at bytes) (s, rest) read in
    v1_more bytes s rest (caveat_said s) found.0 found.1 refl
caveats_more V2 bytes s rest fits read = v2_caveats_more bytes s rest fits read

no_caveat : (bytes : List ℕ) → section_at bytes ≡ None → caveat_at bytes ≡ None
unfolding caveat_at
no_caveat bytes none = rw none refl

v1_end : (test : Bool) (bytes : List ℕ) → has_key Cid bytes ≡ test → cond test (section_at bytes) None ≡ None
    → caveats_in V1 bytes ≡ (cond test None (Some bytes) >>= λ rest. Some ([], rest))
v1_end true bytes is none = v1_caveats_fail bytes is (no_caveat bytes none)
v1_end false bytes is none = v1_caveats_end bytes is

-- where none does, they are at their end
pub caveats_end : (version : Version) (bytes : List ℕ) → section_in version bytes ≡ None → caveats_in version bytes ≡ (end_in version bytes >>= λ rest. Some ([], rest))
caveats_end V1 bytes none = v1_end (has_key Cid bytes) bytes refl none
caveats_end V2 bytes none = v2_caveats_end bytes none

-- what stands behind a caveat is less
pub caveat_shorter : (version : Version) (bytes : List ℕ) (s : SectionParts) (rest : List ℕ) (c : CaveatParts) → IsBytes bytes → section_in version bytes ≡ Some (s, rest) → caveat_said s ≡ Some c
    → (length rest < length bytes) × IsBytes rest
caveat_shorter V1 bytes s rest c fits read says =
    let found = went_on (has_key Cid bytes) (section_at bytes) (s, rest) read in
    let caveat = v1_caveat bytes s rest (Some c) found.1 says in
    let is = caveat_at_takes bytes c rest caveat in
    (caveat_shortens bytes c rest caveat, IsBytes-rest (flat_map packet is.fields) bytes rest is.stand.parts fits)
caveat_shorter V2 bytes s rest c fits read says = (section_shorter bytes s rest fits read, (section_takes bytes s rest fits read).rest_fits)

-- what stands behind a field of bytes is bytes
pub field_rest_fits : (key : PacketKey) (bytes value rest : List ℕ) → IsBytes bytes → field_at key bytes ≡ Some (value, rest) → IsBytes rest
field_rest_fits key bytes value rest fits e = IsBytes-rest (packet (record { key = key; value = value })) bytes rest (field_at_takes key bytes value rest e).parts fits

-- ---- a walk over them

said_by : (s : SectionParts) (location : Option (Option (List ℕ))) (c : CaveatParts) → option_map (λ l. record { id = s.identifier; vid = s.vid; location = l }) location ≡ Some c → c.id ≡ s.identifier
said_by s None c e = absurd cc
said_by s (Some location) c e = let same = ap (λ (o : Option CaveatParts). option_map (λ c. c.id) o) e in sym cc

-- a caveat, and those behind it
pub record Found (version : Version) (bytes : List ℕ) (c : CaveatParts) (rest : List ℕ) : Type 0 where
  pub all : spelled_in version bytes ≡ c ∷ spelled_in version rest
  pub read : IsSome (caveats_in version rest)
  pub fits : IsBytes rest

found_by : (version : Version) (bytes : List ℕ) (s : SectionParts) (rest : List ℕ) (c : CaveatParts) (others : Option (List CaveatParts × List ℕ)) → IsBytes bytes
    → section_in version bytes ≡ Some (s, rest) → caveat_said s ≡ Some c → caveats_in version rest ≡ others → caveats_in version bytes ≡ (others >>= λ cs. Some (c ∷ cs.0, cs.1)) → IsSome (caveats_in version bytes)
    → Found version bytes c rest
unfolding spelled_in
found_by version bytes s rest c None fits read says more whole some = let none = ap is_some whole in absurd cc
found_by version bytes s rest c (Some cs) fits read says more whole some =
    record { all = rw (whole, more) refl; read = rw more refl; fits = (caveat_shorter version bytes s rest c fits read says).1 }

pub caveats_on : (version : Version) (bytes : List ℕ) (s : SectionParts) (rest : List ℕ) (c : CaveatParts) → IsSome (caveats_in version bytes) → IsBytes bytes → section_in version bytes ≡ Some (s, rest) → caveat_said s ≡ Some c
    → Found version bytes c rest
caveats_on version bytes s rest c some fits read says =
    found_by version bytes s rest c (caveats_in version rest) fits read says refl (caveats_more version bytes s rest fits read ∙ rw says refl) some

some_said : (version : Version) (bytes : List ℕ) (s : SectionParts) (rest : List ℕ) (said : Option CaveatParts) → IsSome (caveats_in version bytes) → caveats_in version bytes ≡ (said >>= with_rest version rest) → caveat_said s ≡ said
    → (c : CaveatParts) × (caveat_said s ≡ Some c)
some_said version bytes s rest None some whole says = let none = ap is_some whole in absurd cc
some_said version bytes s rest (Some c) some whole says = (c, says)

-- where all of them are read, each section is a caveat's
pub says_some : (version : Version) (bytes : List ℕ) (s : SectionParts) (rest : List ℕ) → IsSome (caveats_in version bytes) → IsBytes bytes → section_in version bytes ≡ Some (s, rest) → (c : CaveatParts) × (caveat_said s ≡ Some c)
says_some version bytes s rest some fits read = some_said version bytes s rest (caveat_said s) some (caveats_more version bytes s rest fits read) refl

-- what one step of a walk finds
pub record Walks (version : Version) (bytes identifier rest : List ℕ) : Type 0 where
  pub ids : ids_in version bytes ≡ identifier ∷ ids_in version rest
  pub read : IsSome (caveats_in version rest)
  pub fits : IsBytes rest

pub walk_on : (version : Version) (bytes : List ℕ) (s : SectionParts) (rest : List ℕ) → IsSome (caveats_in version bytes) → IsBytes bytes → section_in version bytes ≡ Some (s, rest) → Walks version bytes s.identifier rest
unfolding ids_in
walk_on version bytes s rest some fits read =
    let c = says_some version bytes s rest some fits read in
    let found = caveats_on version bytes s rest c.0 some fits read c.1 in
    record {
      ids = rw (found.all, said_by s (location_at (location_bytes s)) c.0 c.1) refl;
      read = found.read;
      fits = found.fits;
    }

ended_by : (end : Option (List ℕ)) → found_caveats (end >>= λ rest. Some ([], rest)) ≡ []
ended_by None = refl
ended_by (Some rest) = refl

pub spelled_none : (version : Version) (bytes : List ℕ) → section_in version bytes ≡ None → spelled_in version bytes ≡ []
unfolding spelled_in
spelled_none version bytes none = ap found_caveats (caveats_end version bytes none) ∙ ended_by (end_in version bytes)

pub walk_ends : (version : Version) (bytes : List ℕ) → section_in version bytes ≡ None → ids_in version bytes ≡ []
unfolding ids_in
walk_ends version bytes none = ap (map (λ c. c.id)) (spelled_none version bytes none)

-- ---- copies of them

-- those that were copied, and those of the rest, are those of the bytes
pub record Copies (version : Version) (bytes : List ℕ) (done : List CaveatParts) (rest : List ℕ) : Type 0 where
  pub all : done ++ spelled_in version rest ≡ spelled_in version bytes
  pub read : IsSome (caveats_in version rest)
  pub fits : IsBytes rest

pub copies_more : (version : Version) (bytes : List ℕ) (done : List CaveatParts) (rest : List ℕ) (s : SectionParts) (c : CaveatParts) (after : List ℕ) → Copies version bytes done rest → section_in version rest ≡ Some (s, after) → caveat_said s ≡ Some c
    → Copies version bytes (done ++ c ∷ []) after
copies_more version bytes done rest s c after so_far read says =
    let found = caveats_on version rest s after c so_far.read so_far.fits read says in
    record {
      all = append_assoc done (c ∷ []) (spelled_in version after) ∙ sym (ap (λ (cs : List CaveatParts). done ++ cs) found.all) ∙ so_far.all;
      read = found.read;
      fits = found.fits;
    }

pub copies_shorter : (version : Version) (bytes : List ℕ) (done : List CaveatParts) (rest : List ℕ) (s : SectionParts) (c : CaveatParts) (after : List ℕ) → Copies version bytes done rest → section_in version rest ≡ Some (s, after) → caveat_said s ≡ Some c
    → length after < length rest
copies_shorter version bytes done rest s c after so_far read says = (caveat_shorter version rest s after c so_far.fits read says).0

pub copies_refused : (version : Version) (bytes : List ℕ) (done : List CaveatParts) (rest : List ℕ) (s : SectionParts) (after : List ℕ) (fault : TokenFault) → Copies version bytes done rest → section_in version rest ≡ Some (s, after) → Fails fault (caveat_said s)
    → Fails fault (Some (spelled_in version bytes))
copies_refused version bytes done rest s after Memory so_far read fails = tt
copies_refused version bytes done rest s after (Refused reason) so_far read fails =
    let says = says_some version rest s after so_far.read so_far.fits read in
    let no = sym fails.1 ∙ says.1 in
    absurd cc

pub copies_end : (version : Version) (bytes : List ℕ) (done : List CaveatParts) (rest : List ℕ) → Copies version bytes done rest → section_in version rest ≡ None → spelled_in version bytes ≡ done
copies_end version bytes done rest so_far none =
    sym so_far.all ∙ ap (λ (cs : List CaveatParts). done ++ cs) (spelled_none version rest none) ∙ append-nil done
