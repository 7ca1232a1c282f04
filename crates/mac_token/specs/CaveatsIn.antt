-- For proofs: caveats as they lie in the bytes of V1 packets and V2 binary, alike.
use Rattle.std.specs.Prelude.{ℕ, suc, ◌+◌, ◌||◌, ◌&&◌, nat_le, true, false, if◌then◌else◌, List, [], length, map, is_some, Option, Some, None}
use Rattle.std.specs.List.{list_any, list_all}
use Rattle.mac_token.specs.RawToken.{CaveatParts}
use Rattle.mac_token.specs.Section.{SectionParts}
use Rattle.mac_token.specs.V1Reading as v1
use Rattle.mac_token.specs.V2Reading as v2
use Rattle.mac_token.specs.V2Whole as v2_whole
use Rattle.mac_token.specs.declared.limits.TheConstants.{CAVEAT_MAX}
use Rattle.mac_token.specs.declared.tally.Tally.{Tally}
use Rattle.mac_token.specs.declared.v1.key.PacketKey.TheVariants.{Cid}
use Rattle.mac_token.specs.declared.version.Version.{Version}
use Rattle.mac_token.specs.declared.version.Version.TheVariants.{V1, V2}

-- the fields of the caveat that comes next, where one does, and what follows it
abbrev pub section_in : Version → List ℕ → Option (SectionParts × List ℕ)
section_in V1 bytes = if v1.has_key Cid bytes then v1.section_at bytes else None
section_in V2 bytes = v2.section_at bytes

-- what follows the last caveat
abbrev pub end_in : Version → List ℕ → Option (List ℕ)
end_in V1 bytes = if v1.has_key Cid bytes then None else Some bytes
end_in V2 bytes = v2.end_at bytes

-- the caveats at the front, and what follows them
abbrev pub caveats_in : Version → List ℕ → Option (List CaveatParts × List ℕ)
caveats_in V1 bytes = v1.caveats_at (suc (length bytes)) bytes
caveats_in V2 bytes = v2_whole.caveats_at (suc (length bytes)) bytes

-- the caveats that were found
abbrev pub found_caveats : Option (List CaveatParts × List ℕ) → List CaveatParts
found_caveats None = []
found_caveats (Some found) = found.0

-- the caveats at the front
unfoldable pub spelled_in : Version → List ℕ → List CaveatParts
spelled_in version bytes = found_caveats (caveats_in version bytes)

-- the bytes of the caveats at the front
unfoldable pub ids_in : Version → List ℕ → List (List ℕ)
ids_in version bytes = map (λ c. c.id) (spelled_in version bytes)

-- a tally with these caveats after those that it tells of
abbrev pub tallied : Tally → List CaveatParts → Tally
tallied t caveats = record {
  count = t.count + length caveats;
  has_vid = t.has_vid || list_any (λ c. is_some c.vid) caveats;
  has_location = t.has_location || list_any (λ c. is_some c.location) caveats;
  are_short = t.are_short && list_all (λ c. nat_le (length c.id) CAVEAT_MAX) caveats;
}

-- the tally of no caveats
abbrev pub no_tally : Tally
no_tally = record { count = 0; has_vid = false; has_location = false; are_short = true }

-- the tally of caveats
unfoldable pub tally_of : List CaveatParts → Tally
tally_of caveats = tallied no_tally caveats
