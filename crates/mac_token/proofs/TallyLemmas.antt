-- A tally that grows caveat by caveat is that of the whole list.
use Rattle.std.proofs.Common.{◌≡◌, ℕ, ◌+◌, ◌<◌, ◌≤◌, ◌||◌, ◌&&◌, Bool, true, false, List, [], ◌∷◌, length, Option, Some, None, option_map, refl, sym, ap, subst, ◌∙◌, arith}
use Rattle.std.specs.Prelude.{is_some, nat_le}
use Rattle.std.specs.List.{list_any, list_all}
use Rattle.std.proofs.lemmas.Option.{same_Some, some_pair_parts}
use Rattle.base64.specs.GeneralPurpose.{IsBytes}
use Rattle.mac_token.specs.RawToken.{CaveatParts}
use Rattle.mac_token.specs.Section.{SectionParts, caveat_said}
use Rattle.mac_token.specs.Steps.{◌>>=◌}
use Rattle.mac_token.specs.CaveatsIn.{section_in, end_in, caveats_in, spelled_in, tallied, no_tally, tally_of}
use Rattle.mac_token.specs.declared.limits.TheConstants.{CAVEAT_MAX}
use Rattle.mac_token.specs.declared.tally.Tally.{Tally}
use Rattle.mac_token.specs.declared.version.Version.{Version}
use Rattle.mac_token.proofs.CaveatsIn.{with_rest, caveats_more, caveats_end, caveat_shorter}

or_more : (a b c : Bool) → ((a || (b || false)) || c) ≡ (a || (b || c))
or_more true b c = refl
or_more false true c = refl
or_more false false c = refl

and_more : (a b c : Bool) → ((a && (b && true)) && c) ≡ (a && (b && c))
and_more true true c = refl
and_more true false c = refl
and_more false b c = refl

or_none : (a : Bool) → (a || false) ≡ a
or_none true = refl
or_none false = refl

and_none : (a : Bool) → (a && true) ≡ a
and_none true = refl
and_none false = refl

abbrev tally_with : ℕ → Bool → Bool → Bool → Tally
tally_with count vid location short = record { count = count; has_vid = vid; has_location = location; are_short = short }

same_tally : (n m : ℕ) (a b c d e f : Bool) → n ≡ m → a ≡ b → c ≡ d → e ≡ f → tally_with n a c e ≡ tally_with m b d f
same_tally n m a b c d e f p q r s = ap (λ (x : ℕ). tally_with x a c e) p ∙ ap (λ (x : Bool). tally_with m x c e) q ∙ ap (λ (x : Bool). tally_with m b x e) r ∙ ap (λ (x : Bool). tally_with m b d x) s

tallied_more : (t : Tally) (c : CaveatParts) (cs : List CaveatParts) → tallied (tallied t (c ∷ [])) cs ≡ tallied t (c ∷ cs)
tallied_more t c cs =
    same_tally _ _ _ _ _ _ _ _ (omega arith)
    (or_more t.has_vid (is_some c.vid) (list_any (λ c. is_some c.vid) cs))
    (or_more t.has_location (is_some c.location) (list_any (λ c. is_some c.location) cs))
    (and_more t.are_short (nat_le (length c.id) CAVEAT_MAX) (list_all (λ c. nat_le (length c.id) CAVEAT_MAX) cs))

tallied_none : (t : Tally) → tallied t [] ≡ t
tallied_none t = same_tally _ _ _ _ _ _ _ _ (omega arith) (or_none t.has_vid) (or_none t.has_location) (and_none t.are_short)

-- the caveats of a reading, tallied after others
abbrev tallied_in : Tally → Option (List CaveatParts × List ℕ) → Option (Tally × List ℕ)
tallied_in t reading = option_map (λ cs. (tallied t cs.0, cs.1)) reading

-- what was tallied, and what the rest gives, is the tally of the whole
pub record Tallies (version : Version) (bytes : List ℕ) (t : Tally) (rest : List ℕ) : Type 0 where
  pub fits : IsBytes rest
  pub bound : t.count + length rest ≤ length bytes
  pub same : tallied_in t (caveats_in version rest) ≡ tallied_in no_tally (caveats_in version bytes)

regrouped : (t : Tally) (c : CaveatParts) (reading : Option (List CaveatParts × List ℕ)) → tallied_in t (reading >>= λ cs. Some (c ∷ cs.0, cs.1)) ≡ tallied_in (tallied t (c ∷ [])) reading
regrouped t c None = refl
regrouped t c (Some cs) = ap (λ (t : Tally). Some (t, cs.1)) (sym (tallied_more t c cs.0))

pub tallies_more : (version : Version) (bytes : List ℕ) (t : Tally) (rest : List ℕ) (s : SectionParts) (after : List ℕ) (c : CaveatParts) → Tallies version bytes t rest → section_in version rest ≡ Some (s, after) → caveat_said s ≡ Some c
    → Tallies version bytes (tallied t (c ∷ [])) after
tallies_more version bytes t rest s after c so_far read says =
    let shorter = caveat_shorter version rest s after c so_far.fits read says in
    let more : caveats_in version rest ≡ with_rest version after c = caveats_more version rest s after so_far.fits read ∙ rw says refl in
    record {
      fits = shorter.1;
      bound = omega (arith, shorter.0, so_far.bound);
      same = sym (regrouped t c (caveats_in version after)) ∙ sym (ap (tallied_in t) more) ∙ so_far.same;
    }

none_of : (t : Tally) (reading whole : Option (List CaveatParts × List ℕ)) → reading ≡ None → tallied_in t reading ≡ tallied_in no_tally whole → whole ≡ None
none_of t reading None none same = refl
none_of t reading (Some whole) none same = let no = sym (ap (tallied_in t) none) ∙ same in absurd cc

said_of : (t u : Tally) (said : Option CaveatParts) → Some u ≡ option_map (λ c. tallied t (c ∷ [])) said → (c : CaveatParts) × (said ≡ Some c) × (u ≡ tallied t (c ∷ []))
said_of t u None e = absurd cc
said_of t u (Some c) e = (c, refl, same_Some u (tallied t (c ∷ [])) e)

pub tallies_next : (version : Version) (bytes : List ℕ) (t : Tally) (rest : List ℕ) (s : SectionParts) (after : List ℕ) (u : Tally) → Tallies version bytes t rest → section_in version rest ≡ Some (s, after)
    → Some u ≡ option_map (λ c. tallied t (c ∷ [])) (caveat_said s) → Tallies version bytes u after
tallies_next version bytes t rest s after u so_far read says =
    let c = said_of t u (caveat_said s) says in
    subst (λ (u : Tally). Tallies version bytes u after) (sym c.2) (tallies_more version bytes t rest s after c.0 so_far read c.1)

pub tallies_shorter : (version : Version) (bytes : List ℕ) (t : Tally) (rest : List ℕ) (s : SectionParts) (after : List ℕ) (u : Tally) → Tallies version bytes t rest → section_in version rest ≡ Some (s, after)
    → Some u ≡ option_map (λ c. tallied t (c ∷ [])) (caveat_said s) → length after < length rest
tallies_shorter version bytes t rest s after u so_far read says =
    let c = said_of t u (caveat_said s) says in
    (caveat_shorter version rest s after c.0 so_far.fits read c.1).0

unsaid : (t : Tally) (said : Option CaveatParts) → None ≡ option_map (λ c. tallied t (c ∷ [])) said → said ≡ None
unsaid t None e = refl
unsaid t (Some c) e = absurd cc

-- a caveat whose location is no text
pub tallies_refused : (version : Version) (bytes : List ℕ) (t : Tally) (rest : List ℕ) (s : SectionParts) (after : List ℕ) → Tallies version bytes t rest → section_in version rest ≡ Some (s, after)
    → None ≡ option_map (λ c. tallied t (c ∷ [])) (caveat_said s) → caveats_in version bytes ≡ None
tallies_refused version bytes t rest s after so_far read says =
    none_of t (caveats_in version rest) (caveats_in version bytes) (caveats_more version rest s after so_far.fits read ∙ rw (unsaid t (caveat_said s) says) refl) so_far.same

-- neither a caveat nor the end
pub tallies_stuck : (version : Version) (bytes : List ℕ) (t : Tally) (rest : List ℕ) → Tallies version bytes t rest → section_in version rest ≡ None → end_in version rest ≡ None → caveats_in version bytes ≡ None
tallies_stuck version bytes t rest so_far none no_end =
    none_of t (caveats_in version rest) (caveats_in version bytes) (caveats_end version rest none ∙ rw no_end refl) so_far.same

-- the tally of caveats that were found
pub record IsTally (version : Version) (bytes : List ℕ) (t : Tally) (after : List ℕ) : Type 0 where
  pub read : caveats_in version bytes ≡ Some (spelled_in version bytes, after)
  pub tally : t ≡ tally_of (spelled_in version bytes)

found_all : (version : Version) (bytes : List ℕ) (t : Tally) (after : List ℕ) (whole : Option (List CaveatParts × List ℕ)) → caveats_in version bytes ≡ whole → tallied_in t (Some ([], after)) ≡ tallied_in no_tally whole
    → IsTally version bytes t after
unfolding spelled_in tally_of
found_all version bytes t after None is same = absurd cc
found_all version bytes t after (Some cs) is same =
    let parts = some_pair_parts (tallied t []) (tallied no_tally cs.0) after cs.1 same in
    record { read = rw (is, parts.1) refl; tally = rw is (sym (tallied_none t) ∙ parts.0) }

pub tallies_end : (version : Version) (bytes : List ℕ) (t : Tally) (rest after : List ℕ) → Tallies version bytes t rest → section_in version rest ≡ None → end_in version rest ≡ Some after → IsTally version bytes t after
tallies_end version bytes t rest after so_far none end =
    let done : caveats_in version rest ≡ Some ([], after) = caveats_end version rest none ∙ rw end refl in
    found_all version bytes t after (caveats_in version bytes) refl (sym (ap (tallied_in t) done) ∙ so_far.same)
