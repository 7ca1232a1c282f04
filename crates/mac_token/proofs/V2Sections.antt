-- Sections of V2 binary: what is read is spelled so, and what is spelled so is read.
use Rattle.std.proofs.Common.{◌≡◌, ℕ, zero, suc, Bool, true, cond, eqb, ◌&&◌, List, [], ◌∷◌, ◌++◌, length, Option, Some, None, refl, sym, ap, subst, ◌∙◌, append_assoc, arith}
use Rattle.std.specs.Prelude.{is_none}
use Rattle.std.proofs.lemmas.Bool.{eqb-true, eq-eqb, and_parts}
use Rattle.std.proofs.lemmas.List.{append-nil, nil_from_length}
use Rattle.base64.specs.GeneralPurpose.{IsBytes}
use Rattle.mac_token.specs.V2.{field, optional, end_mark, section}
use Rattle.mac_token.specs.Section.{SectionParts}
use Rattle.mac_token.specs.V2Reading.{field_at, optional_at, end_at, section_at, without_vid, head_at, signature_at}
use Rattle.mac_token.specs.declared.v2.FieldType.TheVariants.{Location, Identifier, Vid, Signature}
use Rattle.mac_token.specs.Steps.{◌>>=◌}
use Rattle.mac_token.proofs.Steps.{bind_some, kept}
use Rattle.mac_token.proofs.V2Fields.{pass_some, some_is, Takes, Takes-same, Takes-then, IsBytes-rest, end_is, field_is, field_takes, field_again, optional_takes, optional_some_again, optional_none_again}

-- a section by its three parts
abbrev made : Option (List ℕ) → List ℕ → Option (List ℕ) → SectionParts
made location identifier vid = record { location = location; identifier = identifier; vid = vid }

abbrev front : SectionParts → List ℕ → Option (SectionParts × List ℕ)
front s rest = Some (s, rest)

pub end_takes : (bytes rest : List ℕ) → IsBytes bytes → end_at bytes ≡ Some rest → Takes bytes end_mark rest
unfolding end_at
end_takes [] rest fits e = absurd cc
end_takes (zero ∷ bytes) rest fits e =
    let is : 0 ∷ bytes ≡ end_mark ++ rest = ap (λ (t : List ℕ). 0 ∷ t) (some_is bytes rest e) ∙ ap (λ (t : List ℕ). t ++ rest) (sym end_is) in
    record { parts = is; rest_fits = IsBytes-rest end_mark (0 ∷ bytes) rest is fits }
end_takes (suc b ∷ bytes) rest fits e = absurd cc

-- the end mark is read, whatever follows
pub end_again : (rest : List ℕ) → end_at (end_mark ++ rest) ≡ Some rest
unfolding end_at
end_again rest = ap (λ (t : List ℕ). end_at (t ++ rest)) end_is

pub section_takes : (bytes : List ℕ) (s : SectionParts) (rest : List ℕ) → IsBytes bytes → section_at bytes ≡ Some (s, rest) → Takes bytes (section s) rest
unfolding section_at
section_takes bytes s rest fits e =
    let a = bind_some (optional_at Location bytes) (λ location. field_at Identifier location.1 >>= λ identifier. optional_at Vid identifier.1 >>= λ vid. end_at vid.1 >>= λ after. front (made location.0 identifier.0 vid.0) after) (s, rest) e in
    let b = bind_some (field_at Identifier a.0.1) (λ identifier. optional_at Vid identifier.1 >>= λ vid. end_at vid.1 >>= λ after. front (made a.0.0 identifier.0 vid.0) after) (s, rest) a.2 in
    let c = bind_some (optional_at Vid b.0.1) (λ vid. end_at vid.1 >>= λ after. front (made a.0.0 b.0.0 vid.0) after) (s, rest) b.2 in
    let d = bind_some (end_at c.0.1) (λ after. front (made a.0.0 b.0.0 c.0.0) after) (s, rest) c.2 in
    let t0 = optional_takes Location bytes a.0.0 a.0.1 fits a.1 in
    let t1 = field_takes Identifier a.0.1 b.0.0 b.0.1 t0.rest_fits b.1 in
    let t2 = optional_takes Vid b.0.1 c.0.0 c.0.1 t1.rest_fits c.1 in
    let t3 = end_takes c.0.1 d.0 t2.rest_fits d.1 in
    let two = Takes-then bytes (optional Location a.0.0) a.0.1 (field Identifier b.0.0) b.0.1 t0 t1 in
    let three = Takes-then bytes (optional Location a.0.0 ++ field Identifier b.0.0) b.0.1 (optional Vid c.0.0) c.0.1 two t2 in
    let four = Takes-then bytes (optional Location a.0.0 ++ field Identifier b.0.0 ++ optional Vid c.0.0) c.0.1 end_mark d.0 three t3 in
    Takes-same bytes section (made a.0.0 b.0.0 c.0.0) s d.0 rest four d.2

abbrev absent : List ℕ → Option (Option (List ℕ) × List ℕ)
absent rest = Some (None, rest)

location_again : (location : Option (List ℕ)) (identifier rest : List ℕ) → optional_at Location (optional Location location ++ (field Identifier identifier ++ rest)) ≡ Some (location, field Identifier identifier ++ rest)
location_again (Some l) identifier rest = optional_some_again Location l (field Identifier identifier ++ rest)
location_again None identifier rest =
    ap (optional_at Location) (field_is Identifier identifier rest) ∙ optional_none_again Location 2 _ (λ e. omega arith)
    ∙ ap (λ (t : List ℕ). absent t) (sym (field_is Identifier identifier rest))

vid_again : (vid : Option (List ℕ)) (rest : List ℕ) → optional_at Vid (optional Vid vid ++ (end_mark ++ rest)) ≡ Some (vid, end_mark ++ rest)
vid_again (Some v) rest = optional_some_again Vid v (end_mark ++ rest)
vid_again None rest =
    ap (λ (t : List ℕ). optional_at Vid (t ++ rest)) end_is ∙ optional_none_again Vid 0 rest (λ e. omega arith) ∙ ap (λ (t : List ℕ). absent (t ++ rest)) (sym end_is)

-- a section is read as its parts, whatever follows
pub section_again : (s : SectionParts) (rest : List ℕ) → section_at (section s ++ rest) ≡ Some (s, rest)
unfolding section_at
section_again s rest =
    let regrouped : section s ++ rest ≡ optional Location s.location ++ (field Identifier s.identifier ++ (optional Vid s.vid ++ (end_mark ++ rest))) =
    append_assoc (optional Location s.location ++ field Identifier s.identifier ++ optional Vid s.vid) end_mark rest
    ∙ append_assoc (optional Location s.location ++ field Identifier s.identifier) (optional Vid s.vid) (end_mark ++ rest)
    ∙ append_assoc (optional Location s.location) (field Identifier s.identifier) (optional Vid s.vid ++ (end_mark ++ rest)) in
    ap section_at regrouped
    ∙ rw (location_again s.location s.identifier (optional Vid s.vid ++ (end_mark ++ rest)), field_again Identifier s.identifier (optional Vid s.vid ++ (end_mark ++ rest)), vid_again s.vid rest, end_again rest) refl

field_zero : (rest : List ℕ) → (field_at Identifier (0 ∷ rest) >>= λ identifier. optional_at Vid identifier.1 >>= λ vid. end_at vid.1 >>= λ after. front (made None identifier.0 vid.0) after) ≡ None
unfolding field_at
field_zero rest = refl

section_zero : (rest : List ℕ) → section_at (0 ∷ rest) ≡ None
unfolding section_at
section_zero rest = rw (optional_none_again Location 0 rest (λ e. omega arith)) (field_zero rest)

-- what doesn't begin with a section at an end mark
pub section_end : (rest : List ℕ) → section_at (end_mark ++ rest) ≡ None
section_end rest = ap (λ (t : List ℕ). section_at (t ++ rest)) end_is ∙ section_zero rest

-- ---- the token's own section

none_is : (o : Option (List ℕ)) → is_none o ≡ true → o ≡ None
none_is None e = refl
none_is (Some x) e = absurd cc

pub head_takes : (bytes : List ℕ) (head : SectionParts) (rest : List ℕ) → IsBytes bytes → head_at bytes ≡ Some (head, rest) → Takes bytes (2 ∷ section head) rest × (head.vid ≡ None)
unfolding head_at
head_takes [] head rest fits e = absurd cc
head_takes (version ∷ bytes) head rest fits e =
    let p = pass_some (eqb version 2) (section_at bytes >>= λ h. without_vid h) (head, rest) e in
    let s = bind_some (section_at bytes) (λ h. without_vid h) (head, rest) p.1 in
    let g = kept (is_none s.0.0.vid) s.0 (head, rest) s.2 in
    let t = section_takes bytes s.0.0 s.0.1 (λ i. fits (suc i)) s.1 in
    let first : Takes (version ∷ bytes) (2 ∷ section s.0.0) s.0.1 = record { parts = ap (λ (n : ℕ). n ∷ bytes) (eqb-true version 2 p.0) ∙ ap (λ (x : List ℕ). 2 ∷ x) t.parts; rest_fits = t.rest_fits } in
    subst (λ (x : SectionParts × List ℕ). Takes (version ∷ bytes) (2 ∷ section x.0) x.1 × (x.0.vid ≡ None)) g.1 (first, none_is s.0.0.vid g.0)

abbrev is_none_of : Option (List ℕ) → Bool
is_none_of o = is_none o

pub head_again : (head : SectionParts) (rest : List ℕ) → head.vid ≡ None → head_at (2 ∷ (section head ++ rest)) ≡ Some (head, rest)
unfolding head_at
head_again head rest no_vid = rw (section_again head rest) (let e : is_none head.vid ≡ true = ap is_none_of no_vid in rw e refl)

-- ---- the signature

pub signature_takes : (bytes sig : List ℕ) → IsBytes bytes → signature_at bytes ≡ Some sig → (bytes ≡ field Signature sig) × (length sig ≡ 32)
unfolding signature_at
signature_takes bytes sig fits e =
    let a = bind_some (field_at Signature bytes) (λ s. cond (eqb (length s.0) 32 && eqb (length s.1) 0) (Some s.0) None) sig e in
    let g = kept (eqb (length a.0.0) 32 && eqb (length a.0.1) 0) a.0.0 sig a.2 in
    let both = and_parts (eqb (length a.0.0) 32) (eqb (length a.0.1) 0) g.0 in
    let t = field_takes Signature bytes a.0.0 a.0.1 fits a.1 in
    let nothing : a.0.1 ≡ [] = nil_from_length a.0.1 (eqb-true _ _ both.1) in
    let whole : bytes ≡ field Signature a.0.0 = t.parts ∙ ap (λ (r : List ℕ). field Signature a.0.0 ++ r) nothing ∙ append-nil (field Signature a.0.0) in
    subst (λ (x : List ℕ). (bytes ≡ field Signature x) × (length x ≡ 32)) g.1 (whole, eqb-true _ _ both.0)

pub signature_again : (sig : List ℕ) → length sig ≡ 32 → signature_at (field Signature sig) ≡ Some sig
unfolding signature_at
signature_again sig size =
    let read : field_at Signature (field Signature sig) ≡ Some (sig, []) = ap (field_at Signature) (sym (append-nil (field Signature sig))) ∙ field_again Signature sig [] in
    rw (read, eq-eqb (length sig) 32 size) refl
