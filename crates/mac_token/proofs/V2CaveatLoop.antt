-- Reading the caveats of V2 binary one after the other, as a loop does.
use Rattle.std.proofs.Common.{◌≡◌, ℕ, zero, suc, ◌<◌, List, ◌∷◌, Option, Some, None, length, refl, ap, ◌∙◌, arith}
use Rattle.base64.specs.GeneralPurpose.{IsBytes}
use Rattle.mac_token.specs.RawToken.{CaveatParts}
use Rattle.mac_token.specs.Section.{SectionParts, caveat_said}
use Rattle.mac_token.specs.Steps.{◌>>=◌}
use Rattle.mac_token.specs.V2Reading.{section_at}
use Rattle.mac_token.specs.V2Whole.{no_caveats, from_section, caveats_at}
use Rattle.mac_token.proofs.V2Caveats.{section_shorter}
use Rattle.mac_token.proofs.V2Sections.{section_takes}

same_more : (n m : ℕ) (found : Option (SectionParts × List ℕ)) (bytes : List ℕ) → ((s : SectionParts) (rest : List ℕ) → found ≡ Some (s, rest) → caveats_at n rest ≡ caveats_at m rest)
    → from_section (caveats_at n) bytes found ≡ from_section (caveats_at m) bytes found
same_more n m None bytes same = refl
same_more n m (Some s) bytes same =
    ap (λ (o : Option (List CaveatParts × List ℕ)). caveat_said s.0 >>= λ c. o >>= λ cs. Some (c ∷ cs.0, cs.1)) (same s.0 s.1 refl)

-- how many caveats there may be does not matter, if they may be as many as there are bytes
any_count : (n m : ℕ) (bytes : List ℕ) → IsBytes bytes → length bytes < n → length bytes < m → caveats_at n bytes ≡ caveats_at m bytes
unfolding caveats_at
any_count zero m bytes fits h k = absurd (omega arith)
any_count (suc n) zero bytes fits h k = absurd (omega arith)
any_count (suc n) (suc m) bytes fits h k =
    same_more n m (section_at bytes) bytes
    (λ s rest e. any_count n m rest (section_takes bytes s rest fits e).rest_fits (omega (arith, section_shorter bytes s rest fits e, h)) (omega (arith, section_shorter bytes s rest fits e, k)))

-- a section, and those behind it
pub v2_caveats_more : (bytes : List ℕ) (s : SectionParts) (rest : List ℕ) → IsBytes bytes → section_at bytes ≡ Some (s, rest)
    → caveats_at (suc (length bytes)) bytes ≡ (caveat_said s >>= λ c. caveats_at (suc (length rest)) rest >>= λ cs. Some (c ∷ cs.0, cs.1))
unfolding caveats_at
v2_caveats_more bytes s rest fits read =
    let fewer = any_count (length bytes) (suc (length rest)) rest (section_takes bytes s rest fits read).rest_fits (section_shorter bytes s rest fits read) (omega arith) in
    let one : caveats_at (suc (length bytes)) bytes ≡ from_section (caveats_at (length bytes)) bytes (Some (s, rest)) = rw read refl in
    one ∙ ap (λ (o : Option (List CaveatParts × List ℕ)). caveat_said s >>= λ c. o >>= λ cs. Some (c ∷ cs.0, cs.1)) fewer

-- no section
pub v2_caveats_end : (bytes : List ℕ) → section_at bytes ≡ None → caveats_at (suc (length bytes)) bytes ≡ no_caveats bytes
unfolding caveats_at
v2_caveats_end bytes none = rw none refl
