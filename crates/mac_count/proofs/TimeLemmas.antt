-- Bounds of time, and who passes them.
use Rattle.std.proofs.Common.{◌≡◌, ℕ, zero, suc, ◌+◌, ◌<◌, ◌≤◌, true, false, cond, List, [], ◌∷◌, length, refl, arith}
use Rattle.std.specs.Prelude.{nat_lt, slice_index_or, ◌↔◌}
use Rattle.std.proofs.lemmas.List.Sums.{sum_by-cons}
use Rattle.std.proofs.lemmas.Bool.Decides.{nat_tests}
use Rattle.std.proofs.lemmas.Grind.{common_steps}
use Rattle.mac_count.specs.Times.{count_passed}

passed-cons : (bound : ℕ) (bounds : List ℕ) (micros : ℕ)
    → count_passed (bound ∷ bounds) micros ≡ cond (nat_lt bound micros) 1 0 + count_passed bounds micros
passed-cons bound bounds micros = sum_by-cons (λ (other : ℕ). cond (nat_lt other micros) 1 0) bound bounds

-- who takes longer passes a bound that who takes less long passes
one-more : (bound less more : ℕ) → less ≤ more → cond {A = ℕ} (nat_lt bound less) 1 0 ≤ cond {A = ℕ} (nat_lt bound more) 1 0
one-more bound less more longer = grind (arith, nat_tests, common_steps)

-- and so it passes no fewer
pub passes-more : (bounds : List ℕ) (less more : ℕ) → less ≤ more → count_passed bounds less ≤ count_passed bounds more
passes-more [] less more longer = omega arith
passes-more (bound ∷ bounds) less more longer =
    let others = passes-more bounds less more longer in
    let this = one-more bound less more longer in
    omega (arith, passed-cons bound bounds less, passed-cons bound bounds more)

not-itself : (bound : ℕ) → cond {A = ℕ} (nat_lt bound bound) 1 0 ≡ 0
not-itself bound = grind (arith, nat_tests, common_steps)

passed : (bound micros : ℕ) → bound < micros → cond {A = ℕ} (nat_lt bound micros) 1 0 ≡ 1
passed bound micros longer = grind (arith, nat_tests, common_steps)

-- who takes longer than a bound passes more than who takes as long
pub passes-one-more : (bounds : List ℕ) (k micros : ℕ) → k < length bounds → slice_index_or bounds k 0 < micros
    → count_passed bounds (slice_index_or bounds k 0) < count_passed bounds micros
passes-one-more [] k micros within longer = omega arith
passes-one-more (bound ∷ bounds) zero micros within longer =
    let others = passes-more bounds bound micros (omega arith) in
    omega (arith, not-itself bound, passed bound micros longer, passed-cons bound bounds bound, passed-cons bound bounds micros)
passes-one-more (bound ∷ bounds) (suc k) micros within longer =
    let at : ℕ = slice_index_or bounds k 0 in
    let others = passes-one-more bounds k micros (omega arith) longer in
    let this = one-more bound at micros (omega arith) in
    omega (arith, passed-cons bound bounds at, passed-cons bound bounds micros)

lasts : (at micros : ℕ) → nat_lt at micros ≡ true → at < micros
lasts at micros is = grind (arith, nat_tests, is)

ends : (at micros : ℕ) → nat_lt at micros ≡ false → micros ≤ at
ends at micros isnt = grind (arith, nat_tests, isnt)

-- who passes no more bounds than one of them takes no longer than that one
took-within : (bounds : List ℕ) (k micros : ℕ) → k < length bounds
    → count_passed bounds micros ≤ count_passed bounds (slice_index_or bounds k 0) → micros ≤ slice_index_or bounds k 0
took-within bounds k micros within few =
    let at : ℕ = slice_index_or bounds k 0 in
    elim (nat_lt at micros) as (λ t. nat_lt at micros ≡ t → micros ≤ at) [
      | true ↦ λ is. let more = passes-one-more bounds k micros within (lasts at micros is) in omega (arith, few, more)
      | false ↦ ends at micros
    ] refl

pub within-tells : (bounds : List ℕ) (k micros : ℕ) → k < length bounds
    → (count_passed bounds micros ≤ count_passed bounds (slice_index_or bounds k 0)) ↔ (micros ≤ slice_index_or bounds k 0)
within-tells bounds k micros within = (took-within bounds k micros within, passes-more bounds micros (slice_index_or bounds k 0))
