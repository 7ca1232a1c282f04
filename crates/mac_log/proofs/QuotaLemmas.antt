-- Runs of lines of a kind.
use Rattle.std.proofs.Common.{◌≡◌, ℕ, ◌+◌, ◌-◌, ◌<◌, ◌≤◌, Bool, true, false, cond, List, [], ◌∷◌, length, Option, Some, None, refl, ap, ◌∙◌, arith}
use Rattle.std.specs.Prelude.{is_some, nat_lt, unwrap_or, min}
use Rattle.std.specs.List.{All}
use Rattle.std.proofs.lemmas.Bool.Decides.{nat_tests}
use Rattle.std.proofs.lemmas.List.Elements.{All-head, All-tail}
use Rattle.mac_log.specs.declared.quota.Quota.{Quota}
use Rattle.mac_log.specs.declared.quota.TheConstants.{LINES_MAX, SECOND}
use Rattle.mac_log.specs.Quota.{admitted, after, is_over, printed_count, told_count, with_left_out}

abbrev Admitted : Type 0
Admitted = Option ℕ × Quota

abbrev first : Quota → ℕ → Admitted
first q now = (Some q.left_out, record { start = now; printed = 1; left_out = 0 })

abbrev more : Quota → Admitted
more q = (Some 0, record q { printed = q.printed + 1 })

abbrev none : Quota → Admitted
none q = (None, with_left_out q 1)

admits-first : (q : Quota) (now : ℕ) → is_over q now ≡ true → admitted q now ≡ first q now
admits-first q now over = ap (λ t. cond t (first q now) (cond (nat_lt q.printed LINES_MAX) (more q) (none q))) over

admits-within : (q : Quota) (now : ℕ) (room : Bool) → is_over q now ≡ false → nat_lt q.printed LINES_MAX ≡ room → admitted q now ≡ cond room (more q) (none q)
admits-within q now room within has =
    ap (λ t. cond t (first q now) (cond (nat_lt q.printed LINES_MAX) (more q) (none q))) within
    ∙ ap (λ t. cond t (more q) (none q)) has

printed-step : (q : Quota) (now : ℕ) (later : List ℕ) (a : Admitted) → admitted q now ≡ a → printed_count q (now ∷ later) ≡ cond (is_some a.0) 1 0 + printed_count a.1 later
printed-step q now later a e = ap (λ (b : Admitted). cond (is_some b.0) 1 0 + printed_count b.1 later) e

told-step : (q : Quota) (now : ℕ) (later : List ℕ) (a : Admitted) → admitted q now ≡ a → told_count q (now ∷ later) ≡ unwrap_or a.0 0 + told_count a.1 later
told-step q now later a e = ap (λ (b : Admitted). unwrap_or b.0 0 + told_count b.1 later) e

after-step : (q : Quota) (now : ℕ) (later : List ℕ) (a : Admitted) → admitted q now ≡ a → (after q (now ∷ later)).left_out ≡ (after a.1 later).left_out
after-step q now later a e = ap (λ (b : Admitted). (after b.1 later).left_out) e

within-second : (q : Quota) (now : ℕ) → now < q.start + SECOND → is_over q now ≡ false
within-second q now soon = let near : now - q.start < 1_000 = omega arith in grind (arith, nat_tests)

pub ten_at_most : (q : Quota) (moments : List ℕ) → q.printed ≤ LINES_MAX → All (λ now. now < q.start + SECOND) moments → q.printed + printed_count q moments ≤ LINES_MAX
ten_at_most q [] few soon = omega arith
ten_at_most q (now ∷ later) few soon =
    let here : now < q.start + SECOND = All-head (λ t. t < q.start + SECOND) now later soon in
    let rest : All (λ t. t < q.start + SECOND) later = All-tail (λ t. t < q.start + SECOND) now later soon in
    let within = within-second q now here in
    elim (nat_lt q.printed LINES_MAX) as (λ t. nat_lt q.printed LINES_MAX ≡ t → q.printed + printed_count q (now ∷ later) ≤ LINES_MAX) [
      | true ↦ λ room.
          let below : q.printed + 1 ≤ LINES_MAX = grind (arith, nat_tests) in
          let step : printed_count q (now ∷ later) ≡ 1 + printed_count (more q).1 later = printed-step q now later (more q) (admits-within q now true within room) in
          let ih : (q.printed + 1) + printed_count (more q).1 later ≤ LINES_MAX = ten_at_most (more q).1 later below rest in
          omega arith
      | false ↦ λ full.
          let step : printed_count q (now ∷ later) ≡ 0 + printed_count (none q).1 later = printed-step q now later (none q) (admits-within q now false within full) in
          let ih : q.printed + printed_count (none q).1 later ≤ LINES_MAX = ten_at_most (none q).1 later few rest in
          omega arith
    ] refl

-- what is printed, told and still to be told
abbrev sum_of : Quota → List ℕ → ℕ
sum_of q moments = printed_count q moments + told_count q moments + (after q moments).left_out

sum-step : (q : Quota) (now : ℕ) (later : List ℕ) (a : Admitted) → admitted q now ≡ a → sum_of q (now ∷ later) ≡ (cond (is_some a.0) 1 0 + unwrap_or a.0 0) + sum_of a.1 later
sum-step q now later a e =
    let p = printed-step q now later a e in
    let t = told-step q now later a e in
    let l = after-step q now later a e in
    omega arith

pub none_lost : (q : Quota) (moments : List ℕ) → q.left_out + length moments < 18_446_744_073_709_551_616 → sum_of q moments ≡ q.left_out + length moments
none_lost q [] few = omega arith
none_lost q (now ∷ later) few =
    elim (is_over q now) as (λ t. is_over q now ≡ t → sum_of q (now ∷ later) ≡ q.left_out + length (now ∷ later)) [
      | true ↦ λ over.
          let step = sum-step q now later (first q now) (admits-first q now over) in
          let ih : sum_of (first q now).1 later ≡ 0 + length later = none_lost (first q now).1 later (omega arith) in
          omega arith
      | false ↦ λ within.
          elim (nat_lt q.printed LINES_MAX) as (λ t. nat_lt q.printed LINES_MAX ≡ t → sum_of q (now ∷ later) ≡ q.left_out + length (now ∷ later)) [
            | true ↦ λ room.
                let step = sum-step q now later (more q) (admits-within q now true within room) in
                let ih : sum_of (more q).1 later ≡ q.left_out + length later = none_lost (more q).1 later (omega arith) in
                omega arith
            | false ↦ λ full.
                let counted : min (q.left_out + 1) 18_446_744_073_709_551_615 ≡ q.left_out + 1 = omega arith in
                let step = sum-step q now later (none q) (admits-within q now false within full) in
                let ih : sum_of (none q).1 later ≡ min (q.left_out + 1) 18_446_744_073_709_551_615 + length later = none_lost (none q).1 later (omega arith) in
                omega arith
          ] refl
    ] refl
