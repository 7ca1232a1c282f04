-- What a caveat lacks.
use Rattle.std.proofs.Common.{◌≡◌, ◌↔◌, ◌∙◌, ◌≤◌, ℕ, ℤ, pos, List, [], ◌∷◌, Bool, true, false, if◌then◌else◌, Option, Some, None, inl, inr, refl, sym, arith}
use Rattle.std.specs.Prelude.{nat_lt, ◌≤ℤ◌, ◌<ℤ◌}
use Rattle.std.specs.List.{All}
use Rattle.std.proofs.lemmas.Bool.{false≢true, ltb-true, ltb-false}
use Rattle.std.proofs.lemmas.Int.{by_lt_z}
use Rattle.std.proofs.lemmas.List.Elements.{All-nil, All-cons}
use Rattle.mac_decide.specs.Doubt.{doubt_of}
use Rattle.mac_decide.specs.Lack.{fact_lack, is_pathless, lack_by, lack_of, nearer, nearest, shared}
use Rattle.mac_decide.specs.Reading.{is_satisfied, limit_of, since_of}
use Rattle.mac_decide.specs.Time.{IsTimeLimit, IsLowerBound}
use Rattle.mac_decide.specs.Verdict.{Satisfied}
use Rattle.mac_decide.specs.declared.context.Context.{Context}
use Rattle.mac_decide.specs.declared.doubts.Doubt.{Doubt}
use Rattle.mac_decide.specs.declared.lacks.Lack.{Lack}
use Rattle.mac_decide.specs.declared.lacks.Lack.TheVariants.{Ended, Ahead, NoPath, NoFact}
use Rattle.mac_decide.proofs.ReadingLemmas.{limit_of-exact, since_of-exact}
use Rattle.mac_decide.proofs.VerdictLemmas.{is_satisfied-exact}

-- two tests that hold in the same case
same_test : (a b : Bool) → (a ≡ true → b ≡ true) → (b ≡ true → a ≡ true) → a ≡ b
same_test true b there back = sym (there refl)
same_test false true there back = back refl
same_test false false there back = refl

pub tells_satisfied : (b : Bool) (caveat : List ℕ) (x : Context) → ((b ≡ true) ↔ Satisfied caveat x)
    → b ≡ is_satisfied caveat x
tells_satisfied b caveat x is =
    let exact = is_satisfied-exact caveat x in
    same_test b (is_satisfied caveat x) (λ e. exact.1 (is.0 e)) (λ e. is.1 (exact.0 e))

-- a caveat lacks nothing where it is satisfied
satisfied_if : (b : Bool) (lack : Lack) → (if b then None else Some lack) ≡ None → b ≡ true
satisfied_if true lack e = refl
satisfied_if false lack e = absurd (cc)

pub nothing_lacks : (caveat : List ℕ) (x : Context) → (lack_of caveat x ≡ None) ↔ Satisfied caveat x
unfolding lack_of
nothing_lacks caveat x = (
  (λ e. (is_satisfied-exact caveat x).0 (satisfied_if (is_satisfied caveat x) (lack_by (limit_of caveat) (since_of caveat) caveat x) e)),
  (λ h. rw ((is_satisfied-exact caveat x).1 h) refl),
)

-- one that lacks something isn't
lacking_if : (b : Bool) (one other : Lack) → (if b then None else Some one) ≡ Some other → (b ≡ false) × (one ≡ other)
lacking_if true one other e = absurd (cc)
lacking_if false one other e = (refl, cc)

-- what no bound of time lacks
no_bound : (doubt : Option Doubt) (caveat : List ℕ) (facts : List (List ℕ)) (v : ℤ)
    → ¬ (fact_lack doubt caveat facts ≡ Ended v) × ¬ (fact_lack doubt caveat facts ≡ Ahead v)
no_bound (Some doubt) caveat facts v = ((λ e. absurd (cc)), (λ e. absurd (cc)))
no_bound None caveat facts v = go (is_pathless caveat facts)
  where
    go : (b : Bool) → ¬ ((if b then NoPath else NoFact) ≡ Ended v) × ¬ ((if b then NoPath else NoFact) ≡ Ahead v)
    go true = ((λ e. absurd (cc)), (λ e. absurd (cc)))
    go false = ((λ e. absurd (cc)), (λ e. absurd (cc)))

ended_by : (limit since : Option ℤ) (caveat : List ℕ) (x : Context) (v : ℤ) → lack_by limit since caveat x ≡ Ended v → limit ≡ Some v
ended_by (Some w) since caveat x v e = cc
ended_by None (Some w) caveat x v e = absurd (cc)
ended_by None None caveat x v e = absurd ((no_bound (doubt_of caveat false x.moment) caveat x.facts v).0 e)

ahead_by : (limit since : Option ℤ) (caveat : List ℕ) (x : Context) (v : ℤ) → lack_by limit since caveat x ≡ Ahead v → since ≡ Some v
ahead_by (Some w) since caveat x v e = absurd (cc)
ahead_by None (Some w) caveat x v e = cc
ahead_by None None caveat x v e = absurd ((no_bound (doubt_of caveat false x.moment) caveat x.facts v).1 e)

-- a caveat that lacks something
is_lacking : (caveat : List ℕ) (x : Context) (lack : Lack) → lack_of caveat x ≡ Some lack
    → ¬ (Satisfied caveat x) × (lack_by (limit_of caveat) (since_of caveat) caveat x ≡ lack)
unfolding lack_of
is_lacking caveat x lack e =
    let parts = lacking_if (is_satisfied caveat x) (lack_by (limit_of caveat) (since_of caveat) caveat x) lack e in
    ((λ h. false≢true (sym parts.0 ∙ (is_satisfied-exact caveat x).1 h)), parts.1)

pub has_ended : (caveat : List ℕ) (x : Context) (v : ℤ) → lack_of caveat x ≡ Some (Ended v) → IsTimeLimit caveat v × (v ≤ℤ pos x.moment)
has_ended caveat x v e =
    let parts = is_lacking caveat x (Ended v) e in
    let limit = (limit_of-exact caveat v).0 (ended_by (limit_of caveat) (since_of caveat) caveat x v parts.1) in
    (limit, by_lt_z {P = v ≤ℤ pos x.moment} (pos x.moment) v (λ below. absurd (parts.0 (inr (inl (v, limit, below))))) (λ reached. reached))

pub is_ahead : (caveat : List ℕ) (x : Context) (v : ℤ) → lack_of caveat x ≡ Some (Ahead v) → IsLowerBound caveat v × (pos x.moment <ℤ v)
is_ahead caveat x v e =
    let parts = is_lacking caveat x (Ahead v) e in
    let bound = (since_of-exact caveat v).0 (ahead_by (limit_of caveat) (since_of caveat) caveat x v parts.1) in
    (bound, by_lt_z {P = pos x.moment <ℤ v} (pos x.moment) v (λ below. below) (λ reached. absurd (parts.0 (inr (inr (v, bound, reached))))))

-- the nearer of two texts
nearer_than : (caveat best fact : List ℕ)
    → (shared caveat best ≤ shared caveat (nearer caveat best fact)) × (shared caveat fact ≤ shared caveat (nearer caveat best fact))
nearer_than caveat best fact = go (nat_lt (shared caveat best) (shared caveat fact)) refl
  where
    go : (b : Bool) → nat_lt (shared caveat best) (shared caveat fact) ≡ b
        → (shared caveat best ≤ shared caveat (if b then fact else best)) × (shared caveat fact ≤ shared caveat (if b then fact else best))
    go true e = let less = ltb-true (shared caveat best) (shared caveat fact) e in (omega arith, omega arith)
    go false e = (omega arith, ltb-false (shared caveat best) (shared caveat fact) e)

-- the best only comes nearer
comes_nearer : (caveat best : List ℕ) (facts : List (List ℕ)) → shared caveat best ≤ shared caveat (nearest caveat best facts)
comes_nearer caveat best [] = omega arith
comes_nearer caveat best (fact ∷ facts) =
    let here = (nearer_than caveat best fact).0 in
    let later = comes_nearer caveat (nearer caveat best fact) facts in
    omega arith

pub none_is_nearer : (caveat best : List ℕ) (facts : List (List ℕ)) → All (λ fact. shared caveat fact ≤ shared caveat (nearest caveat best facts)) facts
none_is_nearer caveat best [] = All-nil (λ fact. shared caveat fact ≤ shared caveat best)
none_is_nearer caveat best (fact ∷ facts) =
    let here = (nearer_than caveat best fact).1 in
    let later = comes_nearer caveat (nearer caveat best fact) facts in
    All-cons (λ it. shared caveat it ≤ shared caveat (nearest caveat (nearer caveat best fact) facts)) fact facts (omega arith) (none_is_nearer caveat (nearer caveat best fact) facts)
