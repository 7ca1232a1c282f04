-- Jobs that are found equal hold the same.
use Rattle.std.specs.Prelude.{◌≡◌, refl, ℕ, List, Some, None, Bool, true, false, ◌&&◌}
use Rattle.std.specs.Option.{option_eq}
use Rattle.std.proofs.Common.{ap, sym, ◌∙◌}
use Rattle.std.proofs.lemmas.Bool.{and_parts, false≢true}
use Rattle.mac_keys.specs.declared.keys.Keys.{Keys}
use Rattle.mac_wire.specs.declared.arrival.Arrival.{Arrival}
use Rattle.mac_wire.specs.declared.arrival.Arrival.TheVariants.{Payload, Oversize}
use Rattle.mac_decide.specs.declared.job.Basis.{Basis}
use Rattle.mac_decide.specs.declared.job.Job.{Job}

-- a test that tells payloads apart and the two kinds of arrivals
pub record Tells (test : Arrival → Arrival → Bool) : Type 0 where
  pub payloads : (p q : List ℕ) → test (Payload p) (Payload q) ≡ true → p ≡ q
  pub payload_first : (p : List ℕ) → test (Payload p) Oversize ≡ false
  pub payload_last : (p : List ℕ) → test Oversize (Payload p) ≡ false

same_arrivals : (test : Arrival → Arrival → Bool) → Tells test → (a b : Arrival)
    → test a b ≡ true → a ≡ b
same_arrivals test tells (Payload p) (Payload q) e = ap Payload (tells.payloads p q e)
same_arrivals test tells (Payload p) Oversize e =
    absurd (false≢true (sym (tells.payload_first p) ∙ e))
same_arrivals test tells Oversize (Payload q) e =
    absurd (false≢true (sym (tells.payload_last q) ∙ e))
same_arrivals test tells Oversize Oversize e = refl

-- a test that is met by what is equal alone
abbrev pub TellsApart : {X : Type 0} → (X → X → Bool) → Type 0
TellsApart {X} test = (a b : X) → test a b ≡ true → a ≡ b

same_options : {X : Type 0} (test : X → X → Bool) → TellsApart test → TellsApart (option_eq test)
same_options test tells (Some k) (Some l) e = ap Some (tells k l e)
same_options test tells (Some k) None e = absurd (false≢true e)
same_options test tells None (Some l) e = absurd (false≢true e)
same_options test tells None None e = refl

-- keys whose first and second are found equal are the same
pub same_keys : (test : List ℕ → List ℕ → Bool) → TellsApart test → (k l : Keys)
    → (test k.first l.first && option_eq test k.second l.second) ≡ true → k ≡ l
same_keys test tells k l e =
    let both = and_parts (test k.first l.first) (option_eq test k.second l.second) e in
    let first = tells k.first l.first both.0 in
    let second = same_options test tells k.second l.second both.1 in
    λ i. record { first = first i; second = second i }

-- bases whose keys, two tests and moment are found equal are the same
pub same_bases : (keys : Keys → Keys → Bool) (leaves : Bool → Bool → Bool) (times : ℕ → ℕ → Bool)
    → TellsApart keys → TellsApart leaves → TellsApart times → (a b : Basis)
    → (option_eq keys a.keys b.keys && (leaves a.is_revoked b.is_revoked
    && (leaves a.may_mint b.may_mint && option_eq times a.moment b.moment))) ≡ true → a ≡ b
same_bases keys leaves times keys_tell leaves_tell times_tell a b e =
    let more = and_parts (option_eq keys a.keys b.keys) _ e in
    let alike = option_eq times a.moment b.moment in
    let others = and_parts (leaves a.is_revoked b.is_revoked) _ more.1 in
    let last = and_parts (leaves a.may_mint b.may_mint) alike others.1 in
    let same = same_options keys keys_tell a.keys b.keys more.0 in
    let is_revoked = leaves_tell a.is_revoked b.is_revoked others.0 in
    let may_mint = leaves_tell a.may_mint b.may_mint last.0 in
    let moment = same_options times times_tell a.moment b.moment last.1 in
    λ i. record {
      keys = same i;
      is_revoked = is_revoked i;
      may_mint = may_mint i;
      moment = moment i;
    }

-- jobs whose arrivals and bases are found equal are the same
pub same_jobs : (arrivals : Arrival → Arrival → Bool) (bases : Basis → Basis → Bool)
    → Tells arrivals → TellsApart bases → (a b : Job)
    → (arrivals a.arrival b.arrival && bases a.basis b.basis) ≡ true → a ≡ b
same_jobs arrivals bases tells bases_tell a b e =
    let both = and_parts (arrivals a.arrival b.arrival) (bases a.basis b.basis) e in
    let arrival = same_arrivals arrivals tells a.arrival b.arrival both.0 in
    let basis = bases_tell a.basis b.basis both.1 in
    λ i. record { arrival = arrival i; basis = basis i }
