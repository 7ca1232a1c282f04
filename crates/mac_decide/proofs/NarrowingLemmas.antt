-- Attenuation narrows, and facts only help.
use Rattle.std.proofs.Common.{◌≡◌, ◌↔◌, inl, inr, ℕ, ◌≤◌, ℤ, List, [], ◌∷◌, ◌++◌, append_assoc, arith, refl, sym, ap, ◌∙◌}
use Rattle.std.specs.List.{All, Contains}
use Rattle.std.proofs.lemmas.List.Elements.{All-nil, All-cons, All-head, All-tail, All-append, All-weaker, All-contains_itself}
use Rattle.std.proofs.lemmas.Int.{ints}
use Rattle.mac_hmac.specs.Chain.{extended}
use Rattle.mac_hmac.proofs.ChainLemmas.{extended-append}
use Rattle.mac_token.specs.RawToken.{TokenParts}
use Rattle.mac_decide.specs.declared.context.Context.{Context}
use Rattle.mac_decide.specs.Time.{IsTimeLimit, IsLowerBound}
use Rattle.mac_decide.specs.Minted.{Signs, Minted, minted, add}
use Rattle.mac_decide.specs.Verdict.{Satisfied, Accepts}

-- what holds of each of two lists joined holds of each of them
pub All-left : {X : Type 0} (P : X → Type 0) (xs ys : List X) → All P (xs ++ ys) → All P xs
All-left P [] ys h = All-nil P
All-left P (x ∷ xs) ys h = All-cons P x xs (All-head P x (xs ++ ys) h) (All-left P xs ys (All-tail P x (xs ++ ys) h))

pub All-right : {X : Type 0} (P : X → Type 0) (xs ys : List X) → All P (xs ++ ys) → All P ys
All-right P [] ys h = h
All-right P (x ∷ xs) ys h = All-right P xs ys (All-tail P x (xs ++ ys) h)

-- a minted token with caveats added is minted
pub Minted-add : (keys : List (List ℕ)) (t : TokenParts) (caveats : List (List ℕ)) → Minted keys t → Minted keys (add t caveats)
Minted-add keys t caveats (k, key, within, is, signs) =
    (k, key, within, is, ap (λ s. extended s caveats) signs ∙ sym (extended-append _ t.caveats caveats))

-- the law of attenuation: accepted exactly where it was and the added ones are satisfied
pub Accepts-add : (keys : List (List ℕ)) (t : TokenParts) (caveats : List (List ℕ)) (x : Context) → Minted keys t → Accepts keys (add t caveats) x ↔ (Accepts keys t x × All (λ c. Satisfied c x) caveats)
Accepts-add keys t caveats x h = (
  (λ a. (record { minted = h; satisfied = All-left (λ c. Satisfied c x) t.caveats caveats a.satisfied }, All-right (λ c. Satisfied c x) t.caveats caveats a.satisfied)),
  (λ (a, each). record { minted = Minted-add keys t caveats h; satisfied = All-append (λ c. Satisfied c x) t.caveats caveats a.satisfied each }),
)

-- keys of which one gives the signature gave it
pub Minted-by : (keys : List (List ℕ)) (key : List ℕ) (t : TokenParts) → Contains keys key → Signs key t → Minted keys t
Minted-by keys key t (k, within, is) signs = (k, key, within, is, signs)

-- a minted token is accepted where all its caveats are facts
pub Accepts-minted : (keys : List (List ℕ)) (key location identifier : List ℕ) (caveats : List (List ℕ)) (moment : ℕ) → Contains keys key → Accepts keys (minted key location identifier caveats) (record { moment = moment; facts = caveats })
Accepts-minted keys key location identifier caveats moment among =
    record { minted = Minted-by keys key (minted key location identifier caveats) among refl; satisfied = All-weaker (Contains caveats) (λ c. Satisfied c (record { moment = moment; facts = caveats })) (λ c has. inl has) caveats (All-contains_itself caveats) }

-- caveats added in two runs are those added in one
pub add-add : (t : TokenParts) (first second : List (List ℕ)) → add (add t first) second ≡ add t (first ++ second)
add-add t first second = rw (append_assoc, extended-append)

-- a token minted with caveats is one minted without, and then they added
pub add-minted : (key location identifier : List ℕ) (first second : List (List ℕ)) → add (minted key location identifier first) second ≡ minted key location identifier (first ++ second)
add-minted key location identifier first second = rw extended-append

-- further facts keep a caveat satisfied
pub Satisfied-more : (c : List ℕ) (x : Context) (facts : List (List ℕ)) → ((fact : List ℕ) → Contains x.facts fact → Contains facts fact) → Satisfied c x → Satisfied c (record x { facts = facts })
Satisfied-more c x facts more (inl has) = inl (more c has)
Satisfied-more c x facts more (inr before) = inr before

pub Accepts-more : (keys : List (List ℕ)) (t : TokenParts) (x : Context) (facts : List (List ℕ)) → ((fact : List ℕ) → Contains x.facts fact → Contains facts fact) → Accepts keys t x → Accepts keys t (record x { facts = facts })
Accepts-more keys t x facts more a =
    record { minted = a.minted; satisfied = All-weaker (λ c. Satisfied c x) (λ c. Satisfied c (record x { facts = facts })) (λ c. Satisfied-more c x facts more) t.caveats a.satisfied }

-- other keys accept it too, if the one that gives the signature is among them
pub Accepts-keys : (keys more : List (List ℕ)) (t : TokenParts) (x : Context) → ((key : List ℕ) → Contains keys key → Signs key t → Contains more key) → Accepts keys t x → Accepts more t x
Accepts-keys keys more t x still a =
    let (k, key, within, is, signs) = a.minted in
    record { minted = Minted-by more key t (still key (k, within, is) signs) signs; satisfied = a.satisfied }

-- a caveat that is no bound of time is satisfied by facts alone
pub Satisfied-timeless : (c : List ℕ) (x : Context) (moment : ℕ) → ((v : ℤ) → ¬ (IsTimeLimit c v) × ¬ (IsLowerBound c v)) → Satisfied c x → Satisfied c (record x { moment = moment })
Satisfied-timeless c x moment timeless (inl has) = inl has
Satisfied-timeless c x moment timeless (inr (inl (v, limit, below))) = absurd ((timeless v).0 limit)
Satisfied-timeless c x moment timeless (inr (inr (v, bound, reached))) = absurd ((timeless v).1 bound)

pub Accepts-timeless : (keys : List (List ℕ)) (t : TokenParts) (x : Context) (moment : ℕ) → All (λ c. (v : ℤ) → ¬ (IsTimeLimit c v) × ¬ (IsLowerBound c v)) t.caveats → Accepts keys t x → Accepts keys t (record x { moment = moment })
Accepts-timeless keys t x moment timeless a =
    record { minted = a.minted; satisfied = λ k d within. Satisfied-timeless _ x moment (timeless k d within) (a.satisfied k d within) }

-- what is no lower bound of time was satisfied earlier
pub Satisfied-earlier : (c : List ℕ) (x : Context) (moment : ℕ) → moment ≤ x.moment → ((v : ℤ) → ¬ (IsLowerBound c v)) → Satisfied c x → Satisfied c (record x { moment = moment })
Satisfied-earlier c x moment early none (inl has) = inl has
Satisfied-earlier c x moment early none (inr (inl (v, limit, below))) = inr (inl (v, limit, omega (arith, ints)))
Satisfied-earlier c x moment early none (inr (inr (v, bound, reached))) = absurd (none v bound)

pub Accepts-earlier : (keys : List (List ℕ)) (t : TokenParts) (x : Context) (moment : ℕ) → moment ≤ x.moment → All (λ c. (v : ℤ) → ¬ (IsLowerBound c v)) t.caveats → Accepts keys t x → Accepts keys t (record x { moment = moment })
Accepts-earlier keys t x moment early none a =
    record { minted = a.minted; satisfied = λ k d within. Satisfied-earlier _ x moment early (none k d within) (a.satisfied k d within) }

-- what is no time limit stays satisfied
pub Satisfied-later : (c : List ℕ) (x : Context) (moment : ℕ) → x.moment ≤ moment → ((v : ℤ) → ¬ (IsTimeLimit c v)) → Satisfied c x → Satisfied c (record x { moment = moment })
Satisfied-later c x moment late none (inl has) = inl has
Satisfied-later c x moment late none (inr (inl (v, limit, below))) = absurd (none v limit)
Satisfied-later c x moment late none (inr (inr (v, bound, reached))) = inr (inr (v, bound, omega (arith, ints)))

pub Accepts-later : (keys : List (List ℕ)) (t : TokenParts) (x : Context) (moment : ℕ) → x.moment ≤ moment → All (λ c. (v : ℤ) → ¬ (IsTimeLimit c v)) t.caveats → Accepts keys t x → Accepts keys t (record x { moment = moment })
Accepts-later keys t x moment late none a =
    record { minted = a.minted; satisfied = λ k d within. Satisfied-later _ x moment late (none k d within) (a.satisfied k d within) }
