-- Posts, and the places that they answer.
use Rattle.std.proofs.Common.{◌≡◌, inl, inr, ℕ, zero, suc, ◌+◌, ◌<◌, ◌≤◌, true, false, List, [], ◌∷◌, ◌++◌, length, take, drop, refl, sym, ap, subst, ◌∙◌, arith}
use Rattle.std.specs.Prelude.{Option, Some, None, is_some, slice_get, Contains}
use Rattle.std.specs.FinMap.{FinMap, get, insert, remove, get-insert}
use Rattle.std.proofs.lemmas.Cmp.{nat_cmp_total}
use Rattle.std.specs.Ordering.{nat_cmp}
use Rattle.std.proofs.lemmas.Bool.{cases_lt, false≢true}
use Rattle.std.proofs.lemmas.Bool.Decides.{eqb_tells}
use Rattle.std.proofs.lemmas.Bool.Decides.{nat_tests}
use Rattle.std.proofs.lemmas.List.{take-append-drop, drop_more}
use Rattle.std.proofs.lemmas.List.Elements.{Contains-append_left, Contains-push}
use Rattle.mac_order.specs.Buffer.{Buffer, settle_fault}
use Rattle.mac_order.proofs.Waiting.{tied, get-insert_other, get-remove_same, get-remove_other}
use Rattle.mac_order.specs.declared.reorder.TheConstants.{SLOTS}
use Rattle.mac_order.specs.declared.fault.SettleFault.{SettleFault}
use Rattle.mac_decide.specs.declared.job.Job.{Job}
use Rattle.mac_serve.specs.Posts.{AreAnswered, IsForeign, TookForeign}

slice_get-append : (jobs more : List Job) (place : ℕ) → place < length jobs → slice_get (jobs ++ more) place ≡ slice_get jobs place
slice_get-append [] more place within = absurd (omega arith)
slice_get-append (job ∷ jobs) more zero within = refl
slice_get-append (job ∷ jobs) more (suc place) within = slice_get-append jobs more place (omega arith)

pub slice_get-some : (jobs : List Job) (place : ℕ) → place < length jobs → (job : Job) × (slice_get jobs place ≡ Some job)
slice_get-some [] place within = absurd (omega arith)
slice_get-some (job ∷ jobs) zero within = (job, refl)
slice_get-some (job ∷ jobs) (suc place) within = slice_get-some jobs place (omega arith)

pub slice_get-longer : (jobs more : List Job) (place : ℕ) (job : Job) → slice_get jobs place ≡ Some job → slice_get (jobs ++ more) place ≡ Some job
slice_get-longer [] more place job at = absurd cc
slice_get-longer (first ∷ jobs) more zero job at = at
slice_get-longer (first ∷ jobs) more (suc place) job at = slice_get-longer jobs more place job at

pub none-answered : (jobs : List Job) → AreAnswered jobs 0 []
none-answered jobs place job few at = absurd (omega arith)

pub answered-fewer : (jobs : List Job) (n m : ℕ) (posts : List (ℕ × Option Job)) → n ≤ m → AreAnswered jobs m posts → AreAnswered jobs n posts
answered-fewer jobs n m posts fewer all place job below at = all place job (omega arith) at

pub answered-longer : (jobs more : List Job) (n : ℕ) (posts : List (ℕ × Option Job)) → n ≤ length jobs → AreAnswered jobs n posts → AreAnswered (jobs ++ more) n posts
answered-longer jobs more n posts within all place job below at =
    all place job below (sym (slice_get-append jobs more place (omega arith)) ∙ at)

pub answered-more : (jobs : List Job) (n : ℕ) (posts more : List (ℕ × Option Job)) → AreAnswered jobs n posts → AreAnswered jobs n (posts ++ more)
answered-more jobs n posts more all place job below at = Contains-append_left posts more (place, Some job) (all place job below at)

pub answered-next : (jobs : List Job) (n : ℕ) (posts : List (ℕ × Option Job)) (job : Job) → AreAnswered jobs n posts
    → slice_get jobs n ≡ Some job → Contains posts (n, Some job) → AreAnswered jobs (n + 1) posts
answered-next jobs n posts job all at here place other below there = elim (eqb_tells place n) [
  | inl same ↦ (
      let e : Some job ≡ Some other = sym at ∙ ap (slice_get jobs) (sym same.1) ∙ there in
      let it : job ≡ other = cc in
      subst (λ (entry : ℕ × Option Job). Contains posts entry) (ap (λ (k : ℕ). (k, Some job)) (sym same.1) ∙ ap (λ (j : Job). (place, Some j)) it) here)
  | inr away ↦ all place other (let apart = away.1 in omega (arith, below, apart)) there
]

-- where a post stands among others
pub split_at : (posts : List (ℕ × Option Job)) (entry : ℕ × Option Job) → Contains posts entry
    → (earlier : List (ℕ × Option Job)) × (later : List (ℕ × Option Job)) × (posts ≡ earlier ++ (entry ∷ later))
split_at posts entry (k, within, is) = (
  take k posts,
  drop (k + 1) posts,
  sym (take-append-drop k posts) ∙ ap (λ (l : List (ℕ × Option Job)). take k posts ++ l) (drop_more posts k entry within ∙ ap (λ (e : ℕ × Option Job). e ∷ drop (k + 1) posts) is),
)

-- the posts of a foreign answer that was the last, and of one that was among them
pub took-last : (jobs : List Job) (sent : ℕ) (posts : List (ℕ × Option Job)) (place : ℕ) (job : Job)
    → IsForeign jobs sent posts place job → TookForeign jobs sent (posts ++ (place, Some job) ∷ [])
took-last jobs sent posts place job is = record { earlier = posts; place = place; job = job; later = []; among = refl; is_foreign = is }

pub took-other : (jobs : List Job) (sent : ℕ) (posts : List (ℕ × Option Job)) (place : ℕ) (job other : Job)
    → Contains posts (place, Some job) → slice_get jobs place ≡ Some other → (other ≡ job → ⊥) → TookForeign jobs sent posts
took-other jobs sent posts place job other among at unlike =
    let parts = split_at posts (place, Some job) among in
    record { earlier = parts.0; place = place; job = job; later = parts.1; among = parts.2; is_foreign = inl (other, at, unlike) }

-- among more jobs it is foreign too
pub took-longer : (jobs more : List Job) (sent : ℕ) (posts : List (ℕ × Option Job)) → TookForeign jobs sent posts → TookForeign (jobs ++ more) sent posts
took-longer jobs more sent posts t = record {
  earlier = t.earlier;
  place = t.place;
  job = t.job;
  later = t.later;
  among = t.among;
  is_foreign = foreign-longer jobs more sent t.earlier t.place t.job t.is_foreign;
} where
  foreign-longer : (jobs more : List Job) (sent : ℕ) (earlier : List (ℕ × Option Job)) (place : ℕ) (job : Job)
      → IsForeign jobs sent earlier place job → IsForeign (jobs ++ more) sent earlier place job
  foreign-longer jobs more sent earlier place job (inl h) = inl (h.0, slice_get-longer jobs more place h.0 h.1, h.2)
  foreign-longer jobs more sent earlier place job (inr h) = inr h

is_some-some : (answer : Option Job) → is_some answer ≡ true → (job : Job) × (answer ≡ Some job)
is_some-some None e = absurd (false≢true e)
is_some-some (Some job) e = (job, refl)

-- in the window only a place that has its answer refuses another
twice : (buffer : Buffer Job) (place : ℕ) (why : SettleFault) → buffer.closed ≡ false → buffer.next ≤ place → place < buffer.next + SLOTS
    → settle_fault buffer place ≡ Some why → is_some (get buffer.answers place) ≡ true
twice buffer place why is_open from to is = grind (arith, nat_tests)

-- an answer that can't be settled is foreign
pub settle-foreign : (jobs : List Job) (sent : ℕ) (buffer : Buffer Job) (place : ℕ) (job : Job) (why : SettleFault) (posts : List (ℕ × Option Job))
    → buffer.closed ≡ false → sent ≤ buffer.next → buffer.next ≤ length jobs → AreAnswered jobs buffer.next posts
    → ((at : ℕ) (other : Job) → get buffer.answers at ≡ Some other → Contains posts (at, Some other))
    → settle_fault buffer place ≡ Some why → IsForeign jobs sent posts place job
settle-foreign jobs sent buffer place job why posts is_open behind within all waiting is =
    elim (cases_lt place buffer.next) [
      | inl old ↦ (let there = slice_get-some jobs place (omega arith) in inr (inl (there.0, all place there.0 old there.1)))
      | inr due ↦ elim (cases_lt place (buffer.next + SLOTS)) [
        | inl near ↦ (let there = is_some-some (get buffer.answers place) (twice buffer place why is_open due near is) in inr (inl (there.0, waiting place there.0 there.1)))
        | inr far ↦ inr (inr (omega (arith, far, behind)))
      ]
    ]

-- what waits once an answer was settled
pub waiting-settled : (answers : FinMap nat_cmp Job) (place : ℕ) (job : Job) (posts : List (ℕ × Option Job))
    → ((at : ℕ) (other : Job) → get answers at ≡ Some other → Contains posts (at, Some other))
    → (at : ℕ) (other : Job) → get (insert answers place job) at ≡ Some other → Contains (posts ++ (place, Some job) ∷ []) (at, Some other)
waiting-settled answers place job posts waiting at other is = elim (eqb_tells at place) [
  | inl same ↦ (
      let here : Some job ≡ Some other = sym (get-insert nat_cmp_total answers place job at ∙ rw (tied at place same.1)) ∙ is in
      let it : job ≡ other = cc in
      subst (λ (entry : ℕ × Option Job). Contains (posts ++ (place, Some job) ∷ []) entry)
      (ap (λ (k : ℕ). (k, Some job)) (sym same.1) ∙ ap (λ (j : Job). (at, Some j)) it) (Contains-push posts (place, Some job)))
  | inr away ↦ Contains-append_left posts ((place, Some job) ∷ []) (at, Some other) (waiting at other (sym (get-insert_other answers place job at away.1) ∙ is))
]

-- what waits once a reply was released
pub waiting-released : (answers : FinMap nat_cmp Job) (place : ℕ) (posts : List (ℕ × Option Job))
    → ((at : ℕ) (other : Job) → get answers at ≡ Some other → Contains posts (at, Some other))
    → (at : ℕ) (other : Job) → get (remove answers place) at ≡ Some other → Contains posts (at, Some other)
waiting-released answers place posts waiting at other is = elim (eqb_tells at place) [
  | inl same ↦ (
      let none : None ≡ Some other = sym (ap (get (remove answers place)) same.1 ∙ get-remove_same answers place) ∙ is in
      absurd cc)
  | inr away ↦ waiting at other (sym (get-remove_other answers place at away.1) ∙ is)
]
