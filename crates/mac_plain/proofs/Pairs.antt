-- Clients at their places, step by step.
use Rattle.std.proofs.Common.{◌≡◌, ◌≢◌, ℕ, zero, suc, ◌+◌, ◌-◌, ◌≤◌, ◌<◌, List, [], ◌∷◌, ◌++◌, length, map, take, drop, set, get_or, refl, sym, ap, subst, ◌∙◌, append_assoc, arith, inl, inr}
use Rattle.std.proofs.Math.Seq.{take-add}
use Rattle.std.specs.Prelude.{IfSome, Bool, false, Option, Some, None, ◌==◌, slice_get}
use Rattle.std.specs.Arc.{arc_value}
use Rattle.std.specs.List.{filter, AllByRecursion}
use Rattle.std.proofs.lemmas.Option.{slice_get-get_or}
use Rattle.std.proofs.lemmas.Bool.{cases_eq, eq-eqb, ne_eqb}
use Rattle.std.proofs.lemmas.List.{append-nil, length-append, take-append-le, drop-append-le, length-drop, map-append}
use Rattle.std.proofs.lemmas.List.Elements.{All-append, filter-append, recursion_from_All}
use Rattle.mac_board.specs.Noticed.{Current}
use Rattle.mac_wire.specs.declared.arrival.Arrival.TheVariants as arrival
use Rattle.mac_wire.specs.declared.reply.Reply.{Reply}
use Rattle.mac_decide.specs.Prepared.{reply_to_job}
use Rattle.mac_decide.specs.Terms.{Terms}
use Rattle.mac_decide.specs.World.{job_under}
use Rattle.mac_decide.specs.declared.rights.Rights.{Rights}
use Rattle.mac_decide.specs.declared.job.Job.{Job}
use Rattle.mac_plain.specs.Dear.{is_dear}
use Rattle.mac_plain.specs.Client.{Serves, jobs_of, terms_for}
use Rattle.mac_plain.specs.Goes.{AreAnswered, AreRead, Goes, OwesSo}
use Rattle.mac_plain.specs.Requests.{Adds, AreOwned, AreWithin, asked_of, job_at, jobs_at, payload_at}
use Rattle.mac_plain.specs.Receiving.{Receives}
use Rattle.mac_plain.specs.Pairs.{EachPair}
use Rattle.mac_plain.specs.declared.client.Client.{Client}
use Rattle.mac_plain.specs.declared.request.RoundRequest.{RoundRequest}
use Rattle.mac_plain.proofs.Pieces.{none_added}
use Rattle.mac_plain.proofs.Steps.{begins_so, ends_so, goes_still, none_done}

-- ---- what is one owner's

asked-append : (owner : ℕ) (arena : List ℕ) (a b : List RoundRequest) → asked_of owner arena (a ++ b) ≡ asked_of owner arena a ++ asked_of owner arena b
asked-append owner arena a b =
    ap (map (payload_at arena)) (filter-append (λ (r : RoundRequest). r.owner == owner) a b)
    ∙ map-append (payload_at arena) (filter (λ (r : RoundRequest). r.owner == owner) a) (filter (λ (r : RoundRequest). r.owner == owner) b)

-- all of an owner's own requests are its own, and none is another's
pub asked_own : (owner : ℕ) (arena : List ℕ) (own : List RoundRequest) → AreOwned owner own → asked_of owner arena own ≡ map (payload_at arena) own
asked_own owner arena [] owned = refl
asked_own owner arena (r ∷ rs) owned = rw (eq-eqb r.owner owner owned.0) (ap (λ (l : List (List ℕ)). payload_at arena r ∷ l) (asked_own owner arena rs owned.1))

pub asked_other : (owner other : ℕ) (arena : List ℕ) (own : List RoundRequest) → AreOwned owner own → other ≢ owner → asked_of other arena own ≡ []
asked_other owner other arena [] owned differ = refl
asked_other owner other arena (r ∷ rs) owned differ = rw (ne_eqb r.owner other (λ e. differ (sym e ∙ owned.0))) (asked_other owner other arena rs owned.1 differ)

-- what lies behind changes nothing of what lies there
payload_kept : (arena part : List ℕ) (r : RoundRequest) → (r.start ≤ r.end) × (r.end ≤ length arena) → payload_at (arena ++ part) r ≡ payload_at arena r
payload_kept arena part r (starts, ends) =
    ap (take (r.end - r.start)) (drop-append-le r.start arena part (omega arith))
    ∙ take-append-le (r.end - r.start) (drop r.start arena) part (omega (arith, length-drop r.start arena))

asked_kept_by : (owner : ℕ) (arena part : List ℕ) (rs : List RoundRequest) → AllByRecursion (λ (r : RoundRequest). (r.start ≤ r.end) × (r.end ≤ length arena)) rs
    → asked_of owner (arena ++ part) rs ≡ asked_of owner arena rs
asked_kept_by owner arena part [] within = refl
asked_kept_by owner arena part (r ∷ rs) within = elim (cases_eq r.owner owner) [
  | inl mine ↦ rw (eq-eqb r.owner owner mine)
      (ap (λ (p : List ℕ). p ∷ asked_of owner (arena ++ part) rs) (payload_kept arena part r within.0) ∙ ap (λ (l : List (List ℕ)). payload_at arena r ∷ l) (asked_kept_by owner arena part rs within.1))
  | inr other ↦ rw (ne_eqb r.owner owner other) (asked_kept_by owner arena part rs within.1)
]

pub asked_kept : (owner : ℕ) (arena part : List ℕ) (rs : List RoundRequest) → AreWithin (length arena) rs → asked_of owner (arena ++ part) rs ≡ asked_of owner arena rs
asked_kept owner arena part rs within = asked_kept_by owner arena part rs (recursion_from_All (λ (r : RoundRequest). (r.start ≤ r.end) × (r.end ≤ length arena)) rs within)

-- ---- two steps of one client

abbrev under : Current → Rights → Terms
under current rights = record { table = current.table; rights = rights; moment = current.moment }

-- rights that stay give the same terms
terms_kept : {P : Type 0} (current : Current) (a b : Client P) → b.rights ≡ a.rights → terms_for current b ≡ terms_for current a
terms_kept current a b kept = ap (λ rights. under current (arc_value rights)) kept

-- more is owed, and more again
pub owes_more : {P : Type 0} (tells : Bool) (taken written : P → List ℕ) (current : Current) (a b c : Client P) (first second : List (List ℕ))
    → Goes tells taken written current a b [] first → Goes tells taken written current b c [] second → Goes tells taken written current a c [] (first ++ second)
owes_more {P} tells taken written current a b c first second x y = record {
  came = x.came ++ y.came;
  gone = x.gone ++ y.gone;
  rights_kept = y.rights_kept ∙ x.rights_kept;
  cheap = All-append (λ (p : List ℕ). is_dear p ≡ false) first second x.cheap y.cheap;
  took = λ told. y.took told ∙ ap (λ (l : List ℕ). l ++ y.came) (x.took told) ∙ append_assoc (taken a.port) x.came y.came;
  wrote = λ told. y.wrote told ∙ ap (λ (l : List ℕ). l ++ y.gone) (x.wrote told) ∙ append_assoc (written a.port) x.gone y.gone;
  goes_on = λ read sent done owed o. joined read sent done owed
      (y.goes_on (read ++ x.came) (sent ++ x.gone) (done ++ []) (owed ++ first) (x.goes_on read sent done owed o));
} where
  joined : (read sent : List ℕ) (done : List Job) (owed : List (List ℕ)) → OwesSo c.course c.session ((read ++ x.came) ++ y.came) ((sent ++ x.gone) ++ y.gone) ((done ++ []) ++ []) ((owed ++ first) ++ second)
      → OwesSo c.course c.session (read ++ (x.came ++ y.came)) (sent ++ (x.gone ++ y.gone)) (done ++ []) (owed ++ (first ++ second))
  joined read sent done owed o =
      rw (← append_assoc read x.came y.came, ← append_assoc sent x.gone y.gone, ← append_assoc owed first second) (subst (λ (l : List Job). OwesSo c.course c.session ((read ++ x.came) ++ y.came) ((sent ++ x.gone) ++ y.gone) l ((owed ++ first) ++ second)) (append-nil (done ++ [])) o)

-- some are answered, and others after them
pub answers_more : {P : Type 0} (tells : Bool) (taken written : P → List ℕ) (current : Current) (a b c : Client P) (first second : List (List ℕ))
    → Goes tells taken written current a b first [] → Goes tells taken written current b c second [] → Goes tells taken written current a c (first ++ second) []
answers_more {P} tells taken written current a b c first second x y = record {
  came = x.came ++ y.came;
  gone = x.gone ++ y.gone;
  rights_kept = y.rights_kept ∙ x.rights_kept;
  cheap = x.cheap;
  took = λ told. y.took told ∙ ap (λ (l : List ℕ). l ++ y.came) (x.took told) ∙ append_assoc (taken a.port) x.came y.came;
  wrote = λ told. y.wrote told ∙ ap (λ (l : List ℕ). l ++ y.gone) (x.wrote told) ∙ append_assoc (written a.port) x.gone y.gone;
  goes_on = λ read sent done owed o. joined read sent done owed
      (subst (λ (t : Terms). OwesSo c.course c.session ((read ++ x.came) ++ y.came) ((sent ++ x.gone) ++ y.gone) ((done ++ jobs_of (terms_for current a) first) ++ jobs_of t second) (owed ++ [])) (terms_kept current a b x.rights_kept)
      (y.goes_on (read ++ x.came) (sent ++ x.gone) (done ++ jobs_of (terms_for current a) first) owed
      (subst (λ (l : List (List ℕ)). OwesSo b.course b.session (read ++ x.came) (sent ++ x.gone) (done ++ jobs_of (terms_for current a) first) l) (append-nil (second ++ owed))
      (x.goes_on read sent done (second ++ owed) (subst (λ (l : List (List ℕ)). OwesSo a.course a.session read sent done l) (append_assoc first second owed) o)))));
} where
  joined : (read sent : List ℕ) (done : List Job) (owed : List (List ℕ)) → OwesSo c.course c.session ((read ++ x.came) ++ y.came) ((sent ++ x.gone) ++ y.gone) ((done ++ jobs_of (terms_for current a) first) ++ jobs_of (terms_for current a) second) (owed ++ [])
      → OwesSo c.course c.session (read ++ (x.came ++ y.came)) (sent ++ (x.gone ++ y.gone)) (done ++ jobs_of (terms_for current a) (first ++ second)) (owed ++ [])
  joined read sent done owed o =
      rw (← append_assoc read x.came y.came, ← append_assoc sent x.gone y.gone, map-append (λ (p : List ℕ). job_under (terms_for current a) (arrival.Payload p)) first second, ← append_assoc done (jobs_of (terms_for current a) first) (jobs_of (terms_for current a) second)) o

-- a whole round of one client: it is read, all that it owes is answered, and it is written to
pub serves : {P : Type 0} (tells : Bool) (taken written : P → List ℕ) (current : Current) (a b c d : Client P) (payloads : List (List ℕ))
    → Goes tells taken written current a b [] payloads → Goes tells taken written current b c payloads [] → Goes tells taken written current c d [] []
    → Serves tells taken written current a d
serves {P} tells taken written current a b c d payloads x y z = record {
  rights_kept = z.rights_kept ∙ (y.rights_kept ∙ x.rights_kept);
  payloads = payloads;
  cheap = x.cheap;
  answers = record {
    came = x.came ++ (y.came ++ z.came);
    gone = x.gone ++ (y.gone ++ z.gone);
    took = λ told. z.took told ∙ ap (λ (l : List ℕ). l ++ z.came) (y.took told ∙ ap (λ (l : List ℕ). l ++ y.came) (x.took told)) ∙ three (taken a.port) x.came y.came z.came;
    wrote = λ told. z.wrote told ∙ ap (λ (l : List ℕ). l ++ z.gone) (y.wrote told ∙ ap (λ (l : List ℕ). l ++ y.gone) (x.wrote told)) ∙ three (written a.port) x.gone y.gone z.gone;
    goes_on = λ read sent done h. ends_so d.course d.session (read ++ (x.came ++ (y.came ++ z.came))) (sent ++ (x.gone ++ (y.gone ++ z.gone))) (done ++ jobs_of (terms_for current a) payloads)
        (joined read sent done (z.goes_on ((read ++ x.came) ++ y.came) ((sent ++ x.gone) ++ y.gone) ((done ++ []) ++ jobs_of (terms_for current a) payloads) []
        (subst (λ (t : Terms). OwesSo c.course c.session ((read ++ x.came) ++ y.came) ((sent ++ x.gone) ++ y.gone) ((done ++ []) ++ jobs_of t payloads) []) (terms_kept current a b x.rights_kept)
        (y.goes_on (read ++ x.came) (sent ++ x.gone) (done ++ []) []
        (subst (λ (l : List (List ℕ)). OwesSo b.course b.session (read ++ x.came) (sent ++ x.gone) (done ++ []) l) (sym (append-nil payloads))
        (x.goes_on read sent done [] (begins_so a.course a.session read sent done h)))))));
  };
} where
  three : (p q r s : List ℕ) → ((p ++ q) ++ r) ++ s ≡ p ++ (q ++ (r ++ s))
  three p q r s = append_assoc (p ++ q) r s ∙ append_assoc p q (r ++ s)

  joined : (read sent : List ℕ) (done : List Job) → OwesSo d.course d.session (((read ++ x.came) ++ y.came) ++ z.came) (((sent ++ x.gone) ++ y.gone) ++ z.gone) (((done ++ []) ++ jobs_of (terms_for current a) payloads) ++ []) []
      → OwesSo d.course d.session (read ++ (x.came ++ (y.came ++ z.came))) (sent ++ (x.gone ++ (y.gone ++ z.gone))) (done ++ jobs_of (terms_for current a) payloads) []
  joined read sent done o =
      subst (λ (l : List ℕ). OwesSo d.course d.session l (sent ++ (x.gone ++ (y.gone ++ z.gone))) (done ++ jobs_of (terms_for current a) payloads) []) (three read x.came y.came z.came)
      (subst (λ (l : List ℕ). OwesSo d.course d.session (((read ++ x.came) ++ y.came) ++ z.came) l (done ++ jobs_of (terms_for current a) payloads) []) (three sent x.gone y.gone z.gone)
      (subst (λ (l : List Job). OwesSo d.course d.session (((read ++ x.came) ++ y.came) ++ z.came) (((sent ++ x.gone) ++ y.gone) ++ z.gone) l [])
      (append-nil ((done ++ []) ++ jobs_of (terms_for current a) payloads) ∙ ap (λ (l : List Job). l ++ jobs_of (terms_for current a) payloads) (append-nil done)) o))

-- ---- many clients

some_is : {A : Type 0} (x y : A) → Some x ≡ Some y → x ≡ y
some_is x y e = cc

none_is : {A : Type 0} (x : A) → Some x ≡ None → ⊥
none_is x e = absurd cc

pub below : {A : Type 0} (xs : List A) (k : ℕ) (x : A) → slice_get xs k ≡ Some x → k < length xs
below [] k x e = absurd cc
below (y ∷ xs) zero x e = omega arith
below (y ∷ xs) (suc k) x e = let less = below xs k x e in omega arith

-- the element at a place after a write
get-set : {A : Type 0} (xs : List A) (i : ℕ) (v x : A) → slice_get (set xs i v) i ≡ Some x → v ≡ x
get-set [] i v x e = absurd cc
get-set (y ∷ xs) zero v x e = some_is v x e
get-set (y ∷ xs) (suc i) v x e = get-set xs i v x e

get-set_other : {A : Type 0} (xs : List A) (i k : ℕ) (v : A) → k ≢ i → slice_get (set xs i v) k ≡ slice_get xs k
get-set_other [] i k v differ = refl
get-set_other (y ∷ xs) zero zero v differ = absurd (differ refl)
get-set_other (y ∷ xs) zero (suc k) v differ = refl
get-set_other (y ∷ xs) (suc i) zero v differ = refl
get-set_other (y ∷ xs) (suc i) (suc k) v differ = get-set_other xs i k v (λ e. differ (ap suc e))

-- where there is an element after a step, there was one before
get-length : {A B : Type 0} (xs : List A) (ys : List B) (k : ℕ) (y : B) → length xs ≡ length ys → slice_get ys k ≡ Some y → (x : A) × (slice_get xs k ≡ Some x)
get-length [] [] k y same e = absurd cc
get-length (x ∷ xs) [] k y same e = absurd cc
get-length [] (z ∷ ys) k y same e = absurd (omega arith)
get-length (x ∷ xs) (z ∷ ys) zero y same e = (x, refl)
get-length (x ∷ xs) (z ∷ ys) (suc k) y same e = get-length xs ys k y (omega (arith, same)) e

pub each_same : {A : Type 0} (R : ℕ → A → A → Type 0) (xs : List A) → ((k : ℕ) (x : A) → slice_get xs k ≡ Some x → R k x x) → EachPair R xs xs
each_same R xs same k x y first second = subst (R k x) (some_is x y (sym first ∙ second)) (same k x first)

-- a step of each, and another
pub each_then : {A : Type 0} (R S Q : ℕ → A → A → Type 0) (xs ys zs : List A) → length ys ≡ length zs → EachPair R xs ys → EachPair S ys zs
    → ((k : ℕ) (x y z : A) → R k x y → S k y z → Q k x z) → EachPair Q xs zs
each_then R S Q xs ys zs same one two both k x z first last =
    let m = get-length ys zs k z same last in
    both k x m.0 z (one k x m.0 first m.1) (two k m.0 z m.1 last)

-- a step of the one at a place, which changes nothing for the others
pub each_set : {A : Type 0} (R Q : ℕ → A → A → Type 0) (xs ys : List A) (i : ℕ) (now next : A) → EachPair R xs ys → slice_get ys i ≡ Some now
    → ((x : A) → R i x now → Q i x next) → ((k : ℕ) (x y : A) → k ≢ i → R k x y → Q k x y) → EachPair Q xs (set ys i next)
each_set R Q xs ys i now next are there step others k x z first last = elim (cases_eq k i) [
  | inl same ↦
      let at : slice_get (set ys i next) i ≡ Some z = ap (slice_get (set ys i next)) (sym same) ∙ last in
      let is : next ≡ z = get-set ys i next z at in
      subst (λ (n : ℕ). Q n x z) (sym same) (subst (Q i x) is (step x (subst (λ (n : ℕ). R n x now) same (are k x now first (ap (slice_get ys) same ∙ there)))))
  | inr differ ↦ others k x z differ (are k x z first (sym (get-set_other ys i k next differ) ∙ last))
]

-- ---- a round's steps over all clients

-- nothing is done, and nothing owed
pub nothing_goes : {P : Type 0} (tells : Bool) (taken written : P → List ℕ) (current : Current) (x : Client P) → Goes tells taken written current x x [] []
nothing_goes tells taken written current x =
    goes_still tells taken written current x x [] refl refl (λ read sent done owed o. none_done x.course x.session read sent done owed o)

-- of no client anything
pub nobody_goes : {P : Type 0} (tells : Bool) (taken written : P → List ℕ) (current : Current) (xs : List (Client P)) → EachPair (λ _ (b a : Client P). Goes tells taken written current b a [] []) xs xs
nobody_goes {P} tells taken written current xs =
    each_same (λ _ (b a : Client P). Goes tells taken written current b a [] []) xs (λ k x there. nothing_goes tells taken written current x)

pub still_read : {P : Type 0} (tells : Bool) (taken written : P → List ℕ) (current : Current) (arena : List ℕ) (requests : List RoundRequest) (xs : List (Client P)) → requests ≡ []
    → AreRead tells taken written current (λ k. asked_of k arena requests) xs xs
still_read {P} tells taken written current arena requests xs none =
    each_same (λ k (b a : Client P). Goes tells taken written current b a [] (asked_of k arena requests)) xs
    (λ k x there. subst (λ (l : List RoundRequest). Goes tells taken written current x x [] (asked_of k arena l)) (sym none) (nothing_goes tells taken written current x))

-- one more client was read
pub one_read : {P : Type 0} (tells : Bool) (taken written : P → List ℕ) (current : Current) (olds news : List (Client P)) (i : ℕ) (now next : Client P) (arena arena' : List ℕ) (requests requests' : List RoundRequest)
    → slice_get news i ≡ Some now → AreWithin (length arena) requests → Receives tells taken written current i now next arena arena' requests requests'
    → AreRead tells taken written current (λ k. asked_of k arena requests) olds news
    → AreRead tells taken written current (λ k. asked_of k arena' requests') olds (set news i next)
one_read {P} tells taken written current olds news i now next arena arena' requests requests' there within r are =
    each_set (λ k (b a : Client P). Goes tells taken written current b a [] (asked_of k arena requests)) (λ k (b a : Client P). Goes tells taken written current b a [] (asked_of k arena' requests'))
    olds news i now next are there
    (λ x g. subst (λ (l : List (List ℕ)). Goes tells taken written current x next [] l)
    (ap (λ (l : List (List ℕ)). asked_of i arena requests ++ l) (sym (asked_own i arena' r.own r.adds.owned)) ∙ sym (parts i))
    (owes_more tells taken written current x now next (asked_of i arena requests) (map (payload_at arena') r.own) g r.goes))
    (λ k x y differ g. subst (λ (l : List (List ℕ)). Goes tells taken written current x y [] l)
    (sym (append-nil (asked_of k arena requests)) ∙ ap (λ (l : List (List ℕ)). asked_of k arena requests ++ l) (sym (asked_other i k arena' r.own r.adds.owned differ)) ∙ sym (parts k)) g)
  where
    parts : (k : ℕ) → asked_of k arena' requests' ≡ asked_of k arena requests ++ asked_of k arena' r.own
    parts k =
        ap (asked_of k arena') r.adds.are ∙ asked-append k arena' requests r.own
        ∙ ap (λ (l : List (List ℕ)). l ++ asked_of k arena' r.own) (ap (λ (l : List ℕ). asked_of k l requests) r.arena_is ∙ asked_kept k arena r.part requests within)

-- some requests were answered, and others after them
pub more_answered : {P : Type 0} (tells : Bool) (taken written : P → List ℕ) (current : Current) (arena : List ℕ) (first second : List RoundRequest) (xs ys zs : List (Client P)) → length ys ≡ length zs
    → AreAnswered tells taken written current (λ k. asked_of k arena first) xs ys → AreAnswered tells taken written current (λ k. asked_of k arena second) ys zs
    → AreAnswered tells taken written current (λ k. asked_of k arena (first ++ second)) xs zs
more_answered {P} tells taken written current arena first second xs ys zs same one two =
    each_then (λ k (b a : Client P). Goes tells taken written current b a (asked_of k arena first) []) (λ k (b a : Client P). Goes tells taken written current b a (asked_of k arena second) [])
    (λ k (b a : Client P). Goes tells taken written current b a (asked_of k arena (first ++ second)) []) xs ys zs same one two
    (λ k x y z f s. subst (λ (l : List (List ℕ)). Goes tells taken written current x z l []) (sym (asked-append k arena first second))
    (answers_more tells taken written current x y z (asked_of k arena first) (asked_of k arena second) f s))

-- the request of a client that isn't there
pub nobody_answered : {P : Type 0} (tells : Bool) (taken written : P → List ℕ) (current : Current) (arena : List ℕ) (r : RoundRequest) (xs : List (Client P)) → length xs ≤ r.owner
    → AreAnswered tells taken written current (λ k. asked_of k arena (r ∷ [])) xs xs
nobody_answered {P} tells taken written current arena r xs out =
    each_same (λ k (b a : Client P). Goes tells taken written current b a (asked_of k arena (r ∷ [])) []) xs
    (λ k x there. subst (λ (l : List (List ℕ)). Goes tells taken written current x x l [])
    (sym (asked_other r.owner k arena (r ∷ []) (refl, tt) (λ e. let less = below xs k x there in absurd (omega (arith, less, out, e)))))
    (nothing_goes tells taken written current x))

-- one client took the reply to its request
pub one_answered : {P : Type 0} (tells : Bool) (taken written : P → List ℕ) (current : Current) (arena : List ℕ) (r : RoundRequest) (xs : List (Client P)) (now next : Client P) → slice_get xs r.owner ≡ Some now
    → Goes tells taken written current now next (payload_at arena r ∷ []) []
    → AreAnswered tells taken written current (λ k. asked_of k arena (r ∷ [])) xs (set xs r.owner next)
one_answered {P} tells taken written current arena r xs now next there g =
    each_set (λ k (b a : Client P). b ≡ a) (λ k (b a : Client P). Goes tells taken written current b a (asked_of k arena (r ∷ [])) [])
    xs xs r.owner now next (each_same (λ k (b a : Client P). b ≡ a) xs (λ k x there. refl)) there
    (λ x same. subst (λ (b : Client P). Goes tells taken written current b next (asked_of r.owner arena (r ∷ [])) []) (sym same)
    (subst (λ (l : List (List ℕ)). Goes tells taken written current now next l []) (sym (asked_own r.owner arena (r ∷ []) (refl, tt))) g))
    (λ k x y differ same. subst (λ (l : List (List ℕ)). Goes tells taken written current x y l []) (sym (asked_other r.owner k arena (r ∷ []) (refl, tt) differ))
    (subst (λ (a : Client P). Goes tells taken written current x a [] []) same (nothing_goes tells taken written current x)))

-- one more client was written to
pub one_flushed : {P : Type 0} (tells : Bool) (taken written : P → List ℕ) (current : Current) (xs ys : List (Client P)) (i : ℕ) (now next : Client P) → slice_get ys i ≡ Some now
    → Goes tells taken written current now next [] [] → AreRead tells taken written current (λ _. []) xs ys → AreRead tells taken written current (λ _. []) xs (set ys i next)
one_flushed {P} tells taken written current xs ys i now next there g are =
    each_set (λ k (b a : Client P). Goes tells taken written current b a [] []) (λ k (b a : Client P). Goes tells taken written current b a [] []) xs ys i now next are there
    (λ x first. answers_more tells taken written current x now next [] [] first g) (λ k x y differ first. first)

-- all three steps of a round
pub all_served : {P : Type 0} (tells : Bool) (taken written : P → List ℕ) (current : Current) (owed : ℕ → List (List ℕ)) (xs bs cs ds : List (Client P)) → length bs ≡ length cs → length cs ≡ length ds
    → AreRead tells taken written current owed xs bs → AreAnswered tells taken written current owed bs cs → AreRead tells taken written current (λ _. []) cs ds
    → EachPair (λ k (b a : Client P). Serves tells taken written current b a) xs ds
all_served {P} tells taken written current owed xs bs cs ds first second one two three =
    each_then (λ k (a c : Client P). (b : Client P) × Goes tells taken written current a b [] (owed k) × Goes tells taken written current b c (owed k) [])
    (λ k (c d : Client P). Goes tells taken written current c d [] []) (λ k (a d : Client P). Serves tells taken written current a d) xs cs ds second
    (each_then (λ k (a b : Client P). Goes tells taken written current a b [] (owed k)) (λ k (b c : Client P). Goes tells taken written current b c (owed k) [])
    (λ k (a c : Client P). (b : Client P) × Goes tells taken written current a b [] (owed k) × Goes tells taken written current b c (owed k) []) xs bs cs first one two (λ k a b c x y. (b, x, y)))
    three (λ k a c d x z. serves tells taken written current a x.0 c d (owed k) x.1 x.2 z)

pub within_more : (room more : ℕ) (rs : List RoundRequest) → room ≤ more → AreWithin room rs → AreWithin more rs
within_more room more rs less within k d there = let w = within k d there in (w.0, omega (arith, w.1, less))

-- the requests that a read added lie within, as the others
pub within_added : (arena arena' part : List ℕ) (owner : ℕ) (requests requests' own : List RoundRequest) → arena' ≡ arena ++ part → AreWithin (length arena) requests
    → Adds owner (length arena') requests requests' own → AreWithin (length arena') requests'
within_added arena arena' part owner requests requests' own is within adds =
    subst (AreWithin (length arena')) (sym adds.are)
    (All-append (λ (r : RoundRequest). (r.start ≤ r.end) × (r.end ≤ length arena')) requests own
    (within_more (length arena) (length arena') requests (omega (arith, ap length is, length-append arena part)) within) adds.within)

-- the element that was read by index
pub read_at : {A : Type 0} (xs : List A) (i : ℕ) (x : A) → i < length xs → x ≡ get_or xs i x → slice_get xs i ≡ Some x
read_at {A} xs i x there is = slice_get-get_or xs i x there ∙ ap (λ (y : A). Some y) (sym is)

-- a client that isn't read
pub nothing_received : {P : Type 0} (tells : Bool) (taken written : P → List ℕ) (current : Current) (owner : ℕ) (x : Client P) (arena : List ℕ) (requests : List RoundRequest)
    → Receives tells taken written current owner x x arena arena requests requests
nothing_received tells taken written current owner x arena requests = record {
  part = [];
  arena_is = sym (append-nil arena);
  own = [];
  adds = none_added owner (length arena) requests;
  goes = nothing_goes tells taken written current x;
}

-- ---- the requests of a run

-- those before a place, and those from there on up to another
pub run_more : (at end : ℕ) (xs : List RoundRequest) → at ≤ end → take at xs ++ take (end - at) (drop at xs) ≡ take end xs
run_more at end xs less = sym (take-add at (end - at) xs) ∙ ap (λ (n : ℕ). take n xs) (let e : at + (end - at) ≡ end = omega arith in e)

first_of_rest : (i : ℕ) (xs : List RoundRequest) (d : RoundRequest) → i < length xs → take 1 (drop i xs) ≡ get_or xs i d ∷ []
first_of_rest i [] d there = absurd (omega arith)
first_of_rest zero (x ∷ xs) d there = refl
first_of_rest (suc i) (x ∷ xs) d there = first_of_rest i xs d (omega arith)

-- one request
pub run_one : (i : ℕ) (xs : List RoundRequest) (d : RoundRequest) → i < length xs → take ((i + 1) - i) (drop i xs) ≡ get_or xs i d ∷ []
run_one i xs d there = ap (λ (n : ℕ). take n (drop i xs)) (let e : (i + 1) - i ≡ 1 = omega arith in e) ∙ first_of_rest i xs d there

-- one request alone
pub one_alone : (xs : List RoundRequest) (d : RoundRequest) → length xs ≡ 1 → xs ≡ get_or xs 0 d ∷ []
one_alone [] d e = absurd cc
one_alone (x ∷ []) d e = refl
one_alone (x ∷ y ∷ xs) d e = absurd cc

-- the reply at a place is that to the request there
pub answered_at : {P : Type 0} (current : Current) (clients : List (Client P)) (arena : List ℕ) (run : List RoundRequest) (i : ℕ) (d : RoundRequest) (reply : Reply) → slice_get (map reply_to_job (jobs_at current clients arena run)) i ≡ Some reply
    → reply ≡ reply_to_job (job_at current arena (get_or run i d) (slice_get clients (get_or run i d).owner))
answered_at current clients arena [] i d reply e = absurd cc
answered_at current clients arena (r ∷ rs) zero d reply e = sym (some_is (reply_to_job (job_at current arena r (slice_get clients r.owner))) reply e)
answered_at current clients arena (r ∷ rs) (suc i) d reply e = answered_at current clients arena rs i d reply e

-- clients that were answered keep their rights, so that the job of a request is the same under them
pub job_kept : {P : Type 0} (tells : Bool) (taken written : P → List ℕ) (current : Current) (owed : ℕ → List (List ℕ)) (arena : List ℕ) (r : RoundRequest) (xs ys : List (Client P)) → length xs ≡ length ys
    → AreAnswered tells taken written current owed xs ys → job_at current arena r (slice_get xs r.owner) ≡ job_at current arena r (slice_get ys r.owner)
job_kept {P} tells taken written current owed arena r xs ys same are = by_both (slice_get xs r.owner) (slice_get ys r.owner) refl refl
  where
    by_both : (o p : Option (Client P)) → slice_get xs r.owner ≡ o → slice_get ys r.owner ≡ p → job_at current arena r o ≡ job_at current arena r p
    by_both None None e f = refl
    by_both (Some x) None e f = let m = get-length ys xs r.owner x (sym same) e in absurd (none_is m.0 (sym m.1 ∙ f))
    by_both None (Some y) e f = let m = get-length xs ys r.owner y same f in absurd (none_is m.0 (sym m.1 ∙ e))
    by_both (Some x) (Some y) e f =
        ap (λ (t : Terms). job_under t (arrival.Payload (payload_at arena r))) (sym (terms_kept current x y (are r.owner x y e f).rights_kept))

pub some_then : {A : Type 0} (P Q : A → Type 0) (o : Option A) → ((x : A) → P x → Q x) → IfSome o P → IfSome o Q
some_then P Q (Some x) f h = f x h
some_then P Q None f h = h
