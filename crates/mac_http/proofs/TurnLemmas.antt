-- Turns one behind the other, and turns from the begin of a connection.
use Rattle.std.proofs.Common.{◌≡◌, ℕ, ◌+◌, Bool, List, [], ◌++◌, take, Option, Some, None, refl, subst, sym, ap, ◌∙◌, append-nil, append_assoc}
use Rattle.std.specs.Prelude.{count_by}
use Rattle.std.specs.Io.KnownBytes.{Appends, Consumes, Keeps}
use Rattle.std.specs.List.{AllZip}
use Rattle.http.specs.declared.request.Request.{Request}
use Rattle.http_server.specs.declared.connection.Connection.{Connection}
use Rattle.http_server.specs.declared.response.Response.{Response}
use Rattle.http_server.specs.declared.state.Config.{Config}
use Rattle.http_server.specs.Connection.{config_of, history}
use Rattle.http_server.specs.Exchange.{Call, Calls}
use Rattle.http_server.specs.History.{History, IsQuiet, IsServed, after_read, after_sent, new_history}
use Rattle.http_server.proofs.KnownLemmas.{Appends-kept, Appends-then, Consumes-then}
use Rattle.http_server.proofs.StreamLemmas.{Calls-none, Calls-then}
use Rattle.http_server.proofs.Theorems.{always_served}
use Rattle.mac_http.specs.declared.attending.TheConstants.{CONFIG}
use Rattle.mac_http.specs.Faced.{FaceState, IsFaced, IsRight, is_noted}
use Rattle.mac_http.specs.Turn.{AnswersOnce, IsTurn, NotesCalls}
use Rattle.mac_http.proofs.CallLemmas.{right_each}

pub turn_then : {S : Type 0} (answers : S → Request (List ℕ) → Response → S → Type 0) (u v w x y z : Option (List ℕ)) (r s t : S) (a b c : Connection)
    → IsTurn answers u v x y r s a b → IsTurn answers v w y z s t b c → IsTurn answers u w x z r t a c
turn_then answers u v w x y z r s t a b c one two = record {
  read = (
    one.read.0 ++ two.read.0,
    Consumes-then u v w one.read.0 two.read.0 one.read.1 two.read.1,
    two.read.2 ∙ ap (λ (l : List ℕ). l ++ two.read.0) one.read.2 ∙ append_assoc (history a).received one.read.0 two.read.0,
  );
  written = (
    one.written.0 ++ two.written.0,
    Appends-then x y z one.written.0 two.written.0 one.written.1 two.written.1,
    two.written.2 ∙ ap (λ (l : List ℕ). l ++ two.written.0) one.written.2 ∙ append_assoc (history a).sent one.written.0 two.written.0,
  );
  calls = Calls-then answers r s t (history a).calls (history b).calls (history c).calls one.calls two.calls;
  config = two.config ∙ one.config;
}

consumes_nothing : (u : Option (List ℕ)) → Consumes u u []
consumes_nothing None = tt
consumes_nothing (Some xs) = refl

appends_nothing : (x : Option (List ℕ)) → Appends x x []
appends_nothing None = tt
appends_nothing (Some xs) = sym (append-nil xs)

-- a read
pub read_turn : {S : Type 0} (answers : S → Request (List ℕ) → Response → S → Type 0) (u v x : Option (List ℕ)) (s : S) (a b : Connection) (more : List ℕ)
    → Consumes u v more → history b ≡ after_read (history a) more → config_of b ≡ config_of a → IsTurn answers u v x x s s a b
read_turn answers u v x s a b more came next config = record {
  read = (more, came, ap (λ (h : History). h.received) next);
  written = ([], appends_nothing x, ap (λ (h : History). h.sent) next ∙ sym (append-nil (history a).sent));
  calls = Calls-none answers s s (history a).calls (history b).calls refl (ap (λ (h : History). h.calls) next);
  config = config;
}

-- no read
pub same_turn : {S : Type 0} (answers : S → Request (List ℕ) → Response → S → Type 0) (u v x : Option (List ℕ)) (s : S) (a b : Connection)
    → v ≡ u → b ≡ a → IsTurn answers u v x x s s a b
same_turn answers u v x s a b still same = record {
  read = ([], subst (λ w. Consumes u w []) (sym still) (consumes_nothing u), ap (λ k. (history k).received) same ∙ sym (append-nil (history a).received));
  written = ([], appends_nothing x, ap (λ k. (history k).sent) same ∙ sym (append-nil (history a).sent));
  calls = Calls-none answers s s (history a).calls (history b).calls refl (ap (λ k. (history k).calls) same);
  config = ap (λ k. config_of k) same;
}

-- answers
pub advance_turn : {S : Type 0} (answers : S → Request (List ℕ) → Response → S → Type 0) (u x : Option (List ℕ)) (s t : S) (a b : Connection)
    → IsQuiet (history a) (history b) → Calls answers s t (history a).calls (history b).calls → config_of b ≡ config_of a → IsTurn answers u u x x s t a b
advance_turn answers u x s t a b quiet calls config = record {
  read = ([], consumes_nothing u, quiet.0 ∙ sym (append-nil (history a).received));
  written = ([], appends_nothing x, quiet.2 ∙ sym (append-nil (history a).sent));
  calls = calls;
  config = config;
}

-- a write
pub write_turn : {S : Type 0} (answers : S → Request (List ℕ) → Response → S → Type 0) (u x y : Option (List ℕ)) (s : S) (a b : Connection) (count : ℕ)
    → history b ≡ after_sent (history a) count → Appends x y (take count (history a).pending) → config_of b ≡ config_of a → IsTurn answers u u x y s s a b
write_turn answers u x y s a b count next went config = record {
  read = ([], consumes_nothing u, ap (λ (h : History). h.received) next ∙ sym (append-nil (history a).received));
  written = (take count (history a).pending, went, ap (λ (h : History). h.sent) next);
  calls = Calls-none answers s s (history a).calls (history b).calls refl (ap (λ (h : History). h.calls) next);
  config = config;
}

-- a write that failed
pub kept_turn : {S : Type 0} (answers : S → Request (List ℕ) → Response → S → Type 0) (u x y : Option (List ℕ)) (s : S) (a b : Connection)
    → b ≡ a → Keeps x y → IsTurn answers u u x y s s a b
kept_turn answers u x y s a b same keeps = record {
  read = ([], consumes_nothing u, ap (λ k. (history k).received) same ∙ sym (append-nil (history a).received));
  written = ([], Appends-kept x x y [] (appends_nothing x) keeps, ap (λ k. (history k).sent) same ∙ sym (append-nil (history a).sent));
  calls = Calls-none answers s s (history a).calls (history b).calls refl (ap (λ k. (history k).calls) same);
  config = ap (λ k. config_of k) same;
}

pub faced_from : {S : Type 0} (answers : S → Request (List ℕ) → Response → S → Type 0) (tells : Bool) (state : S → FaceState)
    → ((s : S) (q : Request (List ℕ)) (r : Response) (t : S) → answers s q r t → AnswersOnce tells state s q r t)
    → (u v x y : Option (List ℕ)) (first last : S) (old new : Connection) → history old ≡ new_history → config_of old ≡ CONFIG
    → IsTurn answers u v x y first last old new → IsFaced tells (state first) (state last) u v x y
faced_from answers tells state each u v x y first last old new fresh config turn =
    let received = turn.read.2 ∙ ap (λ (h : History). h.received ++ turn.read.0) fresh in
    let sent = turn.written.2 ∙ ap (λ (h : History). h.sent ++ turn.written.0) fresh in
    let called = turn.calls.1 ∙ ap (λ (h : History). h.calls ++ turn.calls.0) fresh in
    let all = right_each answers tells state each turn.calls.0 first last turn.calls.2 in
    record {
      history = history new;
      read = subst (λ (t : List ℕ). Consumes u v t) (sym received) turn.read.1;
      written = subst (λ (t : List ℕ). Appends x y t) (sym sent) turn.written.1;
      served = subst (λ (k : Config). ∥ IsServed k (history new) ∥₁) (turn.config ∙ config) (always_served new);
      under = all.under;
      taken = all.taken;
      told = all.told;
      right = subst (λ (cs : List Call). AllZip (IsRight (state first).rules) all.under cs) (sym called) all.right;
      noted = subst (λ (cs : List Call). (state last).noted ≡ (state first).noted + count_by (λ call. is_noted call.0) cs) (sym called) all.noted;
    }

pub noted_in : {S : Type 0} (answers : S → Request (List ℕ) → Response → S → Type 0) (tells : Bool) (state : S → FaceState)
    → ((s : S) (q : Request (List ℕ)) (r : Response) (t : S) → answers s q r t → AnswersOnce tells state s q r t)
    → (u v x y : Option (List ℕ)) (first last : S) (old new : Connection)
    → IsTurn answers u v x y first last old new → NotesCalls (state first).noted (state last).noted (history old).calls (history new).calls
noted_in answers tells state each u v x y first last old new turn =
    let all = right_each answers tells state each turn.calls.0 first last turn.calls.2 in
    (turn.calls.0, turn.calls.1, all.noted)
