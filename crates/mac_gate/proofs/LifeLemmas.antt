-- How the life of a connection begins, goes on, and is told.
use Rattle.std.proofs.Common.{◌≡◌, ◌==◌, ℕ, Bool, true, false, List, [], ◌++◌, length, inl, inr, Some, sym, subst, ap, ◌∙◌, append-nil, append_assoc}
use Rattle.std.specs.Prelude.{All}
use Rattle.std.proofs.Math.Logic.{∥∥₁_map}
use Rattle.std.proofs.lemmas.Bool.Decides.{eqb_tells}
use Rattle.std.proofs.lemmas.List.{nil_from_length}
use Rattle.std.proofs.lemmas.List.Elements.{All-append, All-nil}
use Rattle.http.specs.declared.request.Request.{Request}
use Rattle.http_server.specs.declared.connection.Connection.{Connection}
use Rattle.http_server.specs.declared.response.Response.{Response}
use Rattle.http_server.specs.declared.state.Config.{Config}
use Rattle.http_server.specs.Connection.{config_of, history}
use Rattle.http_server.specs.Exchange.{Call}
use Rattle.http_server.specs.History.{History, IsDone, IsServed, new_history}
use Rattle.http_server.proofs.Theorems.{always_served}
use Rattle.mac_http.specs.declared.attending.TheConstants.{CONFIG}
use Rattle.mac_http.specs.declared.rules.Way.{Way}
use Rattle.mac_http.specs.Turn.{IsTurn}
use Rattle.mac_page.proofs.PageLemmas.{right_all}
use Rattle.mac_gate.specs.declared.flow.Flow.{Flow}
use Rattle.mac_gate.specs.declared.offer.Offer.{Offer}
use Rattle.mac_gate.specs.Lives.{Adds, IsOffered, IsTurnBy, Lives, Said, SaidAll}

-- a connection on which nothing has come
pub starts : (offer : Offer) (by : Way) (flow : Flow) (connection : Connection) → flow.gathered.bytes.items ≡ [] → flow.came.bytes ≡ [] → flow.went.bytes ≡ []
    → history connection ≡ new_history → config_of connection ≡ CONFIG → ∥ Lives offer by flow [] connection ∥₁
starts offer by flow connection gathered_is came_is went_is fresh config = ∣ record {
  came = came_is ∙ sym (ap (λ (h : History). h.received ++ ([] ++ flow.gathered.bytes.items)) fresh ∙ gathered_is);
  went = went_is ∙ sym (ap (λ (h : History). h.sent) fresh);
  right = subst (λ (calls : List Call). All (IsOffered offer by) calls) (sym (ap (λ (h : History). h.calls) fresh)) (All-nil (IsOffered offer by));
  config = config;
} ∣₁

-- more came
pub hears : (offer : Offer) (by : Way) (old new : Flow) (heard : List ℕ) (connection : Connection) → Adds old heard new → new.went.bytes ≡ old.went.bytes
    → ∥ Lives offer by old [] connection ∥₁ → ∥ Lives offer by new heard connection ∥₁
hears offer by old new heard connection adds same lives = ∥∥₁_map lives more where
  more : Lives offer by old [] connection → Lives offer by new heard connection
  more l = record {
    came = adds.1 ∙ ap (λ (x : List ℕ). x ++ adds.0) l.came ∙ append_assoc (history connection).received old.gathered.bytes.items adds.0
        ∙ ap (λ (x : List ℕ). (history connection).received ++ x) (sym adds.2);
    went = same ∙ l.went;
    right = l.right;
    config = l.config;
  }

-- what was heard is answered
pub turned : (offer : Offer) (by : Way) (old new : Flow) (heard left : List ℕ) (a b : Connection) → new.came.bytes ≡ old.came.bytes
    → new.gathered.bytes.items ≡ old.gathered.bytes.items → left ≡ [] → IsTurnBy (All (IsOffered offer by)) heard left old.went.bytes new.went.bytes a b
    → ∥ Lives offer by old heard a ∥₁ → ∥ Lives offer by new [] b ∥₁
turned offer by old new heard left a b came_is gathered_is none t lives = ∥∥₁_map lives on where
  on : Lives offer by old heard a → Lives offer by new [] b
  on l =
      let heard_is : heard ≡ t.read.0 = t.read.1 ∙ ap (λ (x : List ℕ). t.read.0 ++ x) none ∙ append-nil t.read.0 in
      record {
        came = came_is ∙ l.came ∙ ap (λ (x : List ℕ). (history a).received ++ (x ++ old.gathered.bytes.items)) heard_is
            ∙ sym (append_assoc (history a).received t.read.0 old.gathered.bytes.items)
            ∙ ap (λ (x : List ℕ). x ++ old.gathered.bytes.items) (sym t.read.2)
            ∙ ap (λ (x : List ℕ). (history b).received ++ x) (sym gathered_is);
        went = t.written.1 ∙ ap (λ (x : List ℕ). x ++ t.written.0) l.went ∙ sym t.written.2;
        right = subst (λ (calls : List Call). All (IsOffered offer by) calls) (sym t.called.1)
            (All-append (IsOffered offer by) (history a).calls t.called.0 l.right t.called.2);
        config = t.config ∙ l.config;
      }

-- a turn over bytes that are at hand, of a service that answers by something that stays
pub turn_by : {S X : Type 0} (u v x y : List ℕ) (first last : S) (a b : Connection) (answers : S → Request (List ℕ) → Response → S → Type 0)
    → IsTurn answers (Some u) (Some v) (Some x) (Some y) first last a b → (of : S → X) (Right : X → Call → Type 0)
    → ((s : S) (q : Request (List ℕ)) (r : Response) (t : S) → answers s q r t → (of t ≡ of s) × Right (of s) (q, r))
    → IsTurnBy (All (Right (of first))) u v x y a b
turn_by u v x y first last a b answers t of Right each = record {
  read = (t.read.0, t.read.1, t.read.2);
  written = (t.written.0, t.written.1, t.written.2);
  called = (t.calls.0, t.calls.1, right_all answers of Right each t.calls.0 first last t.calls.2);
  config = t.config;
}

-- nothing is left where a slice is empty
pub none_left : (left : List ℕ) (is : Bool) → is ≡ (length left == 0) → is ≡ true → left ≡ []
none_left left is tells empty = elim (eqb_tells (length left) 0) [
  | inl same ↦ nil_from_length left same.1
  | inr other ↦ let bad : true ≡ false = sym empty ∙ tells ∙ other.0 in absurd cc
]

-- what is said of a connection that lives
pub says : (offer : Offer) (by : Way) (flow : Flow) (heard : List ℕ) (connection : Connection) → Lives offer by flow heard connection → Said offer by flow.came.bytes flow.went.bytes
says offer by flow heard connection l = record {
  done = history connection;
  read = (heard ++ flow.gathered.bytes.items, l.came);
  written = l.went;
  served = subst (λ (config : Config). ∥ IsServed config (history connection) ∥₁) l.config (always_served connection);
  right = l.right;
}

-- the same where HTTP has nothing more to do
pub says_all : (offer : Offer) (by : Way) (flow : Flow) (heard : List ℕ) (connection : Connection) → IsDone (history connection)
    → Lives offer by flow heard connection → SaidAll offer by flow.came.bytes flow.went.bytes
unfolding says
says_all offer by flow heard connection done l = record { said = says offer by flow heard connection l; done = done }
