-- Responses that are right, one after the other, and fields that are put one after the other.
use Rattle.std.proofs.Common.{◌≡◌, ℕ, List, [], ◌∷◌, ◌++◌, Option, sym, subst, ap, ◌∙◌, append_assoc}
use Rattle.std.specs.Prelude.{All}
use Rattle.std.specs.Io.KnownBytes.{Appends, Consumes}
use Rattle.std.proofs.lemmas.List.Elements.{All-nil, All-cons}
use Rattle.http.specs.declared.request.Request.{Request}
use Rattle.http_server.specs.declared.connection.Connection.{Connection}
use Rattle.http_server.specs.declared.response.Response.{Response}
use Rattle.http_server.specs.declared.state.Config.{Config}
use Rattle.http_server.specs.Connection.{config_of, history}
use Rattle.http_server.specs.Exchange.{Call, Chain}
use Rattle.http_server.specs.History.{History, IsServed, new_history}
use Rattle.http_server.proofs.Theorems.{always_served}
use Rattle.mac_http.specs.declared.attending.TheConstants.{CONFIG}
use Rattle.mac_http.specs.Turn.{IsTurn}
use Rattle.mac_page.specs.declared.site.Site.{Site}
use Rattle.mac_page.specs.Paged.{IsPaged}
use Rattle.mac_page.specs.Told.{Responds}

-- where each call is right by something that stays, all are
pub right_all : {S X : Type 0} (answers : S → Request (List ℕ) → Response → S → Type 0) (of : S → X) (Right : X → Call → Type 0)
    → ((s : S) (q : Request (List ℕ)) (r : Response) (t : S) → answers s q r t → (of t ≡ of s) × Right (of s) (q, r))
    → (calls : List Call) (old new : S) → Chain answers old calls new → All (Right (of old)) calls
right_all answers of Right each [] old new x = All-nil (Right (of old))
right_all answers of Right each (c ∷ calls) old new x =
    let one = each old c.0 c.1 x.0 x.1 in
    let rest = right_all answers of Right each calls x.0 new x.2 in
    All-cons (Right (of old)) c calls one.1 (subst (λ s. All (Right s) calls) one.0 rest)

-- turns from the begin of a connection
pub paged_from : {S : Type 0} (answers : S → Request (List ℕ) → Response → S → Type 0) (site : S → Site)
    → ((s : S) (q : Request (List ℕ)) (r : Response) (t : S) → answers s q r t → (site t ≡ site s) × Responds (site s) q r)
    → (u v x y : Option (List ℕ)) (first last : S) (old new : Connection) → history old ≡ new_history → config_of old ≡ CONFIG
    → IsTurn answers u v x y first last old new → IsPaged (site first) u v x y
paged_from answers site each u v x y first last old new fresh config turn =
    let received = turn.read.2 ∙ ap (λ (h : History). h.received ++ turn.read.0) fresh in
    let sent = turn.written.2 ∙ ap (λ (h : History). h.sent ++ turn.written.0) fresh in
    let called = turn.calls.1 ∙ ap (λ (h : History). h.calls ++ turn.calls.0) fresh in
    let all = right_all answers site (λ (own : Site) (call : Call). Responds own call.0 call.1) each turn.calls.0 first last turn.calls.2 in
    record {
      history = history new;
      read = subst (λ (t : List ℕ). Consumes u v t) (sym received) turn.read.1;
      written = subst (λ (t : List ℕ). Appends x y t) (sym sent) turn.written.1;
      served = subst (λ (k : Config). ∥ IsServed k (history new) ∥₁) (turn.config ∙ config) (always_served new);
      right = subst (λ (cs : List Call). All (λ call. Responds (site first) call.0 call.1) cs) (sym called) all;
    }

-- a field that is put, and one more behind those that were put
put_one : {X : Type 0} (old new : List X) (x x' : X) → x ≡ x' → new ≡ old ++ x ∷ [] → new ≡ old ++ x' ∷ []
put_one old new x x' is more = more ∙ ap (λ a. old ++ a ∷ []) is

put_more : {X : Type 0} (old mid new xs : List X) (x x' : X) → x ≡ x' → mid ≡ old ++ xs → new ≡ mid ++ x ∷ [] → new ≡ old ++ (xs ++ x' ∷ [])
put_more old mid new xs x x' is put more = more ∙ ap (λ l. l ++ x ∷ []) put ∙ append_assoc old xs (x ∷ []) ∙ ap (λ a. old ++ (xs ++ a ∷ [])) is

-- six fields put one after the other
pub six_put : {X : Type 0} (o0 o1 o2 o3 o4 o5 o6 : List X) (a b c d e f a' b' c' d' e' f' : X)
    → a ≡ a' → b ≡ b' → c ≡ c' → d ≡ d' → e ≡ e' → f ≡ f'
    → o1 ≡ o0 ++ a ∷ [] → o2 ≡ o1 ++ b ∷ [] → o3 ≡ o2 ++ c ∷ [] → o4 ≡ o3 ++ d ∷ [] → o5 ≡ o4 ++ e ∷ [] → o6 ≡ o5 ++ f ∷ []
    → o6 ≡ o0 ++ a' ∷ b' ∷ c' ∷ d' ∷ e' ∷ f' ∷ []
six_put o0 o1 o2 o3 o4 o5 o6 a b c d e f a' b' c' d' e' f' is_a is_b is_c is_d is_e is_f e1 e2 e3 e4 e5 e6 =
    let one = put_one o0 o1 a a' is_a e1 in
    let two = put_more o0 o1 o2 (a' ∷ []) b b' is_b one e2 in
    let three = put_more o0 o2 o3 (a' ∷ b' ∷ []) c c' is_c two e3 in
    let four = put_more o0 o3 o4 (a' ∷ b' ∷ c' ∷ []) d d' is_d three e4 in
    let five = put_more o0 o4 o5 (a' ∷ b' ∷ c' ∷ d' ∷ []) e e' is_e four e5 in
    put_more o0 o5 o6 (a' ∷ b' ∷ c' ∷ d' ∷ e' ∷ []) f f' is_f five e6
