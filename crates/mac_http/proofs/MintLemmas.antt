-- Which calls are answered, and by what status.
use Rattle.std.proofs.Common.{◌≡◌, ◌⊎◌, ◌++◌, ℕ, List, [], Bool, true, false, Option, Some, None, inl, inr, refl, sym, subst, ◌∙◌, ⊎_elim, arith}
use Rattle.std.specs.Prelude.{codes, if◌then◌else◌, ◌&&◌, bytes_eq, length}
use Rattle.http.specs.Request.{head_of, body_of}
use Rattle.http.specs.declared.request.Request.{Request}
use Rattle.http_server.specs.declared.response.Response.{Response}
use Rattle.http_server.specs.Response.{IsResponse}
use Rattle.http_uri.specs.Uri.{uri_path}
use Rattle.mac_calls.specs.declared.answering.CallOutcome.TheVariants.{NoKey}
use Rattle.mac_calls.specs.declared.call.Call.{Call}
use Rattle.mac_calls.specs.declared.call.Call.TheVariants.{Mint}
use Rattle.mac_calls.specs.Outcome.{outcome_of}
use Rattle.mac_decide.specs.Terms.{is_allowed}
use Rattle.mac_keys.specs.KeyTable.{Table}
use Rattle.mac_http.specs.declared.rules.Rules.{Rules}
use Rattle.mac_http.specs.declared.rules.Way.{Way}
use Rattle.mac_http.specs.declared.rules.Way.TheVariants.{Socket, Port}
use Rattle.mac_http.specs.Browsing.{is_of_json, is_of_page, refusal_of}
use Rattle.mac_http.specs.Calling.{RespondsToCall, TellsCall, TellsUnlessRefused, allowed_calls, allowed_outcome, call_in, mint_in, told_moment}
use Rattle.mac_http.specs.Faced.{IsAnswer, IsAnswerTo, IsAnswerToCall}
use Rattle.mac_http.specs.Found.{found_in, terms_of}
use Rattle.mac_http.specs.Page.{page_in}
use Rattle.mac_http.specs.Saying.{IsOverloaded, Responds}
use Rattle.mac_http.specs.Target.{target_in}

none_of_both : (a b : Bool) → (b ≡ false) ⊎ (a ≡ false) → a && b ≡ false
none_of_both true b (inl e) = e
none_of_both true b (inr e) = absurd (cc)
none_of_both false b why = refl

-- a mint isn't answered where the address doesn't allow it, or the rules don't name it
pub denied : (rules : Rules) → (rules.rights.now.may_mint ≡ false) ⊎ (rules.calls.mint ≡ false) → rules.calls.mint && rules.rights.now.may_mint ≡ false
denied rules why = none_of_both rules.calls.mint rules.rights.now.may_mint why

-- the path stands in the page and in the call, one after the other
called : (table : Table) (rules : Rules) (moment : Option ℕ) (request : Request (List ℕ)) (below : List ℕ) (response : Response)
    → uri_path (head_of request).uri ≡ codes "/mint/" ++ below → IsAnswer table rules moment request response
    → IsAnswerToCall (call_in (allowed_calls rules) (codes "/mint/" ++ below)) table rules moment request response
called table rules moment request below response path answer =
    let plain : IsAnswerTo (page_in (codes "/mint/" ++ below)) table rules moment request response =
    subst (λ p. IsAnswerTo (page_in p) table rules moment request response) path answer in
    subst (λ p. IsAnswerToCall (call_in (allowed_calls rules) p) table rules moment request response) path plain

-- where it isn't answered, the path is one of those that ask for nothing
uncalled : (table : Table) (rules : Rules) (moment : Option ℕ) (request : Request (List ℕ)) (below : List ℕ) (response : Response)
    → uri_path (head_of request).uri ≡ codes "/mint/" ++ below
    → IsAnswerToCall None table rules moment request response → IsResponse 404 [] [] response ⊎ IsOverloaded response
uncalled table rules moment request below response path answer =
    subst (λ p. Responds rules.granted (found_in rules.sources (terms_of table rules moment) (head_of request) (target_in p)) response) path answer

pub not_minted : (table : Table) (rules : Rules) (moment : Option ℕ) (request : Request (List ℕ)) (below : List ℕ) (response : Response)
    → rules.calls.mint && rules.rights.now.may_mint ≡ false → uri_path (head_of request).uri ≡ codes "/mint/" ++ below
    → IsAnswer table rules moment request response → IsResponse 404 [] [] response ⊎ IsOverloaded response
not_minted table rules moment request below response denies path answer =
    uncalled table rules moment request below response path
    (subst (λ b. IsAnswerToCall (if b then mint_in (codes "/mint/" ++ below) else None) table rules moment request response) denies
    (called table rules moment request below response path answer))

-- ---- statuses

call_not_done : (is_post : Bool) (response : Response) → TellsCall is_post NoKey response → response.status ≡ 200 → ⊥
call_not_done true response tells ok = let e : 404 ≡ 200 = sym tells.status ∙ ok in omega arith
call_not_done false response tells ok = let e : 405 ≡ 200 = sym tells.status ∙ ok in omega arith

port_refuses : (page json : Bool) (is_post : Bool) (response : Response)
    → TellsUnlessRefused (if page then Some 403 else (if json then None else Some 415)) is_post NoKey response → response.status ≡ 200 → ⊥
port_refuses true json is_post response tells ok = let e : 403 ≡ 200 = sym tells.status ∙ ok in omega arith
port_refuses false true is_post response tells ok = call_not_done is_post response tells ok
port_refuses false false is_post response tells ok = let e : 415 ≡ 200 = sym tells.status ∙ ok in omega arith

way_refuses : (way : Way) (request : Request (List ℕ)) (is_post : Bool) (response : Response)
    → TellsUnlessRefused (refusal_of way (head_of request)) is_post NoKey response → response.status ≡ 200 → ⊥
way_refuses Socket request is_post response tells ok = call_not_done is_post response tells ok
way_refuses Port request is_post response tells ok =
    port_refuses (is_of_page (head_of request).headers) (is_of_json (head_of request).headers) is_post response tells ok

overloaded_not_done : (response : Response) → IsOverloaded response → response.status ≡ 200 → ⊥
overloaded_not_done response tells ok = let e : 503 ≡ 200 = sym tells.status ∙ ok in omega arith

answer_not_done : (b : Bool) (table : Table) (rules : Rules) (moment : Option ℕ) (request : Request (List ℕ)) (name : List ℕ) (response : Response)
    → is_allowed rules.rights.now.names name ≡ false → uri_path (head_of request).uri ≡ codes "/mint/" ++ name
    → IsAnswerToCall (if b then mint_in (codes "/mint/" ++ name) else None) table rules moment request response → response.status ≡ 200 → ⊥
answer_not_done false table rules moment request name response other path answer ok =
    ⊎_elim
    (λ (t : IsResponse 404 [] [] response). let e : 404 ≡ 200 = sym t.status ∙ ok in omega arith)
    (λ t. overloaded_not_done response t ok)
    (uncalled table rules moment request name response path answer)
answer_not_done true table rules moment request name response other path answer ok =
    let is_post = bytes_eq (head_of request).method (codes "POST") in
    ⊎_elim
    (λ (t : (drawn : List ℕ) × (length drawn ≡ 16)
    × TellsUnlessRefused (refusal_of rules.way (head_of request)) is_post (allowed_outcome rules table moment (Mint, name) drawn (body_of request)) response).
    way_refuses rules.way request is_post response
    (subst (λ b. TellsUnlessRefused (refusal_of rules.way (head_of request)) is_post
    (if b then outcome_of table (told_moment moment) name Mint t.0 (body_of request) else NoKey) response) other t.2) ok)
    (λ t. overloaded_not_done response t ok)
    answer

pub not_under_another : (table : Table) (rules : Rules) (moment : Option ℕ) (request : Request (List ℕ)) (name : List ℕ) (response : Response)
    → is_allowed rules.rights.now.names name ≡ false → uri_path (head_of request).uri ≡ codes "/mint/" ++ name
    → IsAnswer table rules moment request response → response.status ≡ 200 → ⊥
not_under_another table rules moment request name response other path answer =
    answer_not_done (rules.calls.mint && rules.rights.now.may_mint) table rules moment request name response other path
    (called table rules moment request name response path answer)

-- ---- pages

pub page_refused : (table : Table) (rules : Rules) (moment : Option ℕ) (request : Request (List ℕ)) (asked : Call × List ℕ) (response : Response)
    → rules.way ≡ Port → is_of_page (head_of request).headers ≡ true → RespondsToCall table rules moment asked request response
    → IsResponse 403 [] [] response ⊎ IsOverloaded response
page_refused table rules moment request asked response port page answer =
    let is_post = bytes_eq (head_of request).method (codes "POST") in
    let refused : refusal_of rules.way (head_of request) ≡ Some 403 = rw (port, page) refl in
    ⊎_elim
    (λ (t : (drawn : List ℕ) × (length drawn ≡ 16)
    × TellsUnlessRefused (refusal_of rules.way (head_of request)) is_post (allowed_outcome rules table moment asked drawn (body_of request)) response).
    inl (subst (λ r. TellsUnlessRefused r is_post (allowed_outcome rules table moment asked t.0 (body_of request)) response) refused t.2))
    (λ t. inr t)
    answer
