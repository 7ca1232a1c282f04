-- Calls that are right, each under a table that was looked up and at a moment that the clock told.
use Rattle.std.proofs.Common.{◌≡◌, ℕ, ◌+◌, Bool, List, [], ◌∷◌, ◌++◌, map, Option, subst, sym, ap, ◌∙◌, append-nil, append_assoc, add-zero, arith}
use Rattle.std.specs.Prelude.{count_by}
use Rattle.std.specs.List.{AllZip}
use Rattle.std.proofs.lemmas.List.Sums.{sum_by-cons}
use Rattle.http.specs.declared.request.Request.{Request}
use Rattle.http_server.specs.declared.response.Response.{Response}
use Rattle.http_server.specs.Exchange.{Call, Chain}
use Rattle.mac_board.specs.Follows.{Takes}
use Rattle.mac_keys.specs.KeyTable.{Table}
use Rattle.mac_http.specs.Faced.{FaceState, IsRight, is_noted}
use Rattle.mac_http.specs.Turn.{AnswersOnce, notes_of}

-- what some calls say of the service before and after them
pub record SaysAll (tells : Bool) (old : FaceState) (calls : List Call) (new : FaceState) : Type 0 where
  pub under : List (Table × Option ℕ)
  pub taken : Takes tells old.known new.known (map (λ u. u.0) under)
  pub told : new.told ≡ old.told ++ map (λ u. u.1) under
  pub right : AllZip (IsRight old.rules) under calls
  pub noted : new.noted ≡ old.noted + count_by (λ call. is_noted call.0) calls

-- a call and those behind it
count_more : (c : Call) (calls : List Call) → count_by (λ (d : Call). is_noted d.0) (c ∷ calls) ≡ notes_of c.0 + count_by (λ (d : Call). is_noted d.0) calls
count_more c calls = sum_by-cons (λ (d : Call). notes_of d.0) c calls

pub right_each : {S : Type 0} (answers : S → Request (List ℕ) → Response → S → Type 0) (tells : Bool) (state : S → FaceState)
    → ((s : S) (q : Request (List ℕ)) (r : Response) (t : S) → answers s q r t → AnswersOnce tells state s q r t)
    → (calls : List Call) (old new : S) → Chain answers old calls new → SaysAll tells (state old) calls (state new)
right_each answers tells state each [] old new x = record {
  under = [];
  taken = ap (λ s. (state s).known) x;
  told = ap (λ s. (state s).told) x ∙ sym (append-nil (state old).told);
  right = tt;
  noted = ap (λ s. (state s).noted) x ∙ sym (add-zero (state old).noted);
}
right_each answers tells state each (c ∷ calls) old new x =
    let one = each old c.0 c.1 x.0 x.1 in
    let rest = right_each answers tells state each calls x.0 new x.2 in record {
      under = one.under ∷ rest.under;
      taken = ((state x.0).known, one.looks, one.up, rest.taken);
      told = rest.told ∙ ap (λ l. l ++ map (λ (u : Table × Option ℕ). u.1) rest.under) one.told
          ∙ append_assoc (state old).told (one.under.1 ∷ []) (map (λ (u : Table × Option ℕ). u.1) rest.under);
      right = (one.right, subst (λ r. AllZip (IsRight r) rest.under calls) one.rules rest.right);
      noted = omega (arith, one.noted, rest.noted, count_more c calls);
    }
