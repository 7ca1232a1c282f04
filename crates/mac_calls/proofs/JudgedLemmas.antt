-- What is told of a token in a context.
use Rattle.std.proofs.Common.{◌≡◌, ◌↔◌, ℕ, List, [], ◌∷◌, map, codes, slice_index, ◌==◌, Bool, true, false, Some, refl, sym, ap, ◌∙◌}
use Rattle.std.specs.Prelude.{Ok, Err}
use Rattle.std.proofs.lemmas.Bool.{false≢true}
use Rattle.std.specs.List.{AllZip}
use Rattle.serde_json.specs.Data.{Data, boolean}
use Rattle.serde_json.specs.View.{items_of}
use Rattle.serde_json.specs.Written.{compact_text, has_float, items_have_float}
use Rattle.mac_decide.specs.Answer.{IsGranted}
use Rattle.mac_decide.specs.Reading.{is_satisfied}
use Rattle.mac_decide.specs.Verdict.{Satisfied}
use Rattle.mac_decide.specs.declared.context.Context.{Context}
use Rattle.mac_decide.proofs.AnswerLemmas.{granted-request, request-granted}
use Rattle.mac_decide.proofs.VerdictLemmas.{is_satisfied-exact}
use Rattle.mac_wire.specs.declared.reply.Refusal.{Refusal}
use Rattle.mac_wire.specs.declared.reply.Refusal.TheVariants as refusal
use Rattle.mac_wire.specs.declared.reply.Reply.{Reply}
use Rattle.mac_wire.specs.declared.reply.Reply.TheVariants as reply
use Rattle.mac_decide.specs.Revocation.{is_listed_read}
use Rattle.mac_token.specs.Read.{read_of}
use Rattle.mac_calls.specs.Asking.{Verifier, verify_basis}
use Rattle.mac_calls.specs.Judged.{holding, holds_object, refused_json, reply_json, verify_reply}
use Rattle.mac_calls.specs.Steps.{Step}

-- two tests that hold in the same case
same_test : (a b : Bool) → (a ≡ true → b ≡ true) → (b ≡ true → a ≡ true) → a ≡ b
same_test true b there back = sym (there refl)
same_test false true there back = back refl
same_test false false there back = refl

pub tells_satisfied : (b : Bool) (caveat : List ℕ) (x : Context) → ((b ≡ true) ↔ Satisfied caveat x)
    → b ≡ is_satisfied caveat x
tells_satisfied b caveat x is =
    let exact = is_satisfied-exact caveat x in
    same_test b (is_satisfied caveat x) (λ e. exact.1 (is.0 e)) (λ e. is.1 (exact.0 e))

booleans_without_float : (holds : List Bool) → items_have_float (items_of (map boolean holds)) ≡ false
booleans_without_float [] = refl
booleans_without_float (b ∷ holds) = booleans_without_float holds

holds_without_float : (holds : List Bool) → has_float (holds_object holds) ≡ false
unfolding holds_object
holds_without_float holds = rw (booleans_without_float holds) refl

-- the text that is written of the object
pub holds_text : (holds : List Bool) (d : Data) (text : List ℕ) → d ≡ holds_object holds
    → (has_float d ≡ false → text ≡ compact_text d) → text ≡ compact_text (holds_object holds)
holds_text holds d text is writes = writes (ap has_float is ∙ holds_without_float holds) ∙ ap compact_text is

-- ---- the laws

pub tells_each : (caveats : List (List ℕ)) (x : Context)
    → AllZip (λ caveat holds. (holds ≡ true) ↔ Satisfied caveat x) caveats (holding caveats x)
tells_each [] x = tt
tells_each (caveat ∷ caveats) x = (is_satisfied-exact caveat x, tells_each caveats x)

-- the letter that tells `true` from `false`
abbrev says_granted : List ℕ → Bool
says_granted json = slice_index json 11 == 116

abbrev says_so : Step (List ℕ) → Bool
says_so (Ok json) = says_granted json
says_so (Err why) = false

granted_refused : (why : Refusal) → refused_json why ≡ Ok (codes "{\"granted\":true}") → reply.Refused why ≡ reply.Granted
granted_refused refusal.BadSignature e = let bad : false ≡ true = ap says_so e in absurd (false≢true bad)
granted_refused refusal.Revoked e = let bad : false ≡ true = ap says_so e in absurd (false≢true bad)
granted_refused refusal.BadRequest e = absurd cc
granted_refused refusal.FrameTooLong e = absurd cc
granted_refused refusal.UnknownKey e = absurd cc
granted_refused refusal.Transport e = absurd cc
granted_refused refusal.Malformed e = absurd cc
granted_refused refusal.ThirdParty e = absurd cc
granted_refused refusal.Limit e = absurd cc
granted_refused refusal.CaveatLocation e = absurd cc
granted_refused refusal.NotAllowed e = absurd cc
granted_refused refusal.NoClock e = absurd cc

granted_told : (r : Reply) → reply_json r ≡ Ok (codes "{\"granted\":true}") → r ≡ reply.Granted
granted_told reply.Granted e = refl
granted_told (reply.Unsatisfied index) e = let bad : false ≡ true = ap says_so e in absurd (false≢true bad)
granted_told (reply.Refused why) e = granted_refused why e
granted_told (reply.Token bytes) e = absurd cc
granted_told (reply.GrantedTo identifier location) e = absurd cc

pub tells_granted : (v : Verifier) (token : List ℕ) (x : Context)
    → (reply_json (verify_reply v token x) ≡ Ok (codes "{\"granted\":true}")) ↔ (IsGranted (Some v.keys) token x × (is_listed_read v.revoked v.name (read_of token) ≡ false))
tells_granted v token x = (
  λ e. granted-request v.name token x.moment x.facts (verify_basis v token) (granted_told (verify_reply v token x) e),
  λ g. ap reply_json (request-granted v.name token x.moment x.facts (verify_basis v token) g),
)
