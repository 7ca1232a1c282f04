-- What is known of a token that was seen.
use Rattle.std.proofs.Common.{◌≡◌, ◌<◌, ◌+◌, ◌∙◌, ◌++◌, ◌∷◌, ℕ, List, [], append-nil, length, get_or, map, take, drop, arith, ap, Option, Some, None, MatchOption, Result, Ok, Err, Bool, true, false, if◌then◌else◌, Bor, refl, subst, sym}
use Rattle.std.specs.List.{All}
use Rattle.std.proofs.lemmas.List.{drop_more, map-append, take-append-drop}
use Rattle.std.specs.Option.{option_copied}
use Rattle.std.proofs.lemmas.Bool.{false≢true}
use Rattle.mac_keys.specs.Keys.{listed}
use Rattle.mac_keys.specs.declared.keys.Keys.{Keys}
use Rattle.mac_token.specs.RawToken.{TokenParts}
use Rattle.mac_token.specs.Read.{read_of}
use Rattle.mac_token.specs.declared.fault.TokenRefusal.{TokenRefusal}
use Rattle.mac_wire.specs.Request.{asked}
use Rattle.mac_wire.specs.declared.reply.Reply.{Reply}
use Rattle.mac_wire.specs.declared.request.Grant.{Grant}
use Rattle.mac_wire.specs.declared.request.Grant.TheVariants as grant
use Rattle.mac_wire.specs.declared.request.Request.{Request}
use Rattle.mac_wire.specs.declared.request.Request.TheVariants as request
use Rattle.mac_decide.specs.Answer.{keyed, request_reply, tells_minted, timed, told, verdict_reply, verify_reply}
use Rattle.mac_decide.specs.Asking.{asking_basis, asking_reply}
use Rattle.mac_decide.specs.Prepared.{reply_to_job}
use Rattle.mac_decide.specs.Reading.{caveats_verdict, is_minted, verdict_of}
use Rattle.mac_decide.specs.Seen.{AreReady, is_minted_read, is_minted_text}
use Rattle.mac_decide.specs.Verdict.{IsFirstUnsatisfied, Satisfied, found_verdict}
use Rattle.mac_decide.specs.Viewed.{viewed}
use Rattle.mac_decide.specs.declared.asking.Asking.{Asking}
use Rattle.mac_decide.specs.declared.context.Context.{Context}
use Rattle.mac_decide.specs.declared.job_view.JobView.{JobView}
use Rattle.mac_decide.specs.declared.looking.Sight.{Sight}
use Rattle.mac_decide.specs.declared.verdict.Verdict.TheVariants.{BadSignature}
use Rattle.mac_decide.proofs.RevocationLemmas.{kept-minted}
use Rattle.mac_decide.proofs.VerdictLemmas.{found-caveats}

-- the verdict on a token that is minted is the one on its caveats
pub seen-verdict : (keys : List (List ℕ)) (t : TokenParts) (x : Context) (found : Option ℕ) → is_minted keys t ≡ true
    → MatchOption found (All (λ c. Satisfied c x) t.caveats) (IsFirstUnsatisfied t.caveats x) → found_verdict found ≡ verdict_of keys t x
unfolding verdict_of
seen-verdict keys t x found minted each = rw minted (found-caveats t x found each)

-- what is told of a token that isn't minted is a refusal
tested : (g : Grant) (x : Context) (t : TokenParts) (b : Bool) → tells_minted (verdict_reply g t (if b then caveats_verdict x 0 t.caveats else BadSignature)) ≡ true → b ≡ true
tested g x t true e = refl
tested g x t false e = e

-- a reply to a verify that tells so is given to a token that is minted
pub read-minted : (g : Grant) (x : Context) (keys : Keys) (r : Result TokenParts TokenRefusal)
    → tells_minted (told r (λ t. verdict_reply g t (verdict_of (listed keys) t x))) ≡ true → is_minted_read keys r ≡ true
unfolding verdict_of
read-minted g x keys (Ok t) e = tested g x t (is_minted (listed keys) t) e
read-minted g x keys (Err reason) e = e

-- the same of what asks for it, at the moment that it names
pub verify-minted : (a : Asking) (key token : Bor (List ℕ)) (moment : ℕ) (facts : List (List ℕ)) (keys : Bor Keys) (r : Reply) → a.request ≡ request.Verify key token moment facts → a.keys ≡ Some keys
    → r ≡ asking_reply a → tells_minted r ≡ true → is_minted_text keys.now token.now ≡ true
verify-minted a key token moment facts keys r asks named due e =
    let x : Context = record { moment = moment; facts = facts } in
    read-minted grant.Bare x keys.now (read_of token.now)
    (subst (λ (o : Option (Bor Keys)). tells_minted (keyed (option_copied o) (verify_reply grant.Bare token.now x)) ≡ true) named
    (kept-minted _ _ (subst (λ (q : Request). tells_minted (request_reply (asked q) (asking_basis a)) ≡ true) asks (subst (λ s. tells_minted s ≡ true) due e))))

-- the same at the clock's moment
timed-minted : (g : Grant) (token : List ℕ) (facts : List (List ℕ)) (keys : Keys) (moment : Option ℕ)
    → tells_minted (timed moment (λ at. verify_reply g token (record { moment = at; facts = facts }) keys)) ≡ true → is_minted_text keys token ≡ true
timed-minted g token facts keys (Some at) e = read-minted g (record { moment = at; facts = facts }) keys (read_of token) e
timed-minted g token facts keys None e = absurd (false≢true e)

pub now-minted : (a : Asking) (g : Grant) (key token : Bor (List ℕ)) (facts : List (List ℕ)) (keys : Bor Keys) (r : Reply) → a.request ≡ request.VerifyNow g key token facts → a.keys ≡ Some keys
    → r ≡ asking_reply a → tells_minted r ≡ true → is_minted_text keys.now token.now ≡ true
now-minted a g key token facts keys r asks named due e =
    timed-minted g token.now facts keys.now a.moment
    (subst (λ (o : Option (Bor Keys)). tells_minted (keyed (option_copied o) (λ k. timed a.moment (λ at. verify_reply g token.now (record { moment = at; facts = facts }) k))) ≡ true) named
    (kept-minted _ _ (subst (λ (q : Request). tells_minted (request_reply (asked q) (asking_basis a)) ≡ true) asks (subst (λ s. tells_minted s ≡ true) due e))))

-- where nothing is left, what is prepared is ready
pub none-left : (sights rest : List Sight) (came : List Reply) → length rest ≡ 0 → ((others : List Reply) → AreReady rest others → AreReady sights (came ++ others)) → AreReady sights came
none-left sights [] came none ready = let all = ready [] tt in rw (append-nil came) at all
none-left sights (x ∷ rest) came none ready = absurd (omega (arith, none))

-- the replies to the jobs before one, to it and to those behind it are those to all
pub dues-around : (jobs : List JobView) (i : ℕ) (job : JobView) → i < length jobs → job ≡ get_or jobs i job
    → map reply_to_job (map viewed (take i jobs)) ++ reply_to_job (viewed job) ∷ map reply_to_job (map viewed (drop (i + 1) jobs)) ≡ map reply_to_job (map viewed jobs)
dues-around jobs i job within is =
    let before = take i jobs in
    let behind = job ∷ drop (i + 1) jobs in
    let all : before ++ behind ≡ jobs = ap (λ l. before ++ l) (ap (λ j. j ∷ drop (i + 1) jobs) is ∙ sym (drop_more jobs i job within)) ∙ take-append-drop i jobs in
    sym (map-append reply_to_job (map viewed before) (map viewed behind))
    ∙ ap (map reply_to_job) (sym (map-append viewed before behind))
    ∙ ap (λ l. map reply_to_job (map viewed l)) all
