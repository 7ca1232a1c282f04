-- What the functions of reading give is what reading means.
use Rattle.std.proofs.Common.{◌≡◌, ℕ, ◌≤◌, Bool, true, false, ◌||◌, cond, List, [], ◌∷◌, map, length, Option, Some, None, Result, Ok, Err, refl, sym, ap, subst, ◌∙◌, inl, inr}
use Rattle.std.specs.Prelude.{nat_lt, is_some, IsSome, Any}
use Rattle.std.specs.List.{list_any}
use Rattle.std.proofs.lemmas.Bool.{ltb-true, ltb-false, lt-ltb, le-ltb, both_ways}
use Rattle.std.proofs.lemmas.List.Folds.{Any-from_list_any, list_any-from_Any}
use Rattle.base64.specs.GeneralPurpose.{IsBytes}
use Rattle.mac_token.specs.declared.fault.TokenFault.{TokenFault}
use Rattle.mac_token.specs.declared.fault.TokenFault.TheVariants.{Refused, Memory}
use Rattle.mac_token.specs.declared.fault.TokenRefusal.{TokenRefusal}
use Rattle.mac_token.specs.declared.fault.TokenRefusal.TheVariants.{Transport, Malformed, ThirdParty, Limit, CaveatLocation}
use Rattle.mac_token.specs.declared.limits.TheConstants.{TOKEN_MAX}
use Rattle.mac_token.specs.Answers.{IsFault, Answers, Ends}
use Rattle.mac_token.specs.Limits.{IsWithinLimits, is_within, token_or_limit}
use Rattle.mac_token.specs.RawToken.{CaveatParts, RawParts, TokenParts, first_party, raw_of}
use Rattle.mac_token.specs.Spells.{Carries, Spells}
use Rattle.mac_token.specs.Read.{parts_of, Carried, Read, ReadRaw, bare_bytes, bare_of, or_malformed, or_transport, carried_of, raw_of_carried, raw_read_of, token_of, token_of_read, read_of}
use Rattle.mac_token.proofs.ReadLemmas.{bare_bytes_takes, bare_bytes_again, bare_bytes_bytes, carries_one, bare_takes, bare_again}
use Rattle.mac_token.proofs.Within.{is_within-Decides, token_or_limit-Ok, token_or_limit-Err}

-- the answer of a call is an end, where the function's answer is
pub ends_from_answers : {X Y : Type 0} (view : X → Y) (IsEnd : Result Y TokenRefusal → Type 0) (answer : Result Y TokenRefusal) (result : Result X TokenFault) → IsEnd answer → Answers view result answer → Ends view result IsEnd
ends_from_answers view IsEnd answer (Ok x) is e = subst IsEnd e is
ends_from_answers view IsEnd answer (Err (Refused refusal)) is e = subst IsEnd e is
ends_from_answers view IsEnd answer (Err Memory) is e = tt

-- the fault of what was read before is that of the whole
pub fault_through : (fault : TokenFault) (raw : Result RawParts TokenRefusal) → IsFault fault raw → IsFault fault (token_of_read raw)
fault_through (Refused refusal) raw e = ap token_of_read e
fault_through Memory raw e = tt

-- the fault of what is carried is that of what is read
pub fault_carried : (fault : TokenFault) (carried : Result (List ℕ) TokenRefusal) → IsFault fault carried → IsFault fault (raw_of_carried carried)
fault_carried (Refused refusal) carried e = ap raw_of_carried e
fault_carried Memory carried e = tt

-- ---- what is carried

carried_by : (long : Bool) (bytes : List ℕ) (reading : Option (List ℕ)) → nat_lt TOKEN_MAX (length bytes) ≡ long → bare_bytes bytes ≡ reading → Carried bytes (cond long (Err Limit) (or_transport reading))
carried_by true bytes reading e is = ltb-true TOKEN_MAX (length bytes) e
carried_by false bytes None e is = (ltb-false TOKEN_MAX (length bytes) e, λ (bare, carries). let read = bare_bytes_again bytes bare carries in cc)
carried_by false bytes (Some bare) e is = (ltb-false TOKEN_MAX (length bytes) e, bare_bytes_takes bytes bare is)

-- what is carried
pub carried_means : (bytes : List ℕ) → Carried bytes (carried_of bytes)
unfolding carried_of
carried_means bytes = carried_by (nat_lt TOKEN_MAX (length bytes)) bytes (bare_bytes bytes) refl refl

short_carried : (bytes : List ℕ) → length bytes ≤ TOKEN_MAX → carried_of bytes ≡ or_transport (bare_bytes bytes)
unfolding carried_of
short_carried bytes short = rw (le-ltb TOKEN_MAX (length bytes) short) refl

nothing_bare : (bytes : List ℕ) (reading : Option (List ℕ)) → bare_bytes bytes ≡ reading → (¬ ((bare : List ℕ) × Carries bytes bare)) → reading ≡ None
nothing_bare bytes None e never = refl
nothing_bare bytes (Some bare) e never = absurd (never (bare, bare_bytes_takes bytes bare e))

-- an input is taken in one way
pub carried_once : (bytes : List ℕ) (x : Result (List ℕ) TokenRefusal) → Carried bytes x → carried_of bytes ≡ x
unfolding carried_of
carried_once bytes (Ok bare) (short, carries) = short_carried bytes short ∙ ap or_transport (bare_bytes_again bytes bare carries)
carried_once bytes (Err Limit) long = rw (lt-ltb TOKEN_MAX (length bytes) long) refl
carried_once bytes (Err Transport) (short, never) = short_carried bytes short ∙ ap or_transport (nothing_bare bytes (bare_bytes bytes) refl never)
carried_once bytes (Err Malformed) carried = absurd carried
carried_once bytes (Err ThirdParty) carried = absurd carried
carried_once bytes (Err CaveatLocation) carried = absurd carried

-- what answers as the function does ends as it is meant
pub carried_ends : {X : Type 0} (view : X → List ℕ) (bytes : List ℕ) (result : Result X TokenFault) → Answers view result (carried_of bytes) → Ends view result (Carried bytes)
carried_ends view bytes result answers = ends_from_answers view (Carried bytes) (carried_of bytes) result (carried_means bytes) answers

-- ---- a raw token

bare_read : (bytes bare : List ℕ) (reading : Option RawParts) → length bytes ≤ TOKEN_MAX → IsBytes bare → Carries bytes bare → bare_of bare ≡ reading → ReadRaw bytes (or_malformed reading)
bare_read bytes bare None short fits carries e = (
  short,
  (bare, carries),
  λ (r, (other, carries_other, is)).
      let same = carries_one bytes other bare carries_other carries in
      let read = bare_again other r is in
      let none = ap bare_of same ∙ e in
      cc,
)
bare_read bytes bare (Some r) short fits carries e = (short, (bare, carries, bare_takes bare r fits e))

carried_read : (bytes : List ℕ) (carried : Result (List ℕ) TokenRefusal) → IsBytes bytes → Carried bytes carried → ReadRaw bytes (raw_of_carried carried)
carried_read bytes (Ok bare) fits (short, carries) = bare_read bytes bare (bare_of bare) short (bare_bytes_bytes bytes bare fits carries) carries refl
carried_read bytes (Err Limit) fits carried = carried
carried_read bytes (Err Transport) fits carried = carried
carried_read bytes (Err Malformed) fits carried = absurd carried
carried_read bytes (Err ThirdParty) fits carried = absurd carried
carried_read bytes (Err CaveatLocation) fits carried = absurd carried

-- what is read up to the grammar
pub raw_read_means : (bytes : List ℕ) → IsBytes bytes → ReadRaw bytes (raw_read_of bytes)
unfolding raw_read_of
raw_read_means bytes fits = carried_read bytes (carried_of bytes) fits (carried_means bytes)

-- what answers as the function does ends as it is meant
pub raw_ends : {X : Type 0} (view : X → RawParts) (bytes : List ℕ) → IsBytes bytes → (result : Result X TokenFault) → Answers view result (raw_read_of bytes) → Ends view result (ReadRaw bytes)
raw_ends view bytes fits result answers = ends_from_answers view (ReadRaw bytes) (raw_read_of bytes) result (raw_read_means bytes fits) answers

-- ---- a token

abbrev any_vid : List CaveatParts → Bool
any_vid cs = list_any (λ c. is_some c.vid) cs

abbrev any_location : List CaveatParts → Bool
any_location cs = list_any (λ c. is_some c.location) cs

abbrev HasVid : CaveatParts → Type 0
HasVid c = IsSome c.vid

abbrev HasLocation : CaveatParts → Type 0
HasLocation c = IsSome c.location

none_vid : (cs : List CaveatParts) → any_vid cs ≡ false → ¬ Any HasVid cs
none_vid cs e any = both_ways (any_vid cs) e (list_any-from_Any (λ (c : CaveatParts). is_some c.vid) cs any)

none_location : (cs : List CaveatParts) → any_location cs ≡ false → ¬ Any HasLocation cs
none_location cs e any = both_ways (any_location cs) e (list_any-from_Any (λ (c : CaveatParts). is_some c.location) cs any)

either : (a b : Bool) → (a || b) ≡ false → (a ≡ false) × (b ≡ false)
either true b e = absurd cc
either false b e = (refl, e)

absent : (o : Option (List ℕ)) → is_some o ≡ false → o ≡ None
absent None e = refl
absent (Some x) e = absurd cc

abbrev caveat_parts : List ℕ → Option (List ℕ) → Option (List ℕ) → CaveatParts
caveat_parts id vid location = record { id = id; vid = vid; location = location }

abbrev raw_parts : List ℕ → List ℕ → List CaveatParts → List ℕ → RawParts
raw_parts location identifier caveats sig = record { location = location; identifier = identifier; caveats = caveats; sig = sig }

abbrev some_token : List ℕ → List ℕ → List (List ℕ) → List ℕ → TokenParts
some_token location identifier caveats sig = record { location = location; identifier = identifier; caveats = caveats; sig = sig }

-- without verifiers' ids and locations the caveats are first-party
pub first_parties : (cs : List CaveatParts) → any_vid cs ≡ false → any_location cs ≡ false → map first_party (map (λ c. c.id) cs) ≡ cs
first_parties [] no_vid no_location = refl
first_parties (c ∷ cs) no_vid no_location =
    let vids = either (is_some c.vid) (any_vid cs) no_vid in
    let locations = either (is_some c.location) (any_location cs) no_location in
    let vid = absent c.vid vids.0 in
    let location = absent c.location locations.0 in
    let others = first_parties cs vids.1 locations.1 in
    let first : first_party c.id ≡ c = ap (λ (v : Option (List ℕ)). caveat_parts c.id v None) (sym vid) ∙ ap (λ (l : Option (List ℕ)). caveat_parts c.id c.vid l) (sym location) in
    ap (λ (x : CaveatParts). x ∷ map first_party (map (λ x. x.id) cs)) first ∙ ap (λ (xs : List CaveatParts). c ∷ xs) others

-- without them a raw token is a token
token_parts_of : (r : RawParts) → any_vid r.caveats ≡ false → any_location r.caveats ≡ false → raw_of (parts_of r) ≡ r
token_parts_of r no_vid no_location = ap (λ (cs : List CaveatParts). raw_parts r.location r.identifier cs r.sig) (first_parties r.caveats no_vid no_location)

token_by : (vid location fits : Bool) (bytes : List ℕ) (r : RawParts) → length bytes ≤ TOKEN_MAX → Spells bytes r → any_vid r.caveats ≡ vid → any_location r.caveats ≡ location → is_within (parts_of r) ≡ fits
    → Read bytes (cond vid (Err ThirdParty) (cond location (Err CaveatLocation) (cond fits (Ok (parts_of r)) (Err Limit))))
token_by true location fits bytes r short spells has_vids has_locations within_is =
    (r, (short, spells), Any-from_list_any (λ (c : CaveatParts). is_some c.vid) r.caveats has_vids)
token_by false true fits bytes r short spells no_vid has_locations within_is =
    (r, (short, spells), none_vid r.caveats no_vid, Any-from_list_any (λ (c : CaveatParts). is_some c.location) r.caveats has_locations)
token_by false false true bytes r short spells no_vid no_location within_is =
    ((short, subst (Spells bytes) (sym (token_parts_of r no_vid no_location)) spells), (is_within-Decides (parts_of r)).0 within_is)
token_by false false false bytes r short spells no_vid no_location within_is =
    inr (r, (short, spells), none_vid r.caveats no_vid, none_location r.caveats no_location, λ fits. both_ways (is_within (parts_of r)) within_is ((is_within-Decides (parts_of r)).1 fits))

token_means : (bytes : List ℕ) (r : RawParts) → length bytes ≤ TOKEN_MAX → Spells bytes r → Read bytes (token_of r)
unfolding token_of
token_means bytes r short spells = token_by (any_vid r.caveats) (any_location r.caveats) (is_within (parts_of r)) bytes r short spells refl refl refl

read_from : (bytes : List ℕ) (raw : Result RawParts TokenRefusal) → ReadRaw bytes raw → Read bytes (token_of_read raw)
read_from bytes (Ok r) raw = token_means bytes r raw.0 raw.1
read_from bytes (Err Limit) raw = inl raw
read_from bytes (Err Transport) raw = raw
read_from bytes (Err Malformed) raw = raw
read_from bytes (Err ThirdParty) raw = absurd raw
read_from bytes (Err CaveatLocation) raw = absurd raw

-- what is read
pub read_means : (bytes : List ℕ) → IsBytes bytes → Read bytes (read_of bytes)
unfolding read_of
read_means bytes fits = read_from bytes (raw_read_of bytes) (raw_read_means bytes fits)

-- ---- one meaning

-- what is spelled within the greatest length is read
pub spelled_read : (bytes : List ℕ) (r : RawParts) → length bytes ≤ TOKEN_MAX → Spells bytes r → raw_read_of bytes ≡ Ok r
unfolding raw_read_of
spelled_read bytes r short (bare, carries, is) = ap raw_of_carried (carried_once bytes (Ok bare) (short, carries)) ∙ ap or_malformed (bare_again bare r is)

nothing_spelled : (bytes bare : List ℕ) (reading : Option RawParts) → IsBytes bare → Carries bytes bare → bare_of bare ≡ reading → (¬ ((r : RawParts) × Spells bytes r)) → reading ≡ None
nothing_spelled bytes bare None fits carries e never = refl
nothing_spelled bytes bare (Some r) fits carries e never = absurd (never (r, (bare, carries, bare_takes bare r fits e)))

-- reading up to the grammar ends in one way
pub raw_read_once : (bytes : List ℕ) (x : Result RawParts TokenRefusal) → IsBytes bytes → ReadRaw bytes x → raw_read_of bytes ≡ x
unfolding raw_read_of
raw_read_once bytes (Ok r) fits raw = spelled_read bytes r raw.0 raw.1
raw_read_once bytes (Err Limit) fits raw = ap raw_of_carried (carried_once bytes (Err Limit) raw)
raw_read_once bytes (Err Transport) fits raw = ap raw_of_carried (carried_once bytes (Err Transport) raw)
raw_read_once bytes (Err Malformed) fits raw =
    let bare = raw.1.0 in
    let carries = raw.1.1 in
    ap raw_of_carried (carried_once bytes (Ok bare) (raw.0, carries))
    ∙ ap or_malformed (nothing_spelled bytes bare (bare_of bare) (bare_bytes_bytes bytes bare fits carries) carries refl raw.2)
raw_read_once bytes (Err ThirdParty) fits raw = absurd raw
raw_read_once bytes (Err CaveatLocation) fits raw = absurd raw

some_vid : (cs : List CaveatParts) → Any HasVid cs → any_vid cs ≡ true
some_vid cs any = list_any-from_Any (λ (c : CaveatParts). is_some c.vid) cs any

some_location : (cs : List CaveatParts) → Any HasLocation cs → any_location cs ≡ true
some_location cs any = list_any-from_Any (λ (c : CaveatParts). is_some c.location) cs any

not_true : (test : Bool) → (test ≡ true → ⊥) → test ≡ false
not_true true never = absurd (never refl)
not_true false never = refl

no_vid_is : (cs : List CaveatParts) → (¬ Any HasVid cs) → any_vid cs ≡ false
no_vid_is cs never = not_true (any_vid cs) (λ e. never (Any-from_list_any (λ (c : CaveatParts). is_some c.vid) cs e))

no_location_is : (cs : List CaveatParts) → (¬ Any HasLocation cs) → any_location cs ≡ false
no_location_is cs never = not_true (any_location cs) (λ e. never (Any-from_list_any (λ (c : CaveatParts). is_some c.location) cs e))

-- a token's caveats are first-party
first_party_vids : (caveats : List (List ℕ)) → any_vid (map first_party caveats) ≡ false
first_party_vids [] = refl
first_party_vids (c ∷ cs) = first_party_vids cs

first_party_locations : (caveats : List (List ℕ)) → any_location (map first_party caveats) ≡ false
first_party_locations [] = refl
first_party_locations (c ∷ cs) = first_party_locations cs

first_party_ids : (caveats : List (List ℕ)) → map (λ c. c.id) (map first_party caveats) ≡ caveats
first_party_ids [] = refl
first_party_ids (c ∷ cs) = ap (λ (xs : List (List ℕ)). c ∷ xs) (first_party_ids cs)

-- the parts of a token as it is spelled
pub parts_of-raw_of : (t : TokenParts) → parts_of (raw_of t) ≡ t
parts_of-raw_of t = ap (λ (cs : List (List ℕ)). some_token t.location t.identifier cs t.sig) (first_party_ids t.caveats)

-- a token as it is spelled is it, within the limits
pub token_of-first_parties : (t : TokenParts) → token_of (raw_of t) ≡ token_or_limit t
unfolding token_of
token_of-first_parties t = rw (first_party_vids t.caveats, first_party_locations t.caveats) (ap token_or_limit (parts_of-raw_of t))

-- a token is read from what spells it
pub token_of-raw_of : (t : TokenParts) → IsWithinLimits t → token_of (raw_of t) ≡ Ok t
token_of-raw_of t fits = token_of-first_parties t ∙ token_or_limit-Ok t fits

-- reading ends in one way
pub read_once : (bytes : List ℕ) (x : Result TokenParts TokenRefusal) → IsBytes bytes → Read bytes x → read_of bytes ≡ x
unfolding read_of token_of
read_once bytes (Ok t) fits read = ap token_of_read (spelled_read bytes (raw_of t) read.0.0 read.0.1) ∙ token_of-raw_of t read.1
read_once bytes (Err Limit) fits (inl long) = ap token_of_read (raw_read_once bytes (Err Limit) fits long)
read_once bytes (Err Limit) fits (inr (r, (short, spells), no_vid, no_location, passes)) =
    ap token_of_read (spelled_read bytes r short spells) ∙ rw (no_vid_is r.caveats no_vid, no_location_is r.caveats no_location) (token_or_limit-Err (parts_of r) passes)
read_once bytes (Err Transport) fits read = ap token_of_read (raw_read_once bytes (Err Transport) fits read)
read_once bytes (Err Malformed) fits read = ap token_of_read (raw_read_once bytes (Err Malformed) fits read)
read_once bytes (Err ThirdParty) fits (r, (short, spells), vids) =
    ap token_of_read (spelled_read bytes r short spells) ∙ rw (some_vid r.caveats vids) refl
read_once bytes (Err CaveatLocation) fits (r, (short, spells), no_vid, locations) =
    ap token_of_read (spelled_read bytes r short spells) ∙ rw (no_vid_is r.caveats no_vid, some_location r.caveats locations) refl

-- a token that is read is within the limits
pub read_of-within : (bytes : List ℕ) (t : TokenParts) → IsBytes bytes → read_of bytes ≡ Ok t → IsWithinLimits t
read_of-within bytes t fits e = (subst (Read bytes) e (read_means bytes fits)).1
