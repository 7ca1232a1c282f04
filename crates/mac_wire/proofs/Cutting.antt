-- Cutting a piece: what was handed out, and what is held.
use Rattle.std.proofs.Common.{◌≡◌, ◌≢◌, ◌⊎◌, inl, inr, ℕ, List, [], ◌∷◌, ◌++◌, sym, ap, subst, ◌∙◌, append_assoc, arith}
use Rattle.std.proofs.lemmas.List.{append-nil}
use Rattle.mac_wire.specs.declared.arrival.Arrival.{Arrival}
use Rattle.mac_wire.specs.declared.arrival.Arrival.TheVariants as arrival
use Rattle.mac_wire.specs.declared.arrival.Ending.{Ending}
use Rattle.mac_wire.specs.declared.arrival.Ending.TheVariants as ending
use Rattle.mac_wire.specs.declared.frame.Stage.{Stage}
use Rattle.mac_wire.specs.declared.frame.Stage.TheVariants as stage
use Rattle.mac_wire.specs.declared.partial.Step.TheVariants as step
use Rattle.mac_wire.specs.Frame.{Frames, followed_by, frames_of, IsUnfinished}
use Rattle.mac_wire.specs.Partial.{IsWhole, IsTooLong}
use Rattle.mac_wire.specs.Steps.{Advances, Cuts}
use Rattle.mac_wire.specs.FrameReader.{HasReadTo, HasEndedAt}
use Rattle.mac_wire.proofs.Frames.{frames_of-nothing, frames_of-unfinished, frames_of-whole, frames_of-too_long}

pub followed_by-append : (a b : List Arrival) (rest : Frames) → followed_by a (followed_by b rest) ≡ followed_by (a ++ b) rest
followed_by-append a b rest = ap (λ (xs : List Arrival). record { arrived = xs; ending = rest.ending }) (sym (append_assoc a b rest.arrived))

-- the stream's arrivals are those handed out, and then those of what is held and of the rest of the piece
abbrev pub IsCutTo : (stream : List ℕ) → List Arrival → (held rest : List ℕ) → Type 0
IsCutTo stream handed held rest =
    IsUnfinished held × ((more : List ℕ) → frames_of (stream ++ more) ≡ followed_by handed (frames_of (held ++ (rest ++ more))))

pub begins : (held piece : List ℕ) → IsUnfinished held → IsCutTo (held ++ piece) [] held piece
begins held piece unfinished = (unfinished, λ more. ap frames_of (append_assoc held piece more))

pub nothing_unfinished : IsUnfinished []
nothing_unfinished long = absurd (omega arith)

regrouped : (held taken rest more : List ℕ) → held ++ ((taken ++ rest) ++ more) ≡ (held ++ taken) ++ (rest ++ more)
regrouped held taken rest more = simp append_assoc

pub holds_more : (stream : List ℕ) (handed : List Arrival) (held rest next after : List ℕ) → IsCutTo stream handed held rest
    → Advances held rest after (step.Unfinished next) → IsCutTo stream handed next after
holds_more stream handed held rest next after so_far a = (subst IsUnfinished (sym a.makes.0) a.makes.1, goes_on)
  where
    goes_on : (more : List ℕ) → frames_of (stream ++ more) ≡ followed_by handed (frames_of (next ++ (after ++ more)))
    goes_on more =
        so_far.1 more ∙ ap (λ r. followed_by handed (frames_of (held ++ (r ++ more)))) a.parts
        ∙ ap (λ s. followed_by handed (frames_of s)) (regrouped held a.taken after more)
        ∙ ap (λ h. followed_by handed (frames_of (h ++ (after ++ more)))) (sym a.makes.0)

pub holds_nothing : (stream : List ℕ) (handed : List Arrival) (held rest after payload : List ℕ) → IsCutTo stream handed held rest
    → (taken : List ℕ) → rest ≡ taken ++ after → IsWhole (held ++ taken) payload → IsCutTo stream (handed ++ arrival.Payload payload ∷ []) [] after
holds_nothing stream handed held rest after payload so_far taken parts whole = (nothing_unfinished, goes_on)
  where
    goes_on : (more : List ℕ) → frames_of (stream ++ more) ≡ followed_by (handed ++ arrival.Payload payload ∷ []) (frames_of ([] ++ (after ++ more)))
    goes_on more =
        so_far.1 more ∙ ap (λ r. followed_by handed (frames_of (held ++ (r ++ more)))) parts
        ∙ ap (λ s. followed_by handed (frames_of s)) (regrouped held taken after more)
        ∙ ap (followed_by handed) (frames_of-whole (held ++ taken) payload (after ++ more) whole)
        ∙ followed_by-append handed (arrival.Payload payload ∷ []) (frames_of (after ++ more))

pub is_oversize : (stream : List ℕ) (handed : List Arrival) (held rest after : List ℕ) → IsCutTo stream handed held rest
    → (taken : List ℕ) → rest ≡ taken ++ after → IsTooLong (held ++ taken) → HasReadTo stage.Oversize stream (handed ++ arrival.Oversize ∷ [])
is_oversize stream handed held rest after so_far taken parts long more =
    so_far.1 more ∙ ap (λ r. followed_by handed (frames_of (held ++ (r ++ more)))) parts
    ∙ ap (λ s. followed_by handed (frames_of s)) (regrouped held taken after more)
    ∙ ap (followed_by handed) (frames_of-too_long (held ++ taken) (after ++ more) long)

pub is_open : (stream : List ℕ) (handed : List Arrival) (held rest : List ℕ) → IsCutTo stream handed held rest → rest ≡ [] → HasReadTo (stage.Open held) stream handed
is_open stream handed held rest so_far none = (so_far.0, λ more. so_far.1 more ∙ ap (λ r. followed_by handed (frames_of (held ++ (r ++ more)))) none)

behind : (stream held piece more : List ℕ) (handed : List Arrival) → frames_of (stream ++ (piece ++ more)) ≡ followed_by handed (frames_of (held ++ (piece ++ more)))
    → frames_of ((stream ++ piece) ++ more) ≡ followed_by handed (frames_of ((held ++ piece) ++ more))
behind stream held piece more handed e =
    ap frames_of (append_assoc stream piece more) ∙ e ∙ ap (λ s. followed_by handed (frames_of s)) (sym (append_assoc held piece more))

-- what was read before a piece, and what the piece made of the bytes that were held
pub reads_on : (s : Stage) (stream held piece : List ℕ) (handed arrivals : List Arrival) → HasReadTo (stage.Open held) stream handed
    → Cuts held piece arrivals s → HasReadTo s (stream ++ piece) (handed ++ arrivals)
reads_on (stage.Open next) stream held piece handed arrivals so_far cuts =
    let c = cuts so_far.0 in
    (c.0, λ more. behind stream held piece more handed (so_far.1 (piece ++ more)) ∙ ap (followed_by handed) (c.1 more) ∙ followed_by-append handed arrivals (frames_of (next ++ more)))
reads_on stage.Oversize stream held piece handed arrivals so_far cuts =
    λ more. behind stream held piece more handed (so_far.1 (piece ++ more)) ∙ ap (followed_by handed) (cuts so_far.0 more)
reads_on stage.Broken stream held piece handed arrivals so_far cuts = cuts so_far.0

-- the stream's arrivals at its end, by what is held
pub ended : (stream held : List ℕ) (handed : List Arrival) (ending : Ending) → HasReadTo (stage.Open held) stream handed
    → frames_of held ≡ record { arrived = []; ending = ending } → frames_of stream ≡ record { arrived = handed; ending = ending }
ended stream held handed ending so_far rest =
    ap frames_of (sym (append-nil stream)) ∙ so_far.1 [] ∙ ap (λ h. followed_by handed (frames_of h)) (append-nil held) ∙ ap (followed_by handed) rest
    ∙ ap (λ (xs : List Arrival). record { arrived = xs; ending = ending }) (append-nil handed)

pub ended_oversize : (stream : List ℕ) (handed : List Arrival) → HasReadTo stage.Oversize stream handed → frames_of stream ≡ record { arrived = handed; ending = ending.Oversize }
ended_oversize stream handed so_far = ap frames_of (sym (append-nil stream)) ∙ so_far []

-- an ending of a stream that may go on
abbrev pub IsOngoing : Ending → Type 0
IsOngoing e = (e ≡ ending.Clean) ⊎ (e ≡ ending.Torn)

pub is_not_broken : (e : Ending) → IsOngoing e → e ≢ ending.Broken
is_not_broken e (inl clean) broken = cc
is_not_broken e (inr torn) broken = cc

pub is_not_oversize : (e : Ending) → IsOngoing e → e ≢ ending.Oversize
is_not_oversize e (inl clean) oversize = cc
is_not_oversize e (inr torn) oversize = cc

-- ---- what has arrived so far

-- the bytes that are held are no frame and not too long a length
record Ends (held : List ℕ) : Type 0 where
  told : Ending
  is : frames_of held ≡ record { arrived = []; ending = told }
  other : told ≢ ending.Oversize

held_ends : (held : List ℕ) → IsUnfinished held → Ends held
held_ends [] unfinished = record { told = ending.Clean; is = frames_of-nothing; other = λ e. cc }
held_ends (b ∷ bytes) unfinished =
    record { told = ending.Torn; is = frames_of-unfinished (b ∷ bytes) (omega arith) unfinished; other = λ e. cc }

pub has_arrived : (s : Stage) (stream : List ℕ) (handed : List Arrival) → HasReadTo s stream handed → (frames_of stream).arrived ≡ handed
has_arrived (stage.Open held) stream handed h =
    let e = held_ends held h.0 in
    ap (λ (a : Frames). a.arrived) (ended stream held handed e.told h e.is)
has_arrived stage.Oversize stream handed h = ap (λ (a : Frames). a.arrived) (ended_oversize stream handed h)
has_arrived stage.Broken stream handed h = absurd h

pub has_ended : (s : Stage) (stream : List ℕ) (handed : List Arrival) → HasReadTo s stream handed → (frames_of stream).ending ≡ ending.Oversize → HasEndedAt s
has_ended (stage.Open held) stream handed h oversize =
    let e = held_ends held h.0 in
    absurd (e.other (sym (ap (λ (a : Frames). a.ending) (ended stream held handed e.told h e.is)) ∙ oversize))
has_ended stage.Oversize stream handed h oversize = tt
has_ended stage.Broken stream handed h oversize = tt
