-- A connection between two requests, and the reader that goes on with it.
use Rattle.std.proofs.Common.{◌≡◌, ℕ, ◌+◌, ◌≤◌, inl, inr, List, [], ◌∷◌, ◌++◌, length, take, refl, sym, ap, subst, ◌∙◌, append_assoc, arith}
use Rattle.std.specs.Prelude.{Option, Some, None}
use Rattle.std.specs.Int.{w32, from_be_bytes}
use Rattle.std.proofs.lemmas.Bool.{cases_eq, eq-eqb, ne_eqb}
use Rattle.std.proofs.lemmas.List.{append-nil, nil_from_length, take-append-drop, length-take, take-take, drop-take}
use Rattle.mac_wire.specs.declared.arrival.Arrival.{Arrival}
use Rattle.mac_wire.specs.declared.arrival.Arrival.TheVariants as arrival
use Rattle.mac_wire.specs.declared.arrival.Ending.TheVariants as ending
use Rattle.mac_wire.specs.declared.arrival.TheConstants.{FRAME_MAX}
use Rattle.mac_wire.specs.declared.frame.Stage.{Stage}
use Rattle.mac_wire.specs.declared.frame.Stage.TheVariants as stage
use Rattle.mac_wire.specs.declared.version.Version.{Version}
use Rattle.mac_wire.specs.declared.version.Version.TheVariants as version
use Rattle.mac_wire.specs.declared.version.TheConstants.{HELLO}
use Rattle.mac_wire.specs.Cut.{IsFront}
use Rattle.mac_wire.specs.Frame.{Frames, Arrive, frames_of, followed_by, told_length}
use Rattle.mac_wire.specs.Partial.{IsWhole}
use Rattle.mac_wire.specs.Stream.{Arrivals, arrivals_of, in_version, version_told}
use Rattle.mac_wire.specs.FrameReader.{HasReadTo, HasReadIn}
use Rattle.mac_wire.specs.Session.{HasCome, Fronts}
use Rattle.mac_wire.specs.Steps.{Cuts, told_after, frames_after}
use Rattle.mac_wire.proofs.Cutting.{followed_by-append, nothing_unfinished}
use Rattle.mac_wire.proofs.Frames.{frames_of-nothing, frames_of-unfinished, frames_of-whole}
use Rattle.mac_wire.proofs.Opening.{arrivals_of-hello, arrivals_of-other, nothing_arrived, tells_hello, tells_other, told_more}

goes_on : (s : Stage) (frames carried : List ℕ) (arrived more : List Arrival) → Arrive frames arrived carried
    → HasReadTo s carried more → HasReadTo s frames (arrived ++ more)
goes_on (stage.Open held) frames carried arrived more are read =
    (read.0, λ m. are m ∙ ap (followed_by arrived) (read.1 m) ∙ followed_by-append arrived more (frames_of (held ++ m)))
goes_on stage.Oversize frames carried arrived more are read = λ m. are m ∙ ap (followed_by arrived) (read m)
goes_on stage.Broken frames carried arrived more are read = read

frames_in : Arrivals → Frames
frames_in a = record { arrived = a.arrived; ending = a.ending }

same_version : (v w : Version) → Some v ≡ Some w → v ≡ w
same_version v w e = cc

-- what a reader has read that is fed what is carried
pub resumes : (v : Option Version) (s : Stage) (stream carried : List ℕ) (arrived more : List Arrival) → HasCome v stream arrived carried
    → Cuts [] carried more s → HasReadIn v s stream (arrived ++ more)
unfolding frames_in
resumes None s stream carried arrived more (none, nothing, empty) cuts = (
  none,
  subst (λ (l : List Arrival). HasReadTo s [] (l ++ more)) (sym nothing) (subst (λ (l : List ℕ). HasReadTo s l more) empty (cuts nothing_unfinished)),
)
resumes (Some v) s [] carried arrived more (told, are) cuts = absurd cc
resumes (Some v) s (first ∷ rest) carried arrived more (told, are) cuts =
    let stream : List ℕ = first ∷ rest in
    let read : HasReadTo s carried more = cuts nothing_unfinished in
    elim (cases_eq first HELLO) [
      | inl hello ↦
          let front : (m : List ℕ) → arrivals_of (stream ++ m) ≡ in_version version.Two (frames_of (rest ++ m)) =
          λ m. ap (λ (b : ℕ). arrivals_of (b ∷ (rest ++ m))) hello ∙ arrivals_of-hello (rest ++ m) in
          subst (λ (w : Version). HasReadIn (Some w) s stream (arrived ++ more)) (same_version version.Two v (tells_hello first rest hello ∙ told))
          (rest, ap (λ (b : ℕ). b ∷ rest) hello, goes_on s rest carried arrived more (λ m. ap frames_in (sym (front m) ∙ are m)) read)
      | inr other ↦
          let front : (m : List ℕ) → arrivals_of (stream ++ m) ≡ in_version version.One (frames_of (stream ++ m)) =
          λ m. arrivals_of-other first (rest ++ m) other in
          subst (λ (w : Version). HasReadIn (Some w) s stream (arrived ++ more)) (same_version version.One v (tells_other first rest other ∙ told))
          (first, rest, refl, other, goes_on s stream carried arrived more (λ m. ap frames_in (sym (front m) ∙ are m)) read)
    ]

-- nothing but nothing is read of no bytes
record Nothing (held : List ℕ) (handed : List Arrival) : Type 0 where
  nothing : handed ≡ []
  empty : held ≡ []

pub first_nil : (a b : List Arrival) → a ++ b ≡ [] → a ≡ []
first_nil [] b e = refl
first_nil (x ∷ a) b e = absurd cc

nothing_held : (held : List ℕ) (handed : List Arrival) → HasReadTo (stage.Open held) [] handed → Nothing held handed
nothing_held [] handed (unfinished, are) = record {
  nothing = first_nil handed (frames_of []).arrived (ap (λ (f : Frames). f.arrived) (sym (are []) ∙ frames_of-nothing));
  empty = refl;
}
nothing_held (b ∷ bytes) handed (unfinished, are) = absurd (
    let torn : frames_of ((b ∷ bytes) ++ []) ≡ record { arrived = []; ending = ending.Torn } =
    ap frames_of (append-nil (b ∷ bytes)) ∙ frames_of-unfinished (b ∷ bytes) (omega arith) unfinished in
    let both : ending.Clean ≡ ending.Torn = ap (λ (f : Frames). f.ending) (sym frames_of-nothing ∙ are [] ∙ ap (followed_by handed) torn) in
    cc)

-- what a reader holds is what is carried
pub carries : (v : Option Version) (held stream : List ℕ) (handed : List Arrival) → HasReadIn v (stage.Open held) stream handed → HasCome v stream handed held
carries None held stream handed (none, read) =
    let n = nothing_held held handed read in
    (none, n.nothing, n.empty)
carries (Some version.One) held stream handed (first, rest, is, other, read) = (
  ap version_told is ∙ sym (tells_other first rest other),
  λ more. ap (λ (l : List ℕ). arrivals_of (l ++ more)) is ∙ arrivals_of-other first (rest ++ more) other
      ∙ ap (λ (l : List ℕ). in_version version.One (frames_of (l ++ more))) (sym is) ∙ ap (in_version version.One) (read.1 more),
)
carries (Some version.Two) held stream handed (rest, is, read) = (
  ap version_told is ∙ sym (tells_hello HELLO rest refl),
  λ more. ap (λ (l : List ℕ). arrivals_of (l ++ more)) is ∙ arrivals_of-hello (rest ++ more) ∙ ap (in_version version.Two) (read.1 more),
)

-- ---- more of a stream, behind what is carried

-- a piece more came: it stands behind what was carried
pub come_more : (v : Option Version) (read carried piece : List ℕ) (arrived : List Arrival) → HasCome v read arrived carried
    → HasCome (told_after v piece) (read ++ piece) arrived (carried ++ frames_after v piece)
unfolding arrivals_of
come_more None read carried [] arrived (none, nothing, empty) = (ap (λ (l : List ℕ). l ++ []) none, nothing, ap (λ (l : List ℕ). l ++ []) empty)
come_more None read carried (first ∷ rest) arrived (none, nothing, empty) =
    let piece : List ℕ = first ∷ rest in
    subst (λ (l : List ℕ). HasCome (version_told piece) (l ++ piece) arrived (carried ++ frames_after None piece)) (sym none)
    (subst (λ (l : List ℕ). HasCome (version_told piece) piece arrived (l ++ frames_after None piece)) (sym empty)
    (subst (λ (l : List Arrival). HasCome (version_told piece) piece l (frames_after None piece)) (sym nothing)
    (elim (cases_eq first HELLO) [
      | inl hello ↦ rw (eq-eqb first HELLO hello) (refl, λ more. refl)
      | inr other ↦ rw (ne_eqb first HELLO other) (refl, λ more. refl)
    ])))
come_more (Some v) read carried piece arrived (told, are) = (
  told_more read piece v told,
  λ more. ap arrivals_of (append_assoc read piece more) ∙ are (piece ++ more)
      ∙ ap (λ (l : List ℕ). in_version v (followed_by arrived (frames_of l))) (sym (append_assoc carried piece more)),
)

-- some of the rest was cut off
pub come_cut : (v : Option Version) (read rest behind : List ℕ) (arrived more : List Arrival) → HasCome v read arrived rest
    → Arrive rest more behind → length behind ≤ length rest → HasCome v read (arrived ++ more) behind
come_cut None read rest behind arrived more (none, nothing, empty) are shorter =
    let same : behind ≡ [] = nil_from_length behind (omega (arith, shorter, ap length empty)) in
    let clean : more ++ (frames_of []).arrived ≡ [] =
    ap (λ (l : List ℕ). more ++ (frames_of (l ++ [])).arrived) (sym same) ∙ ap (λ (f : Frames). f.arrived) (sym (are []))
    ∙ ap (λ (l : List ℕ). (frames_of (l ++ [])).arrived) empty ∙ ap (λ (f : Frames). f.arrived) frames_of-nothing in
    (none, ap (λ (l : List Arrival). l ++ more) nothing ∙ first_nil more (frames_of []).arrived clean, same)
come_cut (Some v) read rest behind arrived more (told, come) are shorter =
    (told, λ m. come m ∙ ap (λ (f : Frames). in_version v (followed_by arrived f)) (are m) ∙ ap (in_version v) (followed_by-append arrived more (frames_of (behind ++ m))))

pub come_fronts : (v : Option Version) (read rest : List ℕ) (front owed : List Arrival) → HasCome v read (front ++ owed) rest → Fronts v read front
come_fronts None read rest front owed (none, nothing, empty) = record {
  told = ap version_told (sym none);
  lost = [];
  came = ap (λ (l : List ℕ). (arrivals_of l).arrived) none ∙ nothing_arrived ∙ sym (first_nil front owed nothing) ∙ sym (append-nil front);
}
come_fronts (Some v) read rest front owed (told, are) = record {
  told = sym told;
  lost = owed ++ (frames_of (rest ++ [])).arrived;
  came = ap (λ (l : List ℕ). (arrivals_of l).arrived) (sym (append-nil read)) ∙ ap (λ (a : Arrivals). a.arrived) (are [])
      ∙ append_assoc front owed (frames_of (rest ++ [])).arrived;
}

-- a frame in front arrives, and then what is behind it
pub front_arrives : (most : ℕ) (bytes payload rest : List ℕ) → most ≤ FRAME_MAX → IsFront most bytes payload rest → Arrive bytes (arrival.Payload payload ∷ []) rest
front_arrives most bytes payload rest fits f more =
    let told : ℕ = told_length bytes in
    let front : List ℕ = take (4 + told) bytes in
    let parts : bytes ≡ front ++ rest = sym (take-append-drop (4 + told) bytes) ∙ ap (λ (l : List ℕ). front ++ l) (sym f.rest_is) in
    let size : length front ≡ 4 + told = omega (arith, length-take (4 + told) bytes, f.whole) in
    let same : told_length front ≡ told = ap (from_be_bytes w32) (take-take 4 (4 + told) bytes (omega arith)) in
    let whole : IsWhole front payload = record {
      long = omega (arith, size);
      allowed = subst (λ (n : ℕ). n ≤ FRAME_MAX) (sym same) (omega (arith, f.allowed, fits));
      complete = size ∙ ap (λ (n : ℕ). 4 + n) (sym same);
      is_payload = f.payload_is ∙ sym (drop-take 4 told bytes);
    } in
    ap (λ (l : List ℕ). frames_of (l ++ more)) parts ∙ ap frames_of (append_assoc front rest more) ∙ frames_of-whole front payload (rest ++ more) whole

pub arrive_both : (a b c : List ℕ) (first second : List Arrival) → Arrive a first b → Arrive b second c → Arrive a (first ++ second) c
arrive_both a b c first second one two more =
    one more ∙ ap (followed_by first) (two more) ∙ followed_by-append first second (frames_of (c ++ more))
