-- A stream by its version: what of it is frames.
use Rattle.std.proofs.Common.{◌≡◌, ◌≢◌, ℕ, ◌≤◌, length, arith, inl, inr, eqb, true, false, List, [], ◌∷◌, ◌++◌, refl, sym, ap, subst, ◌∙◌}
use Rattle.std.specs.Prelude.{Option, Some, None}
use Rattle.std.proofs.lemmas.Bool.{ne_eqb, eq-eqb, cases_eq}
use Rattle.std.proofs.lemmas.List.{append-nil}
use Rattle.mac_wire.specs.declared.arrival.Arrival.{Arrival}
use Rattle.mac_wire.specs.declared.arrival.Ending.{Ending}
use Rattle.mac_wire.specs.declared.arrival.Ending.TheVariants as ending
use Rattle.mac_wire.specs.declared.frame.Stage.{Stage}
use Rattle.mac_wire.specs.declared.frame.Stage.TheVariants as stage
use Rattle.mac_wire.specs.declared.version.Version.{Version}
use Rattle.mac_wire.specs.declared.version.Version.TheVariants as version
use Rattle.mac_wire.specs.declared.version.TheConstants.{HELLO}
use Rattle.mac_wire.specs.declared.arrival.TheConstants.{FRAME_MAX}
use Rattle.mac_wire.specs.Frame.{Frames, frame, frames_of}
use Rattle.mac_wire.specs.Stream.{Arrivals, arrivals_of, in_version, version_or_one, version_told}
use Rattle.mac_wire.specs.FrameReader.{HasReadTo, HasReadIn, HasEndedAt}
use Rattle.mac_wire.specs.Steps.{Cuts, told_after, frames_after}
use Rattle.mac_wire.proofs.Frames.{frames_of-nothing}
use Rattle.mac_wire.proofs.Cutting.{reads_on, ended, ended_oversize, has_arrived, has_ended}

-- a stream that begins with the hello
pub arrivals_of-hello : (rest : List ℕ) → arrivals_of (HELLO ∷ rest) ≡ in_version version.Two (frames_of rest)
unfolding arrivals_of
arrivals_of-hello rest = refl

-- and one that begins otherwise
pub arrivals_of-other : (first : ℕ) (rest : List ℕ) → first ≢ HELLO → arrivals_of (first ∷ rest) ≡ in_version version.One (frames_of (first ∷ rest))
unfolding arrivals_of
arrivals_of-other first rest other = rw (ne_eqb first HELLO other) refl

pub arrivals_of-nothing : arrivals_of [] ≡ in_version version.One (frames_of [])
unfolding arrivals_of
arrivals_of-nothing = refl

pub nothing_arrived : (arrivals_of []).arrived ≡ []
nothing_arrived = ap (λ (a : Arrivals). a.arrived) arrivals_of-nothing ∙ ap (λ (f : Frames). f.arrived) frames_of-nothing

pub same_version : (first : ℕ) (rest more : List ℕ) → (arrivals_of (first ∷ rest)).version ≡ (arrivals_of (first ∷ more)).version
unfolding arrivals_of
same_version first rest more = elim (cases_eq first HELLO) [
  | inl hello ↦ rw (eq-eqb first HELLO hello) refl
  | inr other ↦ rw (ne_eqb first HELLO other) refl
]

-- the high byte of the length of a frame that is allowed is zero
pub arrivals_of-frame : (payload rest : List ℕ) → length payload ≤ FRAME_MAX → arrivals_of (frame payload ++ rest) ≡ in_version version.One (frames_of (frame payload ++ rest))
arrivals_of-frame payload rest fits = arrivals_of-other _ _ (λ is. absurd (omega (arith, fits, is)))

pub tells_hello : (first : ℕ) (rest : List ℕ) → first ≡ HELLO → Some version.Two ≡ version_told (first ∷ rest)
tells_hello first rest hello = ap (λ (a : Arrivals). Some a.version) (sym (arrivals_of-hello rest)) ∙ ap (λ (b : ℕ). version_told (b ∷ rest)) (sym hello)

pub tells_other : (first : ℕ) (rest : List ℕ) → first ≢ HELLO → Some version.One ≡ version_told (first ∷ rest)
tells_other first rest other = ap (λ (a : Arrivals). Some a.version) (sym (arrivals_of-other first rest other))

-- what of a stream is frames, as far as a reader was fed it
pub record Parts (v : Option Version) (s : Stage) (stream : List ℕ) (handed : List Arrival) : Type 0 where
  pub frames : List ℕ
  pub read : HasReadTo s frames handed
  pub is : arrivals_of stream ≡ in_version (version_or_one v) (frames_of frames)

pub parts : (v : Option Version) (s : Stage) (stream : List ℕ) (handed : List Arrival) → HasReadIn v s stream handed → Parts v s stream handed
unfolding arrivals_of
parts None s stream handed (none, read) = record { frames = []; read = read; is = ap arrivals_of none }
parts (Some version.One) s stream handed (first, rest, is, other, read) =
    record { frames = stream; read = read; is = ap arrivals_of is ∙ arrivals_of-other first rest other ∙ ap (λ (l : List ℕ). in_version version.One (frames_of l)) (sym is) }
parts (Some version.Two) s stream handed (rest, is, read) = record { frames = rest; read = read; is = ap arrivals_of is ∙ arrivals_of-hello rest }

-- the version that is held is that of the stream
pub version_tells : (v : Option Version) (s : Stage) (stream : List ℕ) (handed : List Arrival) → HasReadIn v s stream handed → v ≡ version_told stream
version_tells None s stream handed (none, read) = ap version_told (sym none)
version_tells (Some version.One) s stream handed (first, rest, is, other, read) =
    ap (λ (a : Arrivals). Some a.version) (sym (arrivals_of-other first rest other)) ∙ ap version_told (sym is)
version_tells (Some version.Two) s stream handed (rest, is, read) =
    ap (λ (a : Arrivals). Some a.version) (sym (arrivals_of-hello rest)) ∙ ap version_told (sym is)

-- one more piece of a stream whose first byte is there
pub tells_after : (v : Option Version) (s : Stage) (stream piece : List ℕ) (handed : List Arrival) → HasReadIn v s stream handed → told_after v piece ≡ version_told (stream ++ piece)
tells_after None s stream piece handed (none, read) = ap (λ (l : List ℕ). version_told (l ++ piece)) (sym none)
tells_after (Some version.One) s stream piece handed (first, rest, is, other, read) =
    ap (λ (a : Arrivals). Some a.version) (sym (arrivals_of-other first (rest ++ piece) other)) ∙ ap (λ (l : List ℕ). version_told (l ++ piece)) (sym is)
tells_after (Some version.Two) s stream piece handed (rest, is, read) =
    ap (λ (a : Arrivals). Some a.version) (sym (arrivals_of-hello (rest ++ piece))) ∙ ap (λ (l : List ℕ). version_told (l ++ piece)) (sym is)

-- the first piece of a stream
reads_first : (s : Stage) (held piece : List ℕ) (handed arrivals : List Arrival) → HasReadTo (stage.Open held) [] handed
    → Cuts held (frames_after None piece) arrivals s → HasReadIn (told_after None piece) s piece (handed ++ arrivals)
unfolding arrivals_of
reads_first s held [] handed arrivals so_far cuts = (refl, reads_on s [] held [] handed arrivals so_far cuts)
reads_first s held (first ∷ rest) handed arrivals so_far cuts = elim (cases_eq first HELLO) [
  | inl hello ↦
      let is : eqb first HELLO ≡ true = eq-eqb first HELLO hello in
      let cuts' : Cuts held rest arrivals s = rw is at cuts in
      rw is (rest, ap (λ (b : ℕ). b ∷ rest) hello, reads_on s [] held rest handed arrivals so_far cuts')
  | inr other ↦
      let is : eqb first HELLO ≡ false = ne_eqb first HELLO other in
      let cuts' : Cuts held (first ∷ rest) arrivals s = rw is at cuts in
      rw is (first, rest, refl, other, reads_on s [] held (first ∷ rest) handed arrivals so_far cuts')
]

-- what was read before a piece, and what the piece made of the bytes that were held
pub reads_in : (v : Option Version) (s : Stage) (stream held piece : List ℕ) (handed arrivals : List Arrival) → HasReadIn v (stage.Open held) stream handed
    → Cuts held (frames_after v piece) arrivals s → HasReadIn (told_after v piece) s (stream ++ piece) (handed ++ arrivals)
reads_in None s stream held piece handed arrivals (none, so_far) cuts =
    subst (λ (l : List ℕ). HasReadIn (told_after None piece) s (l ++ piece) (handed ++ arrivals)) (sym none) (reads_first s held piece handed arrivals so_far cuts)
reads_in (Some version.One) s stream held piece handed arrivals (first, rest, is, other, so_far) cuts =
    (first, rest ++ piece, ap (λ (l : List ℕ). l ++ piece) is, other, reads_on s stream held piece handed arrivals so_far cuts)
reads_in (Some version.Two) s stream held piece handed arrivals (rest, is, so_far) cuts =
    (rest ++ piece, ap (λ (l : List ℕ). l ++ piece) is, reads_on s rest held piece handed arrivals so_far cuts)

in_parts : (v : Option Version) (frames : List ℕ) (handed : List Arrival) (told : Ending) → frames_of frames ≡ record { arrived = handed; ending = told }
    → in_version (version_or_one v) (frames_of frames) ≡ record { version = version_or_one v; arrived = handed; ending = told }
in_parts v frames handed told is = ap (in_version (version_or_one v)) is

-- the stream's arrivals at its end, by what is held
pub ended_in : (v : Option Version) (stream held : List ℕ) (handed : List Arrival) (told : Ending) → HasReadIn v (stage.Open held) stream handed
    → frames_of held ≡ record { arrived = []; ending = told } → arrivals_of stream ≡ record { version = version_or_one v; arrived = handed; ending = told }
ended_in v stream held handed told so_far rest =
    let p = parts v (stage.Open held) stream handed so_far in
    p.is ∙ in_parts v p.frames handed told (ended p.frames held handed told p.read rest)

pub ended_oversize_in : (v : Option Version) (stream : List ℕ) (handed : List Arrival) → HasReadIn v stage.Oversize stream handed
    → arrivals_of stream ≡ record { version = version_or_one v; arrived = handed; ending = ending.Oversize }
ended_oversize_in v stream handed so_far =
    let p = parts v stage.Oversize stream handed so_far in
    p.is ∙ in_parts v p.frames handed ending.Oversize (ended_oversize p.frames handed p.read)

pub has_arrived_in : (v : Option Version) (s : Stage) (stream : List ℕ) (handed : List Arrival) → HasReadIn v s stream handed → (arrivals_of stream).arrived ≡ handed
has_arrived_in v s stream handed so_far =
    let p = parts v s stream handed so_far in
    ap (λ (a : Arrivals). a.arrived) p.is ∙ has_arrived s p.frames handed p.read

pub has_ended_in : (v : Option Version) (s : Stage) (stream : List ℕ) (handed : List Arrival) → HasReadIn v s stream handed → (arrivals_of stream).ending ≡ ending.Oversize → HasEndedAt s
has_ended_in v s stream handed so_far oversize =
    let p = parts v s stream handed so_far in
    has_ended s p.frames handed p.read (sym (ap (λ (a : Arrivals). a.ending) p.is) ∙ oversize)

-- after an Oversize the version is there
pub tells_ended : (v : Option Version) (s : Stage) (stream piece : List ℕ) (handed : List Arrival) → HasReadIn v s stream handed → HasEndedAt s → v ≡ version_told (stream ++ piece)
tells_ended None (stage.Open held) stream piece handed read ended = absurd ended
tells_ended None stage.Oversize stream piece handed (none, read) ended =
    absurd (let nothing : ending.Clean ≡ ending.Oversize = ap (λ (f : Frames). f.ending) (sym frames_of-nothing ∙ read []) in cc)
tells_ended None stage.Broken stream piece handed (none, read) ended = absurd read
tells_ended (Some v) s stream piece handed read ended = tells_after (Some v) s stream piece handed read

-- ---- more of a stream

frames_longer : (s : Stage) (frames more : List ℕ) (handed : List Arrival) → HasReadTo s frames handed
    → (rest : List Arrival) × ((frames_of (frames ++ more)).arrived ≡ handed ++ rest)
frames_longer (stage.Open held) frames more handed read = ((frames_of (held ++ more)).arrived, ap (λ (f : Frames). f.arrived) (read.1 more))
frames_longer stage.Oversize frames more handed read = ([], ap (λ (f : Frames). f.arrived) (read more) ∙ sym (append-nil handed))
frames_longer stage.Broken frames more handed read = absurd read

-- whatever comes behind what was handed out
pub arrived_longer : (v : Option Version) (s : Stage) (stream more : List ℕ) (handed : List Arrival) → HasReadIn v s stream handed
    → (rest : List Arrival) × ((arrivals_of (stream ++ more)).arrived ≡ handed ++ rest)
arrived_longer None s stream more handed (none, read) =
    let nothing : [] ≡ handed = ap (λ (f : Frames). f.arrived) (sym frames_of-nothing) ∙ has_arrived s [] handed read in
    ((arrivals_of more).arrived, ap (λ (l : List ℕ). (arrivals_of (l ++ more)).arrived) none ∙ ap (λ (l : List Arrival). l ++ (arrivals_of more).arrived) nothing)
arrived_longer (Some version.One) s stream more handed (first, rest, is, other, read) =
    let behind = frames_longer s stream more handed read in
    let whole : arrivals_of (stream ++ more) ≡ in_version version.One (frames_of (stream ++ more)) =
    ap (λ (l : List ℕ). arrivals_of (l ++ more)) is ∙ arrivals_of-other first (rest ++ more) other ∙ ap (λ (l : List ℕ). in_version version.One (frames_of (l ++ more))) (sym is) in
    (behind.0, ap (λ (a : Arrivals). a.arrived) whole ∙ behind.1)
arrived_longer (Some version.Two) s stream more handed (rest, is, read) =
    let behind = frames_longer s rest more handed read in
    let whole : arrivals_of (stream ++ more) ≡ in_version version.Two (frames_of (rest ++ more)) =
    ap (λ (l : List ℕ). arrivals_of (l ++ more)) is ∙ arrivals_of-hello (rest ++ more) in
    (behind.0, ap (λ (a : Arrivals). a.arrived) whole ∙ behind.1)

-- the version that is told is that of the stream
pub told_is : (stream : List ℕ) → version_or_one (version_told stream) ≡ (arrivals_of stream).version
unfolding arrivals_of
told_is [] = refl
told_is (first ∷ rest) = refl

pub told_some : (stream : List ℕ) (v : Version) → version_told stream ≡ Some v → (arrivals_of stream).version ≡ v
told_some stream v is = sym (told_is stream) ∙ ap version_or_one is

pub told_first : (first : ℕ) (rest : List ℕ) (v : Option Version) → v ≡ version_told (first ∷ rest) → version_told (first ∷ rest) ≡ Some (version_or_one v)
told_first first rest v is = ap (λ (w : Option Version). Some (version_or_one w)) (sym is)

pub told_more : (stream more : List ℕ) (v : Version) → version_told stream ≡ Some v → version_told (stream ++ more) ≡ Some v
told_more [] more v is = absurd cc
told_more (first ∷ rest) more v is = ap (λ (w : Version). Some w) (same_version first (rest ++ more) rest) ∙ is

pub ended_at : (s : Stage) → ((held : List ℕ) → s ≡ stage.Open held → ⊥) → HasEndedAt s
ended_at (stage.Open held) other = absurd (other held refl)
ended_at stage.Oversize other = tt
ended_at stage.Broken other = tt
