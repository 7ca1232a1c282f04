-- A frame that is too long: however the stream goes on, nothing behind it arrives.
use Rattle.std.proofs.Common.{◌≡◌, ℕ, zero, suc, ◌+◌, ◌≤◌, inl, inr, List, [], ◌∷◌, ◌++◌, length, take, drop, refl, sym, ap, ◌∙◌, arith}
use Rattle.std.specs.Prelude.{Some}
use Rattle.std.proofs.lemmas.Bool.{cases_eq, cases_lt}
use Rattle.std.proofs.lemmas.List.{append-nil, length-drop}
use Rattle.mac_wire.specs.declared.arrival.Arrival.TheVariants as arrival
use Rattle.mac_wire.specs.declared.arrival.Ending.TheVariants as ending
use Rattle.mac_wire.specs.declared.arrival.TheConstants.{FRAME_MAX}
use Rattle.mac_wire.specs.declared.session.Session.{Session}
use Rattle.mac_wire.specs.declared.version.TheConstants.{HELLO}
use Rattle.mac_wire.specs.declared.version.Version.TheVariants as version
use Rattle.mac_wire.specs.Cut.{IsFront}
use Rattle.mac_wire.specs.Frame.{Arrive, Frames, IsUnfinished, followed_by, frames_of, told_length}
use Rattle.mac_wire.specs.Partial.{IsTooLong}
use Rattle.mac_wire.specs.Stream.{Arrivals, arrivals_of, in_version, version_told}
use Rattle.mac_wire.proofs.Frames.{frames_of-nothing, frames_of-too_long, frames_of-unfinished}
use Rattle.mac_wire.proofs.Opening.{arrivals_of-hello, arrivals_of-other}
use Rattle.mac_wire.proofs.Sessions.{front_arrives}
use Rattle.mac_decide.specs.declared.job.Job.{Job}
use Rattle.mac_plain.specs.Client.{EndsTooLong}

-- less than a whole frame doesn't end so
not_unfinished : (bytes : List ℕ) → IsUnfinished bytes → (frames_of bytes).ending ≡ ending.Oversize → ⊥
not_unfinished [] lacks e = let both : ending.Clean ≡ ending.Oversize = ap (λ (f : Frames). f.ending) (sym frames_of-nothing) ∙ e in cc
not_unfinished (b ∷ bytes) lacks e =
    let both : ending.Torn ≡ ending.Oversize = ap (λ (f : Frames). f.ending) (sym (frames_of-unfinished (b ∷ bytes) (omega arith) lacks)) ∙ e in cc

-- whatever follows frames of which the last is too long, they are those
stays : (n : ℕ) (bytes more : List ℕ) → length bytes ≤ n → (frames_of bytes).ending ≡ ending.Oversize → frames_of (bytes ++ more) ≡ frames_of bytes
stays zero bytes more small e = absurd (not_unfinished bytes (λ long. absurd (omega arith)) e)
stays (suc n) bytes more small e =
    let told : ℕ = told_length bytes in
    let payload : List ℕ = take told (drop 4 bytes) in
    let rest : List ℕ = drop (4 + told) bytes in
    elim (cases_lt (length bytes) 4) [
      | inl short ↦ absurd (not_unfinished bytes (λ long. absurd (omega arith)) e)
      | inr long ↦ elim (cases_lt FRAME_MAX told) [
        | inl passed ↦
            let too : IsTooLong bytes = record { long = long; passed = passed } in
            frames_of-too_long bytes more too ∙ sym (ap frames_of (sym (append-nil bytes)) ∙ frames_of-too_long bytes [] too)
        | inr allowed ↦ elim (cases_lt (length bytes) (4 + told)) [
          | inl lacks ↦ absurd (not_unfinished bytes (λ some. (allowed, lacks)) e)
          | inr whole ↦
              let front : IsFront FRAME_MAX bytes payload rest = record { long = long; allowed = allowed; whole = whole; payload_is = refl; rest_is = refl } in
              let arrives : Arrive bytes (arrival.Payload payload ∷ []) rest = front_arrives FRAME_MAX bytes payload rest (omega arith) front in
              let own : frames_of bytes ≡ followed_by (arrival.Payload payload ∷ []) (frames_of rest) =
              ap frames_of (sym (append-nil bytes)) ∙ arrives [] ∙ ap (λ (l : List ℕ). followed_by (arrival.Payload payload ∷ []) (frames_of l)) (append-nil rest) in
              let ends : (frames_of rest).ending ≡ ending.Oversize = sym (ap (λ (f : Frames). f.ending) own) ∙ e in
              arrives more ∙ ap (followed_by (arrival.Payload payload ∷ [])) (stays n rest more (omega (arith, length-drop (4 + told) bytes)) ends) ∙ sym own
        ]
      ]
    ]

-- the same of a stream, and the version that it told
record Unchanged (read more : List ℕ) : Type 0 where
  arrivals : arrivals_of (read ++ more) ≡ arrivals_of read
  told : version_told (read ++ more) ≡ version_told read

stays_in : (first : ℕ) (rest more : List ℕ) → (arrivals_of (first ∷ rest)).ending ≡ ending.Oversize → arrivals_of ((first ∷ rest) ++ more) ≡ arrivals_of (first ∷ rest)
stays_in first rest more e =
    elim (cases_eq first HELLO) [
      | inl hello ↦
          let is : (l : List ℕ) → arrivals_of (first ∷ l) ≡ in_version version.Two (frames_of l) = λ l. ap (λ (b : ℕ). arrivals_of (b ∷ l)) hello ∙ arrivals_of-hello l in
          let ends : (frames_of rest).ending ≡ ending.Oversize = sym (ap (λ (a : Arrivals). a.ending) (is rest)) ∙ e in
          is (rest ++ more) ∙ ap (in_version version.Two) (stays (length rest) rest more (omega arith) ends) ∙ sym (is rest)
      | inr other ↦
          let is : (l : List ℕ) → arrivals_of (first ∷ l) ≡ in_version version.One (frames_of (first ∷ l)) = λ l. arrivals_of-other first l other in
          let ends : (frames_of (first ∷ rest)).ending ≡ ending.Oversize = sym (ap (λ (a : Arrivals). a.ending) (is rest)) ∙ e in
          is (rest ++ more) ∙ ap (in_version version.One) (stays (length (first ∷ rest)) (first ∷ rest) more (omega arith) ends) ∙ sym (is rest)
    ]

stream_stays : (read more : List ℕ) → (arrivals_of read).ending ≡ ending.Oversize → Unchanged read more
unfolding arrivals_of
stream_stays [] more e = absurd (not_unfinished [] (λ long. absurd (omega arith)) e)
stream_stays (first ∷ rest) more e =
    let same = stays_in first rest more e in
    record { arrivals = same; told = ap (λ (a : Arrivals). Some a.version) same }

-- what was read behind a frame that is too long changes nothing
pub too_long_more : (session : Session) (read more sent : List ℕ) (jobs : List Job) → EndsTooLong session read sent jobs → EndsTooLong session (read ++ more) sent jobs
too_long_more session read more sent jobs e =
    let s = stream_stays read more e.ends in
    record {
      told = e.told ∙ sym s.told;
      came = ap (λ (a : Arrivals). a.arrived) s.arrivals ∙ e.came;
      ends = ap (λ (a : Arrivals). a.ending) s.arrivals ∙ e.ends;
      went = e.went;
    }
