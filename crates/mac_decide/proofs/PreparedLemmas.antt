-- A run of prepared replies.
use Rattle.std.proofs.Common.{◌≡◌, ℕ, arith, ◌+◌, ◌<◌, ◌≤◌, List, [], ◌∷◌, length, slice_get, slice_index, slice_set, get_or, sym, ◌∙◌}
use Rattle.std.proofs.lemmas.List.{get_or_default}
use Rattle.std.proofs.lemmas.Option.{slice_get-get_or}
use Rattle.mac_order.proofs.Put.{slice_get-set_other}
use Rattle.mac_hmac.specs.Chain.{extended}
use Rattle.mac_decide.specs.Prepared.{AreNext, left_of, signature_of}
use Rattle.mac_decide.specs.declared.prepared.Prepared.{Prepared}

-- the signature at a place that wasn't passed
pub next-here : (initial run : List Prepared) (places : List ℕ) (signatures : List (List ℕ)) (lane next : ℕ) (d : Prepared) (e : List ℕ) → AreNext initial places signatures
    → ((later : ℕ) → next ≤ later → slice_get run later ≡ slice_get initial later) → next ≤ slice_index places lane → slice_index places lane < length run → lane < 8 → lane < length signatures
    → (text : List ℕ) (rest : List (List ℕ)) → left_of (get_or run (slice_index places lane) d) ≡ text ∷ rest
    → get_or signatures lane e ≡ extended (signature_of (get_or run (slice_index places lane) d)) (text ∷ [])
next-here initial run places signatures lane next d e are ahead behind within lanes room text rest is =
    let place = slice_index places lane in
    get_or_default signatures lane e [] room
    ∙ are lane (get_or run place d) text rest lanes (sym (ahead place behind) ∙ slice_get-get_or run place d within) is

-- the places behind the one that was folded on are as they were
pub still-ahead : (run initial : List Prepared) (next place : ℕ) (new : Prepared) → next ≤ place
    → ((later : ℕ) → next ≤ later → slice_get run later ≡ slice_get initial later)
    → (later : ℕ) → place + 1 ≤ later → slice_get (slice_set run place new) later ≡ slice_get initial later
still-ahead run initial next place new behind ahead later le =
    slice_get-set_other run place new later (λ e. absurd (omega (arith, e, le))) ∙ ahead later (omega (arith, behind, le))
