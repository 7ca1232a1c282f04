-- Looks at a file, one after the other.
use Rattle.std.proofs.Common.{◌≡◌, ℕ, List, [], ◌∷◌, refl, sym, ap, subst, ⊎_elim, ◌∙◌}
use Rattle.std.specs.Prelude.{Some, Ok, Err, Option, Result, ◌==◌, ◌&&◌, nat_lt, if◌then◌else◌, Bool, true, false}
use Rattle.std.specs.FinMap.{len}
use Rattle.std.proofs.lemmas.List.Elements.{All-nil, All-cons, All-head, All-tail}
use Rattle.mac_keys.specs.KeyTable.{Table}
use Rattle.mac_keys.specs.KeyTable.{table_of}
use Rattle.mac_keys.specs.declared.fault.KeyFault.{KeyFault}
use Rattle.mac_keys.specs.declared.fault.KeyFault.TheVariants.{Line, Memory}
use Rattle.mac_board.specs.Sight.{state_before}
use Rattle.mac_board.specs.Watcher.{AreIdle, AreOf, Goes, HasRested, IsDue, IsNews, NeverRests, Sees, judged, settled_by, worth}
use Rattle.mac_board.specs.declared.sight.FileState.{FileState}
use Rattle.mac_board.specs.declared.sight.FileState.TheVariants as state
use Rattle.mac_board.specs.declared.sight.ReadFault.TheVariants as read
use Rattle.mac_board.specs.declared.sight.Sight.{Sight}
use Rattle.mac_board.specs.declared.sight.Sight.TheVariants.{Glance, Read}
use Rattle.mac_board.specs.declared.watcher.KeyFileFinding.{KeyFileFinding}
use Rattle.mac_board.specs.declared.watcher.KeyFileFinding.TheVariants as finding
use Rattle.mac_board.specs.declared.watcher.KeyFileRefusal.TheVariants as refusal
use Rattle.mac_board.specs.declared.watcher.Watcher.{Watcher}

-- ---- what is taken

by-emptied : (b : Bool) (table other : Table) → (if b then finding.Refused refusal.Emptied else finding.Table table) ≡ finding.Table other → table ≡ other
by-emptied true table other is = absurd cc
by-emptied false table other is = cc

judged-table : (names : ℕ) (read : Result Table KeyFault) (table : Table) → judged names read ≡ finding.Table table → read ≡ Ok table
judged-table names (Ok other) table is = ap (λ (t : Table). Ok t) (by-emptied (len other.keys == 0 && nat_lt 0 names) other table is)
judged-table names (Err (Line line kind)) table is = absurd cc
judged-table names (Err Memory) table is = absurd cc

worth-table : (was : Watcher) (names : ℕ) (sight : Sight) (table : Table) → IsDue was sight → finding.Table table ≡ worth names sight → HasRested was sight table
worth-table was names (Glance state.Missing) table due is = absurd cc
worth-table was names (Glance state.Unknown) table due is = absurd cc
worth-table was names (Glance (state.Marked mark)) table due is = absurd cc
worth-table was names (Read before (Err read.Unreadable) after) table due is = absurd cc
worth-table was names (Read before (Err read.TooLong) after) table due is = absurd cc
worth-table was names (Read before (Err (read.Exposed why)) after) table due is = absurd cc
worth-table was names (Read before (Ok text) after) table due is = record {
  state = before;
  text = text;
  read = ap (λ (s : FileState). Read before (Ok text) s) due.stays;
  before = due.rests;
  is_new = due.is_new;
  spelled = judged-table names (table_of text.items) table (sym is);
}

pub taken-rested : (was : Watcher) (names : ℕ) (sight : Sight) (table : Table) (now : Watcher) → Sees was names sight (finding.Table table) now → HasRested was sight table
taken-rested was names sight table now sees =
    ⊎_elim (λ due. worth-table was names sight table due.0 due.1) (λ idle. absurd (let is = idle.1 in cc)) sees.found_is

-- ---- what never rests

pub never-rests : (was : Watcher) (looks : List (ℕ × Sight)) (found : List KeyFileFinding) (now : Watcher) → Goes was looks found now → NeverRests was.last looks → AreIdle found
never-rests was [] [] now goes never = All-nil (λ (f : KeyFileFinding). f ≡ finding.Nothing)
never-rests was [] (f ∷ fs) now goes never = absurd goes
never-rests was (look ∷ looks) [] now goes never = absurd goes
never-rests was (look ∷ looks) (f ∷ fs) now (next, sees, goes) never =
    All-cons (λ (g : KeyFileFinding). g ≡ finding.Nothing) f fs
    (⊎_elim (λ due. absurd (never.0 (due.0.rests, due.0.stays))) (λ idle. idle.1) sees.found_is)
    (never-rests next looks fs now goes (subst (λ (s : FileState). NeverRests s looks) (sym sees.last) never.1))

-- ---- what was told

settled-idle : (was : Watcher) (looks : List (ℕ × Sight)) (found : List KeyFileFinding) (now : Watcher) (state : FileState) → Goes was looks found now → AreOf state looks → was.settled ≡ Some state → AreIdle found
settled-idle was [] [] now state goes of settled = All-nil (λ (f : KeyFileFinding). f ≡ finding.Nothing)
settled-idle was [] (f ∷ fs) now state goes of settled = absurd goes
settled-idle was (look ∷ looks) [] now state goes of settled = absurd goes
settled-idle was (look ∷ looks) (f ∷ fs) now state (next, sees, goes) of settled =
    let here : state_before look.1 ≡ state = All-head (λ (l : ℕ × Sight). state_before l.1 ≡ state) look looks of in
    let nothing : f ≡ finding.Nothing =
    ⊎_elim (λ due. absurd (due.0.is_new (settled ∙ ap (λ (s : FileState). Some s) (sym here)))) (λ idle. idle.1) sees.found_is in
    All-cons (λ (g : KeyFileFinding). g ≡ finding.Nothing) f fs nothing
    (settled-idle next looks fs now state goes (All-tail (λ (l : ℕ × Sight). state_before l.1 ≡ state) look looks of)
    (sees.settled ∙ ap (λ (g : KeyFileFinding). settled_by was.settled (state_before look.1) g) nothing ∙ settled))

news-settles : (settled : Option FileState) (state : FileState) (f : KeyFileFinding) → IsNews f → settled_by settled state f ≡ Some state
news-settles settled state finding.Nothing news = absurd (news refl)
news-settles settled state (finding.Table table) news = refl
news-settles settled state (finding.Refused why) news = refl

pub told-once : (was : Watcher) (look : ℕ × Sight) (looks : List (ℕ × Sight)) (first : KeyFileFinding) (others : List KeyFileFinding) (now : Watcher) (state : FileState)
    → Goes was (look ∷ looks) (first ∷ others) now → AreOf state (look ∷ looks) → IsNews first → AreIdle others
told-once was look looks first others now state (next, sees, goes) of news =
    let here : state_before look.1 ≡ state = All-head (λ (l : ℕ × Sight). state_before l.1 ≡ state) look looks of in
    settled-idle next looks others now state goes (All-tail (λ (l : ℕ × Sight). state_before l.1 ≡ state) look looks of)
    (sees.settled ∙ news-settles was.settled (state_before look.1) first news ∙ ap (λ (s : FileState). Some s) here)
