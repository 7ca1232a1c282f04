-- Looks at a list, one after the other.
use Rattle.std.proofs.Common.{◌≡◌, ◌⊎◌, inl, inr, ℕ, List, [], ◌∷◌, refl, sym, ap, ⊎_elim, ◌∙◌}
use Rattle.std.specs.Prelude.{◌≢◌, Some, Ok, Err, Option, Result, ◌==◌, ◌&&◌, not, if◌then◌else◌, Bool, true, false, IsTrue}
use Rattle.std.proofs.lemmas.Bool.{false≢true}
use Rattle.std.proofs.lemmas.List.Elements.{All-nil, All-cons, All-head, All-tail}
use Rattle.mac_keys.specs.Revoked.{Revoked, count_said, revoked_of}
use Rattle.mac_keys.specs.declared.revoked_fault.RevokedFault.{RevokedFault}
use Rattle.mac_keys.specs.declared.revoked_fault.RevokedFault.TheVariants.{Line, Memory}
use Rattle.mac_board.specs.Listing.{AreIdleLists, AreOfList, GoesList, IsListNews, ListHasRested, SeesList, judged_list, list_worth, may_empty, settled_by_list}
use Rattle.mac_board.specs.Sight.{state_before}
use Rattle.mac_board.specs.Watcher.{IsDue}
use Rattle.mac_board.specs.declared.listing.ListFinding.{ListFinding}
use Rattle.mac_board.specs.declared.listing.ListFinding.TheVariants as finding
use Rattle.mac_board.specs.declared.listing.ListRefusal.TheVariants as refusal
use Rattle.mac_board.specs.declared.listing.ListUp.{ListUp}
use Rattle.mac_board.specs.declared.sight.FileState.{FileState}
use Rattle.mac_board.specs.declared.sight.FileState.TheVariants as state
use Rattle.mac_board.specs.declared.sight.ReadFault.TheVariants as read
use Rattle.mac_board.specs.declared.sight.Sight.{Sight}
use Rattle.mac_board.specs.declared.sight.Sight.TheVariants.{Glance, Read}
use Rattle.mac_board.specs.declared.watcher.Watcher.{Watcher}

-- ---- what is taken

by-emptied : (a b : Bool) (list other : Revoked) → (if a && not b then finding.Refused refusal.Emptied else finding.List list) ≡ finding.List other → (list ≡ other) × ((a ≡ false) ⊎ (b ≡ true))
by-emptied true true list other is = (cc, inr refl)
by-emptied true false list other is = absurd cc
by-emptied false b list other is = (cc, inl refl)

says-some : (n : ℕ) → n == 0 ≡ false → n ≢ 0
says-some n some none = false≢true (sym some ∙ ap (λ m. m == 0) none)

judged-taken : (up : ListUp) (text : List ℕ) (read : Result Revoked RevokedFault) (list : Revoked) → judged_list up text read ≡ finding.List list
    → (read ≡ Ok list) × ((count_said text ≢ 0) ⊎ IsTrue (may_empty up text))
judged-taken up text (Ok other) list is =
    let taken = by-emptied (count_said text == 0) (may_empty up text) other list is in
    (ap (λ (l : Revoked). Ok l) taken.0, ⊎_elim (λ some. inl (says-some (count_said text) some)) (λ may. inr may) taken.1)
judged-taken up text (Err (Line line kind)) list is = absurd cc
judged-taken up text (Err Memory) list is = absurd cc

worth-taken : (was : Watcher) (up : ListUp) (sight : Sight) (list : Revoked) → IsDue was sight → finding.List list ≡ list_worth up sight → ListHasRested was up sight list
worth-taken was up (Glance state.Missing) list due is = absurd cc
worth-taken was up (Glance state.Unknown) list due is = absurd cc
worth-taken was up (Glance (state.Marked mark)) list due is = absurd cc
worth-taken was up (Read before (Err read.Unreadable) after) list due is = absurd cc
worth-taken was up (Read before (Err read.TooLong) after) list due is = absurd cc
worth-taken was up (Read before (Err (read.Exposed why)) after) list due is = absurd cc
worth-taken was up (Read before (Ok text) after) list due is =
    let taken = judged-taken up text.items (revoked_of text.items) list (sym is) in
    record {
      state = before;
      text = text;
      read = ap (λ (s : FileState). Read before (Ok text) s) due.stays;
      before = due.rests;
      is_new = due.is_new;
      spelled = taken.0;
      says = taken.1;
    }

pub taken-list-rested : (was : Watcher) (up : ListUp) (sight : Sight) (list : Revoked) (now : Watcher) → SeesList was up sight (finding.List list) now → ListHasRested was up sight list
taken-list-rested was up sight list now sees =
    ⊎_elim (λ due. worth-taken was up sight list due.0 due.1) (λ idle. absurd (let is = idle.1 in cc)) sees.found_is

-- ---- what was told

settled-idle : (was : Watcher) (looks : List (ListUp × Sight)) (found : List ListFinding) (now : Watcher) (state : FileState) → GoesList was looks found now → AreOfList state looks → was.settled ≡ Some state → AreIdleLists found
settled-idle was [] [] now state goes of settled = All-nil (λ (f : ListFinding). f ≡ finding.Nothing)
settled-idle was [] (f ∷ fs) now state goes of settled = absurd goes
settled-idle was (look ∷ looks) [] now state goes of settled = absurd goes
settled-idle was (look ∷ looks) (f ∷ fs) now state (next, sees, goes) of settled =
    let here : state_before look.1 ≡ state = All-head (λ (l : ListUp × Sight). state_before l.1 ≡ state) look looks of in
    let nothing : f ≡ finding.Nothing =
    ⊎_elim (λ due. absurd (due.0.is_new (settled ∙ ap (λ (s : FileState). Some s) (sym here)))) (λ idle. idle.1) sees.found_is in
    All-cons (λ (g : ListFinding). g ≡ finding.Nothing) f fs nothing
    (settled-idle next looks fs now state goes (All-tail (λ (l : ListUp × Sight). state_before l.1 ≡ state) look looks of)
    (sees.settled ∙ ap (λ (g : ListFinding). settled_by_list was.settled (state_before look.1) g) nothing ∙ settled))

news-settles : (settled : Option FileState) (state : FileState) (f : ListFinding) → IsListNews f → settled_by_list settled state f ≡ Some state
news-settles settled state finding.Nothing news = absurd (news refl)
news-settles settled state (finding.List list) news = refl
news-settles settled state (finding.Refused why) news = refl

pub list-told-once : (was : Watcher) (look : ListUp × Sight) (looks : List (ListUp × Sight)) (first : ListFinding) (others : List ListFinding) (now : Watcher) (state : FileState)
    → GoesList was (look ∷ looks) (first ∷ others) now → AreOfList state (look ∷ looks) → IsListNews first → AreIdleLists others
list-told-once was look looks first others now state (next, sees, goes) of news =
    let here : state_before look.1 ≡ state = All-head (λ (l : ListUp × Sight). state_before l.1 ≡ state) look looks of in
    settled-idle next looks others now state goes (All-tail (λ (l : ListUp × Sight). state_before l.1 ≡ state) look looks of)
    (sees.settled ∙ news-settles was.settled (state_before look.1) first news ∙ ap (λ (s : FileState). Some s) here)
