-- A piece that comes on a session.
use Rattle.std.proofs.Common.{◌≡◌, ℕ, ◌≤◌, List, [], ◌∷◌, ◌++◌, map, drop, refl, sym, ap, subst, ◌∙◌, append_assoc, arith}
use Rattle.std.specs.Prelude.{Option, Some, None}
use Rattle.std.proofs.lemmas.List.{append-nil, length-drop, map-append}
use Rattle.std.proofs.lemmas.List.Elements.{All-nil}
use Rattle.mac_wire.specs.declared.arrival.Arrival.{Arrival}
use Rattle.mac_wire.specs.declared.arrival.Arrival.TheVariants as arrival
use Rattle.mac_wire.specs.declared.session.Session.{Session}
use Rattle.mac_wire.specs.declared.version.Version.{Version}
use Rattle.mac_wire.specs.Reply.{reply_text, payloads_from}
use Rattle.mac_wire.specs.Frame.{IsUnfinished}
use Rattle.mac_wire.specs.Session.{HasCome}
use Rattle.mac_wire.specs.Steps.{told_after, frames_after}
use Rattle.mac_wire.specs.Stream.{version_or_one}
use Rattle.mac_wire.proofs.Sessions.{come_more, come_cut, come_fronts}
use Rattle.mac_decide.specs.declared.job.Job.{Job}
use Rattle.mac_plain.specs.Client.{HasFallen, arrivals, replies}
use Rattle.mac_plain.specs.Goes.{Owes, OwesSo, asked}
use Rattle.mac_plain.specs.Requests.{Adds, payload_at}
use Rattle.mac_plain.specs.Receiving.{CutsTo, Leaves}
use Rattle.mac_plain.specs.declared.course.Course.{Course}
use Rattle.mac_plain.specs.declared.course.Course.TheVariants as course
use Rattle.mac_plain.specs.declared.request.RoundRequest.{RoundRequest}

-- before a version is told there is no reply
text_told : (v w : Option Version) (read rest : List ℕ) (done : List Job) (owed : List Arrival) → HasCome v read (arrivals done ++ owed) rest
    → ((x : Version) → v ≡ Some x → w ≡ Some x) → reply_text (version_or_one v) (replies done) ≡ reply_text (version_or_one w) (replies done)
unfolding payloads_from
text_told None w read rest [] owed come keeps = refl
text_told None w read rest (job ∷ done) owed (none, nothing, empty) keeps = absurd cc
text_told (Some x) w read rest done owed come keeps = ap (λ (u : Option Version). reply_text (version_or_one u) (replies done)) (sym (keeps x refl))

keeps_told : (v : Option Version) (piece : List ℕ) (x : Version) → v ≡ Some x → told_after v piece ≡ Some x
keeps_told v piece x is = ap (λ (w : Option Version). told_after w piece) is

text_after : (session : Session) (piece read sent : List ℕ) (done : List Job) (owed : List (List ℕ)) → Owes session read sent done owed
    → sent ++ session.unsent ≡ reply_text (version_or_one (told_after session.version piece)) (replies done)
text_after session piece read sent done owed o =
    o.went ∙ text_told session.version (told_after session.version piece) read session.carried.items done (asked owed) o.came (keeps_told session.version piece)

-- memory ran out while a piece was taken in
pub falls_reading : (before after : Session) (piece : List ℕ) → after.version ≡ told_after before.version piece → after.unsent ≡ before.unsent
    → (read sent : List ℕ) (done : List Job) (owed : List (List ℕ)) → Owes before read sent done owed → HasFallen after (read ++ piece) sent done
falls_reading before after piece version_is unsent_is read sent done owed o =
    let come = come_more before.version read before.carried.items piece (arrivals done ++ asked owed) o.came in
    let f = come_fronts (told_after before.version piece) (read ++ piece) (before.carried.items ++ frames_after before.version piece) (arrivals done) (asked owed) come in
    record {
      told = version_is ∙ f.told;
      done = done;
      missed = [];
      are = sym (append-nil done);
      lost = f.lost;
      came = f.came;
      went = ap (λ (u : List ℕ). sent ++ u) unsent_is ∙ text_after before piece read sent done owed o
          ∙ ap (λ (w : Option Version). reply_text (version_or_one w) (replies done)) (sym version_is);
    }

leaves_so : (goes : Course) (session : Session) (read sent : List ℕ) (done : List Job) (owed : List (List ℕ)) → Leaves goes session.carried.items
    → Owes session read sent done owed → OwesSo goes session read sent done owed
leaves_so course.Open session read sent done owed leaves o = (o, leaves)
leaves_so course.Held session read sent done owed leaves o = absurd leaves
leaves_so course.Wide session read sent done owed leaves o = (o, leaves)
leaves_so (course.Awaiting basis) session read sent done owed leaves o = absurd leaves
leaves_so course.TooLong session read sent done owed leaves o = absurd leaves
leaves_so (course.Ended why) session read sent done owed leaves o = absurd leaves
leaves_so (course.Fallen why) session read sent done owed leaves o = absurd leaves

-- a piece came behind what is carried, and there is no whole frame yet
pub waits_more : (before after : Session) (piece : List ℕ) → after.version ≡ told_after before.version piece → after.unsent ≡ before.unsent → after.answered ≡ before.answered
    → after.carried.items ≡ before.carried.items ++ frames_after before.version piece → IsUnfinished (before.carried.items ++ frames_after before.version piece)
    → (read sent : List ℕ) (done : List Job) (owed : List (List ℕ)) → Owes before read sent done owed
    → OwesSo course.Open after (read ++ piece) sent done (owed ++ [])
waits_more before after piece version_is unsent_is answered_is carried_is unfinished read sent done owed o =
    let come = come_more before.version read before.carried.items piece (arrivals done ++ asked owed) o.came in
    subst (λ (l : List (List ℕ)). OwesSo course.Open after (read ++ piece) sent done l) (sym (append-nil owed)) (
      record {
        came = subst (λ (l : List ℕ). HasCome after.version (read ++ piece) (arrivals done ++ asked owed) l) (sym carried_is)
            (subst (λ (w : Option Version). HasCome w (read ++ piece) (arrivals done ++ asked owed) (before.carried.items ++ frames_after before.version piece)) (sym version_is) come);
        went = ap (λ (u : List ℕ). sent ++ u) unsent_is ∙ text_after before piece read sent done owed o
            ∙ ap (λ (w : Option Version). reply_text (version_or_one w) (replies done)) (sym version_is);
        counted = answered_is ∙ o.counted;
      },
      subst IsUnfinished (sym carried_is) unfinished,
    )

-- a piece was taken in: the requests that were cut off are owed, and the rest is carried
pub takes_piece : (before after : Session) (piece arena : List ℕ) (from at owner : ℕ) (requests requests' : List RoundRequest) (goes : Course)
    → after.version ≡ told_after before.version piece → after.unsent ≡ before.unsent → after.answered ≡ before.answered
    → drop from arena ≡ before.carried.items ++ frames_after before.version piece → after.carried.items ≡ drop at arena
    → (c : CutsTo arena from at owner requests requests') → Leaves goes (drop at arena)
    → (read sent : List ℕ) (done : List Job) (owed : List (List ℕ)) → Owes before read sent done owed
    → OwesSo goes after (read ++ piece) sent done (owed ++ map (payload_at arena) c.own)
takes_piece before after piece arena from at owner requests requests' goes version_is unsent_is answered_is lies carried_is c leaves read sent done owed o =
    let v : Option Version = told_after before.version piece in
    let more : List (List ℕ) = map (payload_at arena) c.own in
    let come = come_more before.version read before.carried.items piece (arrivals done ++ asked owed) o.came in
    let there : HasCome v (read ++ piece) (arrivals done ++ asked owed) (drop from arena) =
    subst (λ (l : List ℕ). HasCome v (read ++ piece) (arrivals done ++ asked owed) l) (sym lies) come in
    let cut : HasCome v (read ++ piece) ((arrivals done ++ asked owed) ++ asked more) (drop at arena) =
    come_cut v (read ++ piece) (drop from arena) (drop at arena) (arrivals done ++ asked owed) (asked more) there c.arrive
    (omega (arith, length-drop at arena, length-drop from arena, c.ahead)) in
    let listed : (arrivals done ++ asked owed) ++ asked more ≡ arrivals done ++ asked (owed ++ more) =
    append_assoc (arrivals done) (asked owed) (asked more) ∙ ap (λ (l : List Arrival). arrivals done ++ l) (sym (map-append (λ (p : List ℕ). arrival.Payload p) owed more)) in
    leaves_so goes after (read ++ piece) sent done (owed ++ more) (subst (Leaves goes) (sym carried_is) leaves) (record {
      came = subst (λ (l : List ℕ). HasCome after.version (read ++ piece) (arrivals done ++ asked (owed ++ more)) l) (sym carried_is)
          (subst (λ (w : Option Version). HasCome w (read ++ piece) (arrivals done ++ asked (owed ++ more)) (drop at arena)) (sym version_is)
          (subst (λ (l : List Arrival). HasCome v (read ++ piece) l (drop at arena)) listed cut));
      went = ap (λ (u : List ℕ). sent ++ u) unsent_is ∙ text_after before piece read sent done owed o
          ∙ ap (λ (w : Option Version). reply_text (version_or_one w) (replies done)) (sym version_is);
      counted = answered_is ∙ o.counted;
    })

pub none_added : (owner room : ℕ) (requests : List RoundRequest) → Adds owner room requests requests []
none_added owner room requests = record {
  are = sym (append-nil requests);
  owned = tt;
  within = All-nil (λ (r : RoundRequest). (r.start ≤ r.end) × (r.end ≤ room));
}

-- what came, where nothing was answered and nothing went
pub came_so : (goes : Course) (s : Session) (read sent : List ℕ) (done : List Job) (owed : List (List ℕ)) → OwesSo goes s read sent done owed
    → OwesSo goes s read (sent ++ []) (done ++ []) owed
came_so goes s read sent done owed o =
    subst (λ (l : List Job). OwesSo goes s read (sent ++ []) l owed) (sym (append-nil done)) (subst (λ (l : List ℕ). OwesSo goes s read l done owed) (sym (append-nil sent)) o)

-- what is owed of a client that is read
pub open_owes : (c : Course) (s : Session) (read sent : List ℕ) (done : List Job) (owed : List (List ℕ)) → c ≡ course.Open → OwesSo c s read sent done owed
    → Owes s read sent done owed
open_owes c s read sent done owed is o = (subst (λ (k : Course). OwesSo k s read sent done owed) is o).0

pub held_owes : (c : Course) (s : Session) (read sent : List ℕ) (done : List Job) (owed : List (List ℕ)) → c ≡ course.Held → OwesSo c s read sent done owed
    → Owes s read sent done owed
held_owes c s read sent done owed is o = subst (λ (k : Course). OwesSo k s read sent done owed) is o
