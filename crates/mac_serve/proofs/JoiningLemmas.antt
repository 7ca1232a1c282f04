-- What was written of a stream before a connection was served, and then.
use Rattle.std.proofs.Common.{◌≡◌, inl, inr, ℕ, ◌+◌, List, [], ◌++◌, length, take, drop, refl, sym, ap, subst, ◌∙◌, append_assoc, append-nil, arith}
use Rattle.std.specs.Prelude.{Option, Some, None, IfSome, ◌⊎◌}
use Rattle.std.proofs.lemmas.List.{take-append-drop, length-append, length-map, nil_from_length}
use Rattle.std.proofs.lemmas.List.Concat.{flat_map-append}
use Rattle.mac_queue.specs.Putting.{Putting}
use Rattle.mac_wire.specs.declared.arrival.Arrival.{Arrival}
use Rattle.mac_wire.specs.declared.reply.Reply.{Reply}
use Rattle.mac_wire.specs.declared.session.Session.{Session}
use Rattle.mac_wire.specs.declared.version.Version.{Version}
use Rattle.mac_wire.specs.declared.version.Version.TheVariants as version
use Rattle.mac_wire.specs.Frame.{frame, framed}
use Rattle.mac_wire.specs.Stream.{Arrivals, arrivals_of, version_or_one}
use Rattle.mac_wire.specs.Reply.{payloads_from, reply_text}
use Rattle.mac_wire.specs.Session.{HasCome, Stands}
use Rattle.mac_wire.proofs.Opening.{told_is, told_some}
use Rattle.mac_wire.proofs.ReplyText.{payloads-append}
use Rattle.mac_decide.specs.Answer.{answer_of}
use Rattle.mac_decide.specs.Terms.{Terms}
use Rattle.mac_decide.specs.declared.job.Job.{Job}
use Rattle.mac_serve.specs.declared.connection.Served.{Served}
use Rattle.mac_serve.specs.declared.fault.ServeFault.{ServeFault}
use Rattle.mac_serve.specs.declared.fault.ServeFault.TheVariants as fault
use Rattle.mac_serve.specs.Receiving.{Readings, read_of}
use Rattle.mac_serve.specs.Serving.{answers, text_from, Sent, SentAll, SentSome, IsLeft}
use Rattle.mac_serve.specs.Joining.{ServingJoins}

no-text : (v w : Version) (replies : List Reply) → replies ≡ [] → reply_text v replies ≡ reply_text w replies
unfolding payloads_from
no-text v w replies none =
    let P : List Reply → Type 0 = λ l. reply_text v l ≡ reply_text w l in
    subst P (sym none) refl

-- what was written and what is unsent are the frames of the replies, in the version of the stream
text-before : (sv : Option Version) (read rest written unsent stream : List ℕ) (arrived : List Arrival) (replies : List Reply) → HasCome sv read arrived rest
    → written ++ unsent ≡ reply_text (version_or_one sv) replies → length replies ≡ length arrived → reply_text (arrivals_of (read ++ stream)).version replies ≡ written ++ unsent
text-before None read rest written unsent stream arrived replies (none, nothing, empty) went each =
    let size : length arrived ≡ 0 = ap length nothing in
    no-text (arrivals_of (read ++ stream)).version version.One replies (nil_from_length replies (each ∙ size)) ∙ sym went
text-before (Some v) read rest written unsent stream arrived replies (told, are) went each =
    ap (λ (w : Version). reply_text w replies) (ap (λ (a : Arrivals). a.version) (are stream)) ∙ sym went

text-split : (v : Version) (replies more : List Reply) (place : ℕ) → place ≡ length replies → reply_text v (replies ++ more) ≡ reply_text v replies ++ text_from v place more
text-split v replies more place is =
    ap framed (payloads-append v 0 replies more) ∙ flat_map-append frame (payloads_from v 0 replies) (payloads_from v (0 + length replies) more)
    ∙ ap (λ (n : ℕ). reply_text v replies ++ text_from v n more) (omega (arith, is))

from-split : (v : Version) (place : ℕ) (replies more : List Reply) → text_from v place (replies ++ more) ≡ text_from v place replies ++ text_from v (place + length replies) more
from-split v place replies more =
    ap framed (payloads-append v place replies more) ∙ flat_map-append frame (payloads_from v place replies) (payloads_from v (place + length replies) more)

-- what went out is a beginning of the frames of the replies
some-begins : (v : Version) (place : ℕ) (readings : Readings) (output : List ℕ) (served : Served) → SentSome v place readings output served
    → (rest : List ℕ) × (text_from v place (answers readings) ≡ output ++ rest)
some-begins v place readings output served s =
    let all : List Reply = answers readings in
    let front : List Reply = take served.sent all in
    let back : List Reply = drop served.sent all in (
      text_from v (place + length front) back,
      ap (text_from v place) (sym (take-append-drop served.sent all)) ∙ from-split v place front back ∙ ap (λ (l : List ℕ). l ++ text_from v (place + length front) back) (sym s.output_is),
    )

all-begins : (v : Version) (place : ℕ) (readings : Readings) (unread : List Arrival) (putter : Putting Job) (output left : List ℕ) (served : Served) → SentAll v place readings unread putter output left served
    → (rest : List ℕ) × (text_from v place (answers readings) ≡ output ++ rest)
all-begins v place readings unread putter output left served s = ([], sym s.output_is ∙ sym (append-nil output))

row-begins : (a : Arrivals) (place : ℕ) (readings : Readings) (unread : List Arrival) (putter : Putting Job) (output left : List ℕ) (why : Option ServeFault) (served : Served)
    → Sent a place readings unread putter output left why served → (rest : List ℕ) × (text_from a.version place (answers readings) ≡ output ++ rest)
row-begins a place readings unread putter output left None served row = all-begins a.version place readings unread putter output left served row.0
row-begins a place readings unread putter output left (Some fault.Torn) served row = all-begins a.version place readings unread putter output left served row.0
row-begins a place readings unread putter output left (Some fault.Read) served row = all-begins a.version place readings unread putter output left served row.0
row-begins a place readings unread putter output left (Some fault.Write) served row =
    let text : List ℕ = text_from a.version place (answers readings) in
    (drop served.written text, sym (take-append-drop served.written text) ∙ ap (λ (l : List ℕ). l ++ drop served.written text) (sym row.output_is))
row-begins a place readings unread putter output left (Some fault.NoMemory) served row = some-begins a.version place readings output served row
row-begins a place readings unread putter output left (Some fault.Stranger) served row = some-begins a.version place readings output served row
row-begins a place readings unread putter output left (Some fault.Exhausted) served row = some-begins a.version place readings output served row

abbrev Whole : Option ServeFault → Type 0
Whole why = (why ≡ None) ⊎ ((why ≡ Some fault.Torn) ⊎ (why ≡ Some fault.Read))

row-all : (a : Arrivals) (place : ℕ) (readings : Readings) (unread : List Arrival) (putter : Putting Job) (output left : List ℕ) (why : Option ServeFault) (served : Served)
    → Sent a place readings unread putter output left why served → Whole why → SentAll a.version place readings unread putter output left served
row-all a place readings unread putter output left why served row (inl is) =
    let at_none : Sent a place readings unread putter output left None served = subst (λ (w : Option ServeFault). Sent a place readings unread putter output left w served) is row in
    at_none.0
row-all a place readings unread putter output left why served row (inr (inl is)) =
    let at_torn : Sent a place readings unread putter output left (Some fault.Torn) served = subst (λ (w : Option ServeFault). Sent a place readings unread putter output left w served) is row in
    at_torn.0
row-all a place readings unread putter output left why served row (inr (inr is)) =
    let at_read : Sent a place readings unread putter output left (Some fault.Read) served = subst (λ (w : Option ServeFault). Sent a place readings unread putter output left w served) is row in
    at_read.0

-- lists that are put together otherwise
joined-all : (written ahead output rest : List ℕ) → (written ++ (ahead ++ [])) ++ (output ++ rest) ≡ (written ++ (ahead ++ output)) ++ rest
joined-all written ahead output rest =
    ap (λ (l : List ℕ). (written ++ l) ++ (output ++ rest)) (append-nil ahead) ∙ sym (append_assoc (written ++ ahead) output rest)
    ∙ ap (λ (l : List ℕ). l ++ rest) (append_assoc written ahead output)

joined-none : (written ahead left text : List ℕ) → (written ++ (ahead ++ left)) ++ text ≡ (written ++ (ahead ++ [])) ++ (left ++ text)
joined-none written ahead left text =
    ap (λ (l : List ℕ). l ++ text) (sym (append_assoc written ahead left)) ∙ append_assoc (written ++ ahead) left text
    ∙ ap (λ (l : List ℕ). (written ++ l) ++ (left ++ text)) (sym (append-nil ahead))

-- the version that a session knows is that of what was read
come-version : (v : Option Version) (stream : List ℕ) (arrived : List Arrival) (rest : List ℕ) → HasCome v stream arrived rest → version_or_one v ≡ (arrivals_of stream).version
come-version None stream arrived rest (none, nothing, empty) = told_is [] ∙ ap (λ (l : List ℕ). (arrivals_of l).version) (sym none)
come-version (Some v) stream arrived rest (told, are) = sym (told_some stream v told)

onward-stands : (onward : Option Session) (stream written : List ℕ) (arrived : List Arrival) (replies : List Reply) (answered : ℕ) (why : Option ServeFault)
    → (why ≡ Some fault.Read → written ≡ reply_text (arrivals_of stream).version replies) → length replies ≡ length arrived → answered ≡ length replies
    → IfSome onward (λ next. (why ≡ Some fault.Read) × IsLeft stream arrived answered next) → IfSome onward (λ next. Stands next stream written arrived replies)
onward-stands None stream written arrived replies answered why all each counted back = tt
onward-stands (Some next) stream written arrived replies answered why all each counted (is, left) = record {
  came = left.came;
  went = ap (λ (l : List ℕ). written ++ l) left.none_unsent ∙ append-nil written ∙ all is
      ∙ ap (λ (v : Version). reply_text v replies) (sym (come-version next.version stream arrived next.carried.items left.came));
  each = each;
  counted = left.answered_is ∙ counted;
}

-- the reply to one arrival under its table
abbrev answer_to_reading : Terms × Arrival → Reply
answer_to_reading r = answer_of r.0 r.1

pub serving-joins : ServingJoins
serving-joins rights tells_in tells_out tells known known' session read written arrived replies given given' wrote wrote' putter taker why served s h =
    let stream : List ℕ = read ++ h.stream in
    let v : Version = (arrivals_of stream).version in
    let more : List Reply = answers h.readings in
    let text : List ℕ = text_from v session.answered more in
    let whole : reply_text v (replies ++ more) ≡ (written ++ (h.ahead ++ h.left)) ++ text =
    text-split v replies more session.answered s.counted
    ∙ ap (λ (l : List ℕ). l ++ text) (text-before session.version read session.carried.items written session.unsent h.stream arrived replies s.came s.went s.each
    ∙ ap (λ (l : List ℕ). written ++ l) h.parts) in
    let sent : Whole why → SentAll v session.answered h.readings h.unread putter h.output h.left served = λ told.
    row-all (arrivals_of stream) session.answered h.readings h.unread putter h.output h.left why served h.sent told in
    let all : Whole why → written ++ (h.ahead ++ h.output) ≡ reply_text v (replies ++ more) = λ told.
    let row = sent told in
    sym (whole ∙ ap (λ (l : List ℕ). (written ++ (h.ahead ++ l)) ++ text) row.none_left ∙ ap (λ (l : List ℕ). (written ++ l) ++ text) (append-nil h.ahead)
    ∙ append_assoc written h.ahead text ∙ ap (λ (l : List ℕ). written ++ (h.ahead ++ l)) (sym row.output_is)) in
    record {
      begins = begins_by h.ahead h.left h.output text (reply_text v (replies ++ more)) h.behind whole (row-begins (arrivals_of stream) session.answered h.readings h.unread putter h.output h.left why served h.sent);
      all = λ told. ((sent told).none_unread, all told);
      onward = onward-stands served.session stream (written ++ (h.ahead ++ h.output)) (arrived ++ read_of h.readings) (replies ++ more) (session.answered + length h.readings) why
          (λ is. all (inr (inr is))) (omega (arith, s.each, length-append replies more, length-append arrived (read_of h.readings), length-map h.readings answer_to_reading, length-map h.readings (λ (r : Terms × Arrival). r.1)))
          (omega (arith, s.counted, length-append replies more, length-map h.readings answer_to_reading)) h.back;
    }
  where
    begins_by : (ahead left output text total : List ℕ) → (left ≡ []) ⊎ (output ≡ []) → total ≡ (written ++ (ahead ++ left)) ++ text
        → (rest : List ℕ) × (text ≡ output ++ rest) → (rest : List ℕ) × (total ≡ (written ++ (ahead ++ output)) ++ rest)
    begins_by ahead left output text total (inl none) whole (rest, is) = (
      rest,
      whole ∙ ap (λ (l : List ℕ). (written ++ (ahead ++ l)) ++ text) none ∙ ap (λ (l : List ℕ). (written ++ (ahead ++ [])) ++ l) is ∙ joined-all written ahead output rest,
    )
    begins_by ahead left output text total (inr none) whole (rest, is) = (
      left ++ text,
      whole ∙ joined-none written ahead left text ∙ ap (λ (l : List ℕ). (written ++ (ahead ++ l)) ++ (left ++ text)) (sym none),
    )
