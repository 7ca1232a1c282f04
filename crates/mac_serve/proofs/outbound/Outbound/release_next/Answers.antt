use Rattle.std.proofs.Common.{◌≡◌, ℕ, ◌+◌, ◌∙◌, ◌++◌, refl, sym, ap, arith}
use Rattle.mac_wire.specs.declared.reply.Reply.{Reply}
use Rattle.std.proofs.lemmas.Bool.{false≢true}
use Rattle.mac_wire.specs.Reply.{reply_frame}
use Rattle.mac_serve.specs.declared.outbound.OutboundFault.TheVariants as fault
use Rattle.mac_serve.specs.Sending.{answer_to}
use Rattle.mac_serve.proofs.Comes.{came-reply, came-stranger, came-waiting, came-closed}
use Rattle.mac_serve.proofs.SendingLemmas.{alone, out-same, stands-released, stands-waiting, fell-held, fell-released, holds-stranger}
use Rattle.mac_serve.proofs.outbound.Outbound.release_next.Goals as goal

pub returns-in-Waiting : goal.returns-in-Waiting
returns-in-Waiting c =
    let o = c.args.self.now in
    alone _ o _ tt (c.release.ensures.ring.0, refl, refl) (out-same o c.release.new.self c.release.ensures.ring.1)
    (λ earlier s. stands-waiting earlier o c.release.new.self s c.release.ensures.kept c.release.ensures.ring.1
    (came-waiting _ _ _ _ _ c.release.ensures.next c.in-Waiting.is))

pub returns : goal.returns
returns c =
    let o = c.args.self.now in
    alone _ o _ tt (c.release.ensures.ring.0, refl, refl) (out-same o c.release.new.self c.release.ensures.ring.1)
    (λ earlier s. absurd (false≢true (sym s.live ∙ came-closed _ _ _ _ _ c.release.ensures.next c.in-Closed.is)))

pub returns-in-Stranger : goal.returns-in-Stranger
returns-in-Stranger c =
    let o = c.args.self.now in
    let f = rw c.in-Stranger.is at c.release.ensures.releases in
    let law = c.equal_jobs_hold_the_same.ensures f.1.answer f.1.job in
    record {
      same = (c.release.ensures.ring.0, refl, refl);
      out = out-same o c.release.new.self c.release.ensures.ring.1;
      holds = λ earlier s. holds-stranger earlier o c.release.new.self f.1.answer f.1.job s c.release.ensures.ring.1
          (came-stranger _ _ _ _ _ c.release.ensures.next _ c.in-Stranger.is) f.1.settled f.1.received_is
          (λ same. false≢true (sym f.1.unlike ∙ law.1 (sym same)));
    }

pub returns-in-Ok : goal.returns-in-Ok
returns-in-Ok c =
    let o = c.args.self.now in
    let came = came-reply _ _ _ _ _ c.release.ensures.next c.in-Reply.field-0 c.in-Reply.reply c.in-Reply.is in
    let l = came.0 in
    let place : c.in-Some.place ≡ o.base + o.ring.buffer.next = omega (arith, c.in-Some.ensures, c.next_place.ensures.next) in
    alone _ o _ tt (c.release.ensures.ring.0, refl, refl) (out-same o c.release.new.self c.release.ensures.ring.1)
    (λ earlier s. stands-released earlier o c.release.new.self c.append_reply.new.frames l.slip l.answer l.rest s c.release.ensures.kept c.release.ensures.ring.1
    l.slips l.settled_is ((c.equal_jobs_hold_the_same.ensures l.answer l.slip).0 l.equal) l.after_is
    (c.in-Ok.ensures.appended ∙ ap (λ (r : Reply). o.gathered.items ++ reply_frame o.version c.in-Some.place r) came.1
    ∙ ap (λ (n : ℕ). o.gathered.items ++ reply_frame o.version n (answer_to l.slip)) place))

pub returns-in-Reply : goal.returns-in-Reply
returns-in-Reply c =
    let o = c.args.self.now in
    alone _ o _ tt (c.release.ensures.ring.0, refl, refl) (out-same o c.release.new.self c.release.ensures.ring.1)
    (λ earlier s. fell-released earlier o c.release.new.self c.append_reply.new.frames s c.release.ensures.ring.1)

pub returns-in_default : goal.returns-in_default
returns-in_default c =
    let o = c.args.self.now in
    alone _ o _ tt (((refl, refl, refl, refl), refl), refl, refl) refl (λ earlier s. fell-held earlier o fault.Exhausted s.holds (λ is. absurd cc))
