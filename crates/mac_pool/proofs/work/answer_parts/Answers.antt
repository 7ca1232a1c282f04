use Rattle.std.proofs.Common.{[], ◌∷◌, arith, ◌∙◌, subst, refl, append-nil}
use Rattle.mac_pool.specs.Parcel.{AnswerEach}
use Rattle.mac_pool.proofs.Parcels.{ticket_of, even_less, joined_less, joined_room, joined_end}
use Rattle.mac_pool.proofs.work.answer_parts.Goals as goal

pub loop-job-init : goal.loop-job-init
loop-job-init g c = record {
  even = c.requires.even;
  done = [];
  left = append-nil _;
  answers = rw c.requires.empty tt;
  capacity = refl;
}

pub push_front_reserved-requires : goal.push_front_reserved-requires
push_front_reserved-requires g c =
    let invariant = c.loop-job.invariant in
    let room = joined_room _ _ _ _ c.in-Some-pop.field-0 c.in-Some.job c.in-Some-pop.ensures.items c.in-Some.ensures.items invariant.even invariant.done _ c.loop-job.parcels.items invariant.left invariant.answers in
    let len = c.loop-job.parcels.ok.0 in
    omega arith

pub loop-job-preserved : goal.loop-job-preserved
loop-job-preserved g c =
    let invariant = c.loop-job.invariant in
    record {
      even = even_less _ _ _ _ c.in-Some-pop.field-0 c.in-Some.job c.in-Some-pop.ensures.items c.in-Some.ensures.items invariant.even;
      done = ticket_of c.in-Some-pop.field-0 c.in-Some.job ∷ invariant.done;
      left = joined_less _ _ _ _ c.in-Some-pop.field-0 c.in-Some.job c.in-Some-pop.ensures.items c.in-Some.ensures.items invariant.even invariant.done _ invariant.left;
      answers = rw c.push_front_reserved.ensures.items (c.answer.ensures, invariant.answers);
      capacity = c.push_front_reserved.ensures.capacity ∙ invariant.capacity;
    }

pub returns-clause-answers : goal.returns-clause-answers
returns-clause-answers g c =
    let invariant = c.loop-job.invariant in
    let none = c.in_default.ensures.cases.0 in
    let len = c.loop-job.jobs.ok.0 in
    let all = joined_end invariant.done _ _ _ (omega arith) invariant.left in
    subst (λ l. AnswerEach l c.loop-job.parcels.items) all invariant.answers
