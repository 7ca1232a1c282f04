use Rattle.std.proofs.Common.{◌++◌, List, ℕ, [], sym, subst}
use Rattle.std.proofs.lemmas.List.{append-nil}
use Rattle.mac_decide.specs.declared.job.Job.{Job}
use Rattle.mac_plain.specs.Client.{StandsSo}
use Rattle.mac_plain.specs.Port.{came_of}
use Rattle.mac_plain.specs.declared.course.Course.{Course}
use Rattle.mac_plain.proofs.Steps.{still}
use Rattle.mac_plain.proofs.TooLong.{too_long_more}
use Rattle.mac_plain.proofs.client.Client.drop_piece.Goals as goal

pub returns-clause-answers : goal.returns-clause-answers
returns-clause-answers g c =
    let me = c.args.self.now in
    let came : List ℕ = came_of c.read.result c.read.new.buf in
    record {
      came = came;
      gone = [];
      took = λ told. c.read.ensures.taken told;
      wrote = λ told. still g.P.Port.tells (g.P.Port.written me.port) (g.P.Port.written c.read.new.self) (c.read.ensures.written told) told;
      goes_on = λ read sent done h.
          let ends = too_long_more me.session read came sent done (subst (λ (k : Course). StandsSo k me.session read sent done) c.requires h) in
          subst (λ (l : List ℕ). StandsSo me.course me.session (read ++ came) l (done ++ [])) (sym (append-nil sent))
          (subst (λ (l : List Job). StandsSo me.course me.session (read ++ came) sent l) (sym (append-nil done))
          (subst (λ (k : Course). StandsSo k me.session (read ++ came) sent done) (sym c.requires) ends));
    }
