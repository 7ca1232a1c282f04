use Rattle.std.proofs.Common.{◌++◌, ℕ, List, [], refl, sym, ap, subst, ◌∙◌, take}
use Rattle.mac_plain.specs.Goes.{OwesSo}
use Rattle.mac_plain.proofs.Steps.{flushes, still, goes_still, none_dear, none_done, steps_still}
use Rattle.mac_plain.proofs.client.Client.flush.Goals as goal

pub returns-in-Bytes : goal.returns-in-Bytes
returns-in-Bytes g c current =
    let me = c.args.self.now in
    let n = c.in-Bytes.count in
    record {
      came = [];
      gone = take n me.session.unsent;
      rights_kept = refl;
      cheap = none_dear;
      took = λ told. still g.P.Port.tells (g.P.Port.taken me.port) (g.P.Port.taken c.write.new.self) (c.in-Bytes.ensures.taken told) told;
      wrote = λ told. c.in-Bytes.ensures.written told ∙ ap (λ (l : List ℕ). g.P.Port.written me.port ++ take n l) c.as_slice.ensures;
      goes_on = λ read sent done owed o.
          subst (λ (u : List ℕ). OwesSo me.course (record me.session { unsent = u }) (read ++ []) (sent ++ take n me.session.unsent) (done ++ []) (owed ++ [])) (sym c.remove.ensures)
          (flushes me.course me.session n read sent done owed o);
    }

pub returns-then-not-may_write : goal.returns-then-not-may_write
returns-then-not-may_write g c current =
    let me = c.args.self.now in
    goes_still g.P.Port.tells g.P.Port.taken g.P.Port.written current me me [] refl refl (λ read sent done owed o. none_done me.course me.session read sent done owed o)

pub returns-in-Later : goal.returns-in-Later
returns-in-Later g c current =
    let me = c.args.self.now in
    record {
      came = [];
      gone = [];
      rights_kept = refl;
      cheap = none_dear;
      took = λ told. still g.P.Port.tells (g.P.Port.taken me.port) (g.P.Port.taken c.write.new.self) (c.in-Later.ensures.taken told) told;
      wrote = λ told. c.in-Later.ensures.written told;
      goes_on = λ read sent done owed. steps_still me.course me.course me.session me.session read sent done [] [] owed (λ o. none_done me.course me.session read sent done owed o);
    }

pub returns-in-Fault : goal.returns-in-Fault
returns-in-Fault g c current =
    let me = c.args.self.now in
    record {
      came = [];
      gone = [];
      rights_kept = refl;
      cheap = none_dear;
      took = λ told. still g.P.Port.tells (g.P.Port.taken me.port) (g.P.Port.taken c.write.new.self) (c.in-Fault.ensures.taken told) told;
      wrote = λ told. c.in-Fault.ensures.written told;
      goes_on = λ read sent done owed. steps_still me.course me.course me.session me.session read sent done [] [] owed (λ o. none_done me.course me.session read sent done owed o);
    }
