use Rattle.std.proofs.Common.{[], refl, sym}
use Rattle.mac_serve.proofs.caller.Caller.attend.Goals as goal

pub returns : goal.returns
returns g c = record {
  stay = record { given = c.in-Some.desk; back = c.told_of-told.result.1 };
  given_is = sym c.in-Some.ensures.value;
  back_is = refl;
  attended = record {
    told = c.told_of-told.result.0;
    told_is = refl;
    session = c.new.result;
    stands = c.new.ensures;
    served = rw c.told_of-told.ensures.fault (rw c.told_of-told.ensures.served (c.serve.ensures.serves (record { read = []; arrived = [] }) c.new.ensures.came));
  };
}
