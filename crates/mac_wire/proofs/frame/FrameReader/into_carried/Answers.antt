use Rattle.std.proofs.Common.{sym, subst, ℕ, List}
use Rattle.std.specs.Prelude.{Ok, Err, IfOk, ◌≡◌}
use Rattle.mac_wire.specs.Session.{HasCome}
use Rattle.mac_wire.specs.FrameReader.{version_of}
use Rattle.mac_wire.proofs.Sessions.{carries}
use Rattle.mac_wire.proofs.frame.FrameReader.into_carried.Goals as goal

pub returns-in-Open : goal.returns-in-Open
returns-in-Open c stream handed read ongoing =
    let come = carries c.args.self.version c.in-Open.partial stream handed (rw c.in-Open.is at read) in
    elim c.into_bytes.result as (λ r. IfOk r (λ v. v.items ≡ c.in-Open.partial) → IfOk r (λ v. HasCome (version_of c.args.self) stream handed v.items)) [
      | Ok v ↦ λ e. subst (λ (l : List ℕ). HasCome (version_of c.args.self) stream handed l) (sym e) come
      | Err e ↦ λ h. h
    ] c.into_bytes.ensures
