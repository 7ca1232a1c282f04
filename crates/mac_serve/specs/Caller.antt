-- A connection that is attended at a desk.
use Rattle.std.specs.Prelude.{◌≡◌, ℕ, ◌<◌, Bool, List, [], length, Some, slice_get}
use Rattle.mac_queue.specs.declared.desk.Desk.{Desk}
use Rattle.mac_board.specs.Noticed.{Noticed}
use Rattle.mac_wire.specs.declared.reply.Reply.{Reply}
use Rattle.mac_wire.specs.declared.session.Session.{Session}
use Rattle.mac_wire.specs.Session.{Stands}
use Rattle.mac_decide.specs.declared.job.Job.{Job}
use Rattle.mac_decide.specs.declared.macaroons.Macaroons.{Macaroons}
use Rattle.mac_serve.specs.declared.connection.Served.{Served}
use Rattle.mac_serve.specs.Receiving.{TakesUnder}
use Rattle.mac_serve.specs.Serving.{HasServed}
use Rattle.mac_serve.specs.declared.caller.Caller.{Caller}
use Rattle.mac_serve.specs.declared.caller.ServeReport.{ServeReport}

-- what the devices of connections tell: what a source gave, what a sink took, and what is known of
-- tables and clock; and whether each tells it
pub record Devices (In Out K : Type 0) : Type 0 where
  pub tells_in : Bool
  pub taken : In → List ℕ
  pub tells_out : Bool
  pub written : Out → List ℕ
  pub tells : Bool
  pub known : K → Noticed

abbrev pub devices : {In Out K : Type 0} → Bool → (In → List ℕ) → Bool → (Out → List ℕ) → Bool
    → (K → Noticed) → Devices In Out K
devices tells_in taken tells_out written tells known = record {
  tells_in = tells_in;
  taken = taken;
  tells_out = tells_out;
  written = written;
  tells = tells;
  known = known;
}

-- a stay at a desk: as it was given, and as it came home
pub record Stay : Type 0 where
  pub given : Desk Macaroons Job Reply
  pub back : Desk Macaroons Job Reply

-- what `serve` told, with the desk that it gave back
abbrev pub served_with : ServeReport → Desk Macaroons Job Reply → Served
served_with told desk = record {
  arrived = told.arrived;
  sent = told.sent;
  written = told.written;
  ending = told.ending;
  desk = desk;
  session = told.session;
}

-- the connection has a desk
abbrev pub HasDesk : {In Out K : Type 0} → Caller In Out K → Type 0
HasDesk caller = (desk : Desk Macaroons Job Reply) × (caller.desk ≡ Some desk)

-- each of so many, the first ones, has a desk
abbrev pub HaveDesks : {In Out K : Type 0} → ℕ → List (Caller In Out K) → Type 0
HaveDesks {In} {Out} {K} count callers =
    (number : ℕ) (caller : Caller In Out K) → number < count → slice_get callers number ≡ Some caller
    → HasDesk caller

module _ {In Out K : Type 0} (d : Devices In Out K) where
  -- A connection on which nothing had come was served in this stay, and that is told: what was
  -- written is a beginning of the framed replies to what was read, all of them where it ended well,
  -- and what it put and took at its desk are its own jobs and their answers, as `HasServed` has it.
  pub record IsAttended (before after : Caller In Out K) (stay : Stay) : Type 0 where
    pub told : ServeReport
    pub told_is : after.told ≡ Some told
    pub session : Session
    pub stands : Stands session [] [] [] []
    pub served : HasServed d.tells_in d.tells_out
        (TakesUnder before.rights d.tells (d.known before.outlook) (d.known after.outlook))
        session (record { read = []; arrived = [] })
        (d.taken before.source) (d.taken after.source)
        (d.written before.sink) (d.written after.sink)
        stay.given.putter stay.given.taker told.fault (served_with told stay.back)

  -- it was so at the desk that it has
  pub record IsAttendedThere (before after : Caller In Out K) : Type 0 where
    pub stay : Stay
    pub given_is : before.desk ≡ Some stay.given
    pub back_is : after.desk ≡ Some stay.back
    pub attended : IsAttended before after stay

  -- each of them was
  pub record AttendsEach (before after : List (Caller In Out K)) : Type 0 where
    pub none_lost : length after ≡ length before
    pub each : (number : ℕ) (b a : Caller In Out K) → slice_get before number ≡ Some b
        → slice_get after number ≡ Some a → IsAttendedThere b a
