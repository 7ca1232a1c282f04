use Rattle.std.proofs.Common.{◌++◌, ℕ, List, [], length, map, take, refl, sym, subst}
use Rattle.std.proofs.lemmas.List.{append-nil}
use Rattle.mac_plain.specs.Goes.{OwesSo}
use Rattle.mac_plain.specs.Requests.{payload_at}
use Rattle.mac_plain.specs.declared.course.Course.{Course}
use Rattle.mac_plain.specs.declared.course.Course.TheVariants as course
use Rattle.mac_plain.specs.declared.course.Ended.TheVariants as ended
use Rattle.mac_plain.proofs.Steps.{goes_still, none_dear, none_done, still, steps_still}
use Rattle.mac_plain.proofs.Pairs.{within_added}
use Rattle.mac_plain.proofs.Pieces.{came_so, held_owes, none_added, open_owes}
use Rattle.mac_plain.proofs.receiving.receive.Goals as goal

pub returns-in_default-clause-receives : goal.returns-in_default-clause-receives
returns-in_default-clause-receives g c current =
    let me = c.args.client.now in
    record {
      part = [];
      arena_is = sym (append-nil c.args.arena.now.items);
      own = [];
      adds = none_added c.args.owner (length c.args.arena.now.items) c.args.requests.now.items;
      goes = goes_still g.P.Port.tells g.P.Port.taken g.P.Port.written current me me [] refl refl (λ read sent done owed o. none_done me.course me.session read sent done owed o);
    }

pub returns-in-Later-clause-receives : goal.returns-in-Later-clause-receives
returns-in-Later-clause-receives g c current =
    let me = c.args.client.now in
    record {
      part = [];
      arena_is = sym (append-nil c.args.arena.now.items);
      own = [];
      adds = none_added c.args.owner (length c.args.arena.now.items) c.args.requests.now.items;
      goes = record {
        came = [];
        gone = [];
        rights_kept = refl;
        cheap = none_dear;
        took = λ told. c.in-Later.ensures.taken told;
        wrote = λ told. still g.P.Port.tells (g.P.Port.written me.port) (g.P.Port.written c.read.new.self) (c.in-Later.ensures.written told) told;
        goes_on = λ read sent done owed.
            steps_still me.course me.course me.session me.session read sent done [] [] owed (λ o. none_done me.course me.session read sent done owed o);
      };
    }

pub returns-in-End-clause-receives : goal.returns-in-End-clause-receives
returns-in-End-clause-receives g c current =
    let me = c.args.client.now in
    record {
      part = [];
      arena_is = sym (append-nil c.args.arena.now.items);
      own = [];
      adds = none_added c.args.owner (length c.args.arena.now.items) c.args.requests.now.items;
      goes = record {
        came = [];
        gone = [];
        rights_kept = refl;
        cheap = none_dear;
        took = λ told. c.in-End.ensures.taken told;
        wrote = λ told. still g.P.Port.tells (g.P.Port.written me.port) (g.P.Port.written c.read.new.self) (c.in-End.ensures.written told) told;
        goes_on = λ read sent done owed.
            steps_still me.course (course.Ended ended.Peer) me.session me.session read sent done [] [] owed
            (λ o. none_done (course.Ended ended.Peer) me.session read sent done owed (subst (λ (k : Course). OwesSo k me.session read sent done owed) c.in-Open.is o));
      };
    }

pub returns-in-Fault-clause-receives : goal.returns-in-Fault-clause-receives
returns-in-Fault-clause-receives g c current =
    let me = c.args.client.now in
    record {
      part = [];
      arena_is = sym (append-nil c.args.arena.now.items);
      own = [];
      adds = none_added c.args.owner (length c.args.arena.now.items) c.args.requests.now.items;
      goes = record {
        came = [];
        gone = [];
        rights_kept = refl;
        cheap = none_dear;
        took = λ told. c.in-Fault.ensures.taken told;
        wrote = λ told. still g.P.Port.tells (g.P.Port.written me.port) (g.P.Port.written c.read.new.self) (c.in-Fault.ensures.written told) told;
        goes_on = λ read sent done owed.
            steps_still me.course (course.Ended ended.Fault) me.session me.session read sent done [] [] owed
            (λ o. none_done (course.Ended ended.Fault) me.session read sent done owed (subst (λ (k : Course). OwesSo k me.session read sent done owed) c.in-Open.is o));
      };
    }

pub returns-in-Bytes-clause-receives : goal.returns-in-Bytes-clause-receives
returns-in-Bytes-clause-receives g c current =
    let me = c.args.client.now in
    let t = c.take_in-client-in-Bytes.ensures in
    let came : List ℕ = take c.in-Bytes.count c.read.new.buf in
    let more : List (List ℕ) = map (payload_at c.take_in-client-in-Bytes.new.arena.items) t.own in
    record {
      part = t.part;
      arena_is = t.arena_is;
      own = t.own;
      adds = t.adds;
      goes = record {
        came = came;
        gone = [];
        rights_kept = refl;
        cheap = t.cheap;
        took = λ told. c.in-Bytes.ensures.taken told;
        wrote = λ told. still g.P.Port.tells (g.P.Port.written me.port) (g.P.Port.written c.read.new.self) (c.in-Bytes.ensures.written told) told;
        goes_on = λ read sent done owed o.
            came_so c.take_in-client-in-Bytes.result c.take_in-client-in-Bytes.new.session (read ++ came) sent done (owed ++ more)
            (t.goes_on read sent done owed (open_owes me.course me.session read sent done owed c.in-Open.is o));
      };
    }

pub returns-in-Held-clause-receives : goal.returns-in-Held-clause-receives
returns-in-Held-clause-receives g c current =
    let me = c.args.client.now in
    let t = c.take_in-client.ensures in
    let more : List (List ℕ) = map (payload_at c.take_in-client.new.arena.items) t.own in
    record {
      part = t.part;
      arena_is = t.arena_is;
      own = t.own;
      adds = t.adds;
      goes = record {
        came = [];
        gone = [];
        rights_kept = refl;
        cheap = t.cheap;
        took = still g.P.Port.tells (g.P.Port.taken me.port) (g.P.Port.taken me.port) refl;
        wrote = still g.P.Port.tells (g.P.Port.written me.port) (g.P.Port.written me.port) refl;
        goes_on = λ read sent done owed o.
            came_so c.take_in-client.result c.take_in-client.new.session (read ++ []) sent done (owed ++ more)
            (t.goes_on read sent done owed (held_owes me.course me.session read sent done owed c.in-Held.is o));
      };
    }

pub returns-in-Held-clause-within : goal.returns-in-Held-clause-within
returns-in-Held-clause-within g c =
    let t = c.take_in-client.ensures in
    within_added c.args.arena.now.items c.take_in-client.new.arena.items t.part c.args.owner c.args.requests.now.items c.take_in-client.new.requests.items t.own t.arena_is c.requires t.adds

pub returns-in-Bytes-clause-within : goal.returns-in-Bytes-clause-within
returns-in-Bytes-clause-within g c =
    let t = c.take_in-client-in-Bytes.ensures in
    within_added c.args.arena.now.items c.take_in-client-in-Bytes.new.arena.items t.part c.args.owner c.args.requests.now.items c.take_in-client-in-Bytes.new.requests.items t.own t.arena_is c.requires t.adds
