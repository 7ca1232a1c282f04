use Rattle.std.proofs.Common.{arith, refl, slice_index_or}
use Rattle.std.proofs.lemmas.Option.{slice_get-get_or}
use Rattle.std.proofs.lemmas.Result.{on_ok_weaker, on_err_weaker}
use Rattle.mac_queue.specs.Putting.{pass_of}
use Rattle.mac_serve.proofs.Seats.{sits, kept_there, same_there, keep_all, keep_more, attended_keep, attended_all, pool_more, queue_there, seated_more, untouched_all, untouched_more}
use Rattle.mac_serve.proofs.whole.+seat_from.Goals as goal

pub returns-then-next-callers-clause-seated : goal.returns-then-next-callers-clause-seated
returns-then-next-callers-clause-seated g t c = attended_all _ c.args.next c.args.callers.now c.attend_each.new.callers c.args.pool.now (omega (arith, c.if-next-callers.true)) c.attend_each.ensures

pub returns-then-next-callers-clause-desks : goal.returns-then-next-callers-clause-desks
returns-then-next-callers-clause-desks g t c = attended_keep _ c.args.next c.args.callers.now c.attend_each.new.callers c.attend_each.ensures

pub returns-in-Err-NoMemory-clause-desks : goal.returns-in-Err-NoMemory-clause-desks
returns-in-Err-NoMemory-clause-desks g t c = keep_all c.args.next c.args.callers.now

pub seat_from-result-requires-clause-desks : goal.seat_from-result-requires-clause-desks
seat_from-result-requires-clause-desks g t c κs within =
    let was = slice_index_or c.args.callers.now c.args.next c.index-callers-next.result in
    sits c.args.callers.now c.args.next was c.in-Ok.desk (omega (arith, c.requires.within, c.if-next-callers.false)) c.requires.desks

pub rise-requires-after_bounds : goal.rise-requires-after_bounds
rise-requires-after_bounds g t c κs within =
    let was = slice_index_or c.args.callers.now c.args.next c.index-callers-next.result in
    let there = kept_there c.args.callers.now c.seat_from-result.new.callers c.args.next was c.index-callers-next-2.result c.in-Ok.desk c.in-Ok.desk (omega (arith, c.requires.within, c.if-next-callers.false)) c.seat_from-result.ensures.desks in
    (there.0, there.1)

pub home-requires-after_bounds : goal.home-requires-after_bounds
home-requires-after_bounds g t c κs =
    let was = slice_index_or c.args.callers.now c.args.next c.index-callers-next.result in
    let same = same_there c.args.callers.now c.seat_from-result.new.callers c.args.next was c.index-callers-next-2.result c.in-Ok.desk c.rise.result (omega (arith, c.requires.within, c.if-next-callers.false)) c.seat_from-result.ensures.desks c.rise.ensures.was in
    queue_there c.args.pool.now c.desk.new.self c.seat_from-result.new.pool _ (pass_of c.in-Ok.desk.putter) (pass_of c.rise.result.putter) c.in-Ok.ensures.desk.0 same.0 refl c.seat_from-result.ensures.pool

pub returns-clause-seated : goal.returns-clause-seated
returns-clause-seated g t c =
    let was = slice_index_or c.args.callers.now c.args.next c.index-callers-next.result in
    on_ok_weaker c.seat_from-result.result (λ rest. seated_more _ c.args.next c.args.callers.now c.seat_from-result.new.callers was c.index-callers-next-2.result c.rise.new.self c.in-Ok.desk c.rise.result c.args.pool.now c.desk.new.self c.seat_from-result.new.pool c.home.new.self
    (omega (arith, c.requires.within, c.if-next-callers.false)) (slice_get-get_or c.args.callers.now c.args.next c.index-callers-next.result (omega (arith, c.requires.within, c.if-next-callers.false))) c.rise.ensures.was c.rise.ensures.left c.in-Ok.ensures.desk.0 c.in-Ok.ensures.fresh c.home.ensures c.seat_from-result.ensures.pool rest)
    c.seat_from-result.ensures.seated

pub returns-clause-pool : goal.returns-clause-pool
returns-clause-pool g t c =
    let was = slice_index_or c.args.callers.now c.args.next c.index-callers-next.result in
    let same = same_there c.args.callers.now c.seat_from-result.new.callers c.args.next was c.index-callers-next-2.result c.in-Ok.desk c.rise.result (omega (arith, c.requires.within, c.if-next-callers.false)) c.seat_from-result.ensures.desks c.rise.ensures.was in
    pool_more c.args.pool.now c.desk.new.self c.seat_from-result.new.pool c.home.new.self (pass_of c.in-Ok.desk.putter) (pass_of c.rise.result.putter) c.in-Ok.ensures.desk.0 same.0 c.home.ensures c.seat_from-result.ensures.pool

pub returns-clause-desks : goal.returns-clause-desks
returns-clause-desks g t c = keep_more c.args.callers.now c.seat_from-result.new.callers c.args.next _ c.rise.new.self c.seat_from-result.ensures.desks

pub returns-in-Err-NoMemory-clause-untouched : goal.returns-in-Err-NoMemory-clause-untouched
returns-in-Err-NoMemory-clause-untouched g t c = untouched_all c.args.callers.now

pub returns-clause-untouched : goal.returns-clause-untouched
returns-clause-untouched g t c =
    let was = slice_index_or c.args.callers.now c.args.next c.index-callers-next.result in
    on_err_weaker c.seat_from-result.result (λ rest. untouched_more c.args.callers.now c.seat_from-result.new.callers c.args.next was c.index-callers-next-2.result c.rise.new.self c.in-Ok.desk
    (omega (arith, c.requires.within, c.if-next-callers.false)) (slice_get-get_or c.args.callers.now c.args.next c.index-callers-next.result (omega (arith, c.requires.within, c.if-next-callers.false))) c.rise.ensures.left rest)
    c.seat_from-result.ensures.untouched
