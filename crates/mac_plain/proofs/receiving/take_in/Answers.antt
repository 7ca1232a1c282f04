use Rattle.std.proofs.Common.{◌≡◌, ◌++◌, ℕ, List, [], length, drop, map, rules, refl, sym, ap, subst, ◌∙◌}
use Rattle.std.proofs.lemmas.List.{append-nil, drop_at}
use Rattle.mac_wire.specs.Steps.{frames_after}
use Rattle.mac_wire.proofs.Lists.{take-rest}
use Rattle.mac_plain.specs.Dear.{AreCheap}
use Rattle.mac_plain.specs.Receiving.{CutsTo, Leaves}
use Rattle.mac_plain.specs.Requests.{Adds, payload_at}
use Rattle.mac_plain.proofs.Pieces.{falls_reading, none_added, takes_piece, waits_more}
use Rattle.mac_plain.proofs.Steps.{none_dear}
use Rattle.mac_wire.specs.Frame.{IsUnfinished}
use Rattle.mac_plain.proofs.receiving.take_in.Goals as goal

pub returns-in-Err-join : goal.returns-in-Err-join
returns-in-Err-join c =
    let before = c.args.session.now in
    let j = c.in-Err-join.ensures in
    record {
      part = j.part;
      arena_is = j.are;
      own = [];
      adds = none_added c.args.owner (length c.join.new.arena.items) c.args.requests.now.items;
      cheap = none_dear;
      goes_on = λ read sent done owed o.
          falls_reading before (record before { version = c.opened-version.result.0 }) c.args.piece.now c.opened-version.ensures.version refl read sent done owed o;
    }

pub returns-in-Err-cut_requests : goal.returns-in-Err-cut_requests
returns-in-Err-cut_requests c =
    let before = c.args.session.now in
    let e = c.in-Err-cut_requests.ensures in
    record {
      part = c.as_slice-2.result.now ++ c.opened-version.result.1.now;
      arena_is = c.in_default.ensures;
      own = e.0;
      adds = subst (λ (l : List ℕ). Adds c.args.owner (length l) c.args.requests.now.items c.cut_requests.new.requests.items e.0) c.as_slice-3.ensures.value e.1;
      cheap = subst (λ (l : List ℕ). AreCheap (map (payload_at l) e.0)) c.as_slice-3.ensures.value e.2;
      goes_on = λ read sent done owed o.
          falls_reading before (record before { version = c.opened-version.result.0 }) c.args.piece.now c.opened-version.ensures.version refl read sent done owed o;
    }

pub returns-in-Err-carry : goal.returns-in-Err-carry
returns-in-Err-carry c =
    let before = c.args.session.now in
    let own = c.in-Ok-cut_requests.ensures.0.own in
    record {
      part = c.as_slice-2.result.now ++ c.opened-version.result.1.now;
      arena_is = c.in_default.ensures;
      own = own;
      adds = subst (λ (l : List ℕ). Adds c.args.owner (length l) c.args.requests.now.items c.cut_requests.new.requests.items own) c.as_slice-3.ensures.value c.in-Ok-cut_requests.ensures.0.adds;
      cheap = subst (λ (l : List ℕ). AreCheap (map (payload_at l) own)) c.as_slice-3.ensures.value c.in-Ok-cut_requests.ensures.0.cheap;
      goes_on = λ read sent done owed o.
          falls_reading before (record before { version = c.opened-version.result.0; carried = c.carry.new.carried }) c.args.piece.now c.opened-version.ensures.version refl read sent done owed o;
    }

pub returns-in-Ok-carry : goal.returns-in-Ok-carry
returns-in-Ok-carry c =
    let before = c.args.session.now in
    let arena = c.join.new.arena.items in
    let old = c.args.arena.now.items in
    let start = c.len-start.result in
    let at = c.in-Ok-cut_requests.at in
    let cuts : CutsTo arena start at c.args.owner c.args.requests.now.items c.cut_requests.new.requests.items =
    subst (λ (l : List ℕ). CutsTo l start at c.args.owner c.args.requests.now.items c.cut_requests.new.requests.items) c.as_slice-3.ensures.value c.in-Ok-cut_requests.ensures.0 in
    let leaves : Leaves c.in-Ok-cut_requests.course (drop at arena) = subst (λ (l : List ℕ). Leaves c.in-Ok-cut_requests.course (drop at l)) c.as_slice-3.ensures.value c.in-Ok-cut_requests.ensures.1 in
    let starts : length old ≡ start = search rules in
    let lies : drop start arena ≡ before.carried.items ++ frames_after before.version c.args.piece.now =
    ap (drop start) c.in_default.ensures ∙ drop_at old (c.as_slice-2.result.now ++ c.opened-version.result.1.now) start starts
    ∙ ap (λ (l : List ℕ). l ++ c.opened-version.result.1.now) c.as_slice-2.ensures.value ∙ ap (λ (l : List ℕ). before.carried.items ++ l) c.opened-version.ensures.frames in
    let carried : c.carry.new.carried.items ≡ drop at arena = c.in-Ok-carry.ensures ∙ take-rest c.deref.result.now at ∙ ap (drop at) c.deref.ensures.value in
    record {
      part = c.as_slice-2.result.now ++ c.opened-version.result.1.now;
      arena_is = c.in_default.ensures;
      own = cuts.own;
      adds = cuts.adds;
      cheap = cuts.cheap;
      goes_on = λ read sent done owed o.
          takes_piece before (record before { version = c.opened-version.result.0; carried = c.carry.new.carried }) c.args.piece.now arena start at c.args.owner
          c.args.requests.now.items c.cut_requests.new.requests.items c.in-Ok-cut_requests.course c.opened-version.ensures.version refl refl lies carried cuts leaves read sent done owed o;
    }

pub returns-in-Ok : goal.returns-in-Ok
returns-in-Ok c =
    let before = c.args.session.now in
    let behind = c.extend_from_slice.new.self in
    let frames : List ℕ = frames_after before.version c.args.piece.now in
    let claimed : IsUnfinished (c.as_slice.result.now ++ c.opened-version.result.1.now) = search rules in
    let unfinished : IsUnfinished (before.carried.items ++ frames) =
    subst (λ (l : List ℕ). IsUnfinished (before.carried.items ++ l)) c.opened-version.ensures.frames
    (subst (λ (l : List ℕ). IsUnfinished (l ++ c.opened-version.result.1.now)) c.as_slice.ensures.value claimed) in
    let grown : behind.items ≡ before.carried.items ++ c.opened-version.result.1.now = search rules in
    record {
      part = [];
      arena_is = sym (append-nil c.args.arena.now.items);
      own = [];
      adds = none_added c.args.owner (length c.args.arena.now.items) c.args.requests.now.items;
      cheap = none_dear;
      goes_on = λ read sent done owed o.
          waits_more before (record before { version = c.opened-version.result.0; carried = behind }) c.args.piece.now c.opened-version.ensures.version refl refl
          (grown ∙ ap (λ (l : List ℕ). before.carried.items ++ l) c.opened-version.ensures.frames) unfinished read sent done owed o;
    }

pub returns-in-Err : goal.returns-in-Err
returns-in-Err c =
    let before = c.args.session.now in
    record {
      part = [];
      arena_is = sym (append-nil c.args.arena.now.items);
      own = [];
      adds = none_added c.args.owner (length c.args.arena.now.items) c.args.requests.now.items;
      cheap = none_dear;
      goes_on = λ read sent done owed o.
          falls_reading before (record before { version = c.opened-version.result.0; carried = c.extend_from_slice.new.self }) c.args.piece.now c.opened-version.ensures.version refl read sent done owed o;
    }
