use Rattle.std.proofs.Common.{◌≡◌, ◌+◌, ◌∙◌, take, drop, ap, sym, arith, length-drop}
use Rattle.std.proofs.lemmas.List.{take_rest, drop-drop}
use Rattle.mac_commands.specs.Lines.{lines}
use Rattle.mac_commands.proofs.LineLemmas.{lines-behind}
use Rattle.mac_commands.proofs.KeyText.{front_is, stripped, key_text-found, request_lines-found, key_text-none, request_lines-none, divides-more, is_empty-take}
use Rattle.mac_commands.proofs.lines.divide.Goals as goal

pub returns-then-end-eq0-clause-keys : goal.returns-then-end-eq0-clause-keys
returns-then-end-eq0-clause-keys c =
    let input = c.args.input.now in
    let start = c.loop-end.start in
    let d = c.loop-end.invariant.1 in
    let feed = rw (take_rest input start, c.if-end-eq0.true) at c.in-Some.ensures.feed.1 in
    let left = c.without_line_feed.ensures in
    stripped d.full (take start input) _ (front_is input start d c.loop-end.invariant.0) left.ended left.plain
    ∙ sym (key_text-found input start d _ feed)

pub returns-then-end-eq0-clause-requests : goal.returns-then-end-eq0-clause-requests
returns-then-end-eq0-clause-requests c =
    let input = c.args.input.now in
    let start = c.loop-end.start in
    let feed = rw (take_rest input start, c.if-end-eq0.true) at c.in-Some.ensures.feed.1 in
    let found = request_lines-found input start c.loop-end.invariant.1 _ feed in
    let behind : drop 1 (drop start input) ≡ drop (start + 1) input = drop-drop 1 start input in
    ap lines (take_rest input (start + 1) ∙ sym behind) ∙ found

pub loop-end-preserved : goal.loop-end-preserved
loop-end-preserved c =
    let input = c.args.input.now in
    let start = c.loop-end.start in
    let end = c.in-Some.end in
    let feed = rw (take_rest input start) at c.in-Some.ensures.feed in
    let within = rw (take_rest input start) at c.in-Some.ensures.within in
    let size = length-drop start input in
    let some = is_empty-take (drop start input) end c.if-end-eq0.false (omega arith) in
    (omega arith, divides-more input start end feed.0 feed.1 some c.loop-end.invariant.1)

pub returns-clause-keys : goal.returns-clause-keys
returns-clause-keys c =
    let text_is = take_rest c.args.input.now c.loop-end.start in
    let none = rw text_is at c.in_default.ensures.feed in
    let left = c.without_line_feed-2.ensures in
    key_text-none c.args.input.now _ c.loop-end.start c.loop-end.invariant.1 none left.ended left.plain

pub returns-clause-requests : goal.returns-clause-requests
returns-clause-requests c =
    let text_is = take_rest c.args.input.now c.loop-end.start in
    let none = rw text_is at c.in_default.ensures.feed in
    lines-behind c.args.input.now ∙ sym (request_lines-none c.args.input.now c.loop-end.start c.loop-end.invariant.1 none)
