use Rattle.std.proofs.Common.{◌+◌, ◌∙◌, take, drop, ap, sym}
use Rattle.std.proofs.lemmas.List.{take_rest}
use Rattle.mac_commands.specs.Lines.{lines}
use Rattle.mac_commands.proofs.LineLemmas.{lines-ended, lines-empty, lines-only, lines-behind}
use Rattle.mac_commands.proofs.lines.next_line.Goals as goal

pub returns-in-Some-clause-line : goal.returns-in-Some-clause-line
returns-in-Some-clause-line c =
    let feed = c.in-Some.ensures.feed in
    let text = c.args.text.now in
    let end = c.in-Some.end in
    rw (take_rest text (end + 1)) (ap lines feed.1 ∙ lines-ended (take end text) (drop (end + 1) text) feed.0)

pub returns-in-None-clause-line : goal.returns-in-None-clause-line
returns-in-None-clause-line c = lines-empty c.args.text.now (sym c.is_empty.ensures ∙ c.if-is_empty.true)

pub returns-in-None-2-clause-line : goal.returns-in-None-2-clause-line
returns-in-None-2-clause-line c =
    let text = c.args.text.now in
    rw (lines-behind text) (lines-only text (sym c.is_empty.ensures ∙ c.if-is_empty.false) c.in-None.ensures.feed)
