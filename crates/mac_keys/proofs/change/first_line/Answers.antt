use Rattle.std.proofs.Common.{◌∙◌, ◌+◌, [], refl, ap, drop, take}
use Rattle.std.proofs.lemmas.List.Splits.{slice_split_at, slice_split_none}
use Rattle.mac_keys.specs.Table.{is_line_feed, lines_of}
use Rattle.mac_keys.proofs.change.first_line.Goals as goal

pub returns-in-Some : goal.returns-in-Some
returns-in-Some c =
    let text = c.args.text.now in
    let behind = drop (c.in-Some.place + 1) text in (
      lines_of behind,
      ap lines_of c.in-Some.ensures.feed.1 ∙ slice_split_at is_line_feed (take c.in-Some.place text) 10 behind c.in-Some.ensures.feed.0 refl,
    )

pub returns-in-None : goal.returns-in-None
returns-in-None c = ([], slice_split_none is_line_feed c.args.text.now c.in-None.ensures.feed)
