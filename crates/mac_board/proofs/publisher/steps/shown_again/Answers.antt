use Rattle.std.proofs.Common.{◌∙◌, ℕ, fold, ap}
use Rattle.std.specs.Arc.{arc_value}
use Rattle.left_right.specs.Sides.{view}
use Rattle.mac_keys.specs.KeyTable.{Table}
use Rattle.mac_board.specs.declared.issue.Issue.{Issue}
use Rattle.mac_board.proofs.Board.{stays}
use Rattle.mac_board.proofs.publisher.steps.shown_again.Goals as goal

pub publish_as-writer-requires : goal.publish_as-writer-requires
publish_as-writer-requires g c next is =
    let now : Issue = c.args.writer.desk.shown.value in
    stays c.args.writer.desk.place.id (view c.args.writer.desk.place) now next
    (is ∙ ap (fold (λ (_ : Table × ℕ) (i : Issue). (arc_value i.table, i.number)) (arc_value now.table, now.number)) c.requires)
