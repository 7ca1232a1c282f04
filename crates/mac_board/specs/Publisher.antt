-- What a publisher has put up.
use Rattle.std.specs.Prelude.{List}
use Rattle.std.specs.Arc.{arc_value}
use Rattle.left_right.specs.Sides.{view}
use Rattle.mac_keys.specs.KeyTable.{Table}
use Rattle.mac_board.specs.Board.{history}
use Rattle.mac_board.specs.declared.publisher.Publisher.{Publisher}

-- the tables that a publisher has put up, in order
abbrev pub tables : {R : Type 0} → Publisher R → List Table
tables p = history (view p.writer.desk.place) (arc_value p.writer.desk.shown.value.table)
