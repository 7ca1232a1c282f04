use Rattle.std.proofs.Common.{ap}
use Rattle.mac_gate.specs.Answered.{known_to}
use Rattle.mac_gate.specs.Going.{Past, past_of}
use Rattle.mac_gate.proofs.AnsweredLemmas.{no_turn, no_turn_more}
use Rattle.mac_gate.proofs.GoingLemmas.{goes-alike}
use Rattle.mac_gate.proofs.connection.HttpConnection.advance.Goals as goal

pub returns-then-drop_piece-clause-goes_on : goal.returns-then-drop_piece-clause-goes_on
returns-then-drop_piece-clause-goes_on g c = goes-alike (past_of c.args.self) (past_of c.drop_piece.new.self) c.drop_piece.ensures

pub returns-then-drop_piece-clause-turn : goal.returns-then-drop_piece-clause-turn
returns-then-drop_piece-clause-turn g c = no_turn (past_of c.args.self) (past_of c.drop_piece.new.self) (known_to c.args.answering.now.keys) (ap (λ (p : Past). p.calls) c.drop_piece.ensures)

pub returns-else-drop_piece-clause-turn : goal.returns-else-drop_piece-clause-turn
returns-else-drop_piece-clause-turn g c = no_turn_more (past_of c.args.self) (known_to c.args.answering.now.keys)
