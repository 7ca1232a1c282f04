use Rattle.mac_board.proofs.Board.{admits}
use Rattle.mac_board.proofs.follower.Followers.follower.Goals as goal

pub reader-requires : goal.reader-requires
reader-requires c = admits
