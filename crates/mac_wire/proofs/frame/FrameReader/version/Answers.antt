use Rattle.mac_wire.proofs.Opening.{version_tells}
use Rattle.mac_wire.proofs.frame.FrameReader.version.Goals as goal

pub returns-clause-stream : goal.returns-clause-stream
returns-clause-stream c stream handed read = version_tells c.args.self.now.version c.args.self.now.stage stream handed read
