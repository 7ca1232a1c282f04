use Rattle.mac_token.proofs.VarintLaws.{varint_shortest}
use Rattle.mac_token.proofs.laws.varint_is_shortest.Goals as goal

pub returns : goal.returns
returns c = varint_shortest
