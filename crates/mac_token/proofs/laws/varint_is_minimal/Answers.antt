use Rattle.std.proofs.Common.{ℕ, List, sym, subst}
use Rattle.mac_token.specs.Varint.{IsVarint}
use Rattle.mac_token.proofs.VarintLaws.{IsVarint-varint, varint_one}
use Rattle.mac_token.proofs.laws.varint_is_minimal.Goals as goal

pub returns : goal.returns
returns c = λ bytes n. (varint_one bytes n, λ is. subst (λ (b : List ℕ). IsVarint b n) (sym is) (IsVarint-varint n))
