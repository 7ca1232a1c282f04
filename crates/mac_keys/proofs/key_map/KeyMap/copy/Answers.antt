use Rattle.std.proofs.Common.{◌≡◌, ◌∙◌, ap}
use Rattle.std.specs.FinMap as map
use Rattle.std.specs.List.{AllZip, each_same}
use Rattle.mac_keys.proofs.CopiedLemmas.{by_name-copied}
use Rattle.mac_keys.proofs.key_map.KeyMap.copy.Goals as goal

pub returns : goal.returns
returns c =
    ap map.from_entries (by_name-copied (λ v w. AllZip (λ x y. y ≡ x) v.items w.items × (w.len ≡ v.len)) (λ v w. w ≡ v) (λ x y q. each_same x.items y.items q.0) (λ v w q. q) c.self.inside.keys.entries c.in_ok-clone.field-0.entries c.in_ok-clone.ensures.cases) ∙ c.self.view_is
