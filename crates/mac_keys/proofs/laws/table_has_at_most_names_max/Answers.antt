use Rattle.std.proofs.Common.{◌≤◌, length, sym, ap, subst, ◌∙◌, arith}
use Rattle.std.proofs.lemmas.List.{take_all}
use Rattle.std.specs.FinMap as map
use Rattle.mac_keys.specs.declared.key_map.TheConstants.{NAMES_MAX}
use Rattle.mac_keys.specs.Table.{NamedKeys, lines_of, keys_of}
use Rattle.mac_keys.proofs.FileMeaning.{faultless_made}
use Rattle.mac_keys.proofs.Bounded.{len-keys_of-le}
use Rattle.mac_keys.proofs.laws.table_has_at_most_names_max.Goals as goal

pub returns : goal.returns
returns c = λ text table made.
    let (faultless, is) = faultless_made (lines_of text) table made in
    let bound = len-keys_of-le (lines_of text) faultless (length (lines_of text)) (omega arith) in
    subst (λ (t : NamedKeys). map.len t ≤ NAMES_MAX) (ap keys_of (take_all (length (lines_of text)) (lines_of text) (omega arith)) ∙ sym is) bound
