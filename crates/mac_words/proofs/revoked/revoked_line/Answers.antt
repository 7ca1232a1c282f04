use Rattle.std.proofs.Common.{rules, ◌≡◌, true, append_assoc}
use Rattle.mac_keys.specs.Line.{is_name}
use Rattle.mac_words.specs.Revoked.{revoked_text}
use Rattle.mac_words.proofs.revoked.revoked_line.Goals as goal

pub returns : goal.returns
returns c =
    let named : is_name c.args.name.now ≡ true = search rules in
    let items : c.extend_from_slice-5.new.self.items ≡ revoked_text c.args.name.now c.args.identifier.now = search (rules, append_assoc) in
    (named, items)
