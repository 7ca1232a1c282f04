use Rattle.std.proofs.Common.{rules, ◌≡◌, ◌<◌, true, length, ap, ◌∙◌, append_assoc, List, ℕ, subst, sym}
use Rattle.hex.specs.Hex.{IsBytes}
use Rattle.mac_keys.specs.Change.{IsKeyLine}
use Rattle.mac_keys.specs.Line.{is_name}
use Rattle.mac_keys.specs.Table.{table_of}
use Rattle.mac_words.specs.KeyLine.{key_text}
use Rattle.mac_words.proofs.KeyLineLemmas.{key_text-line, key_text-table}
use Rattle.mac_words.proofs.key_lines.key_line.Goals as goal

pub returns : goal.returns
returns c =
    let name = c.args.name.now in
    let secret = c.args.secret.now in
    let named : is_name name ≡ true = search rules in
    let items : c.extend_from_slice-5.new.self.items ≡ key_text name secret = search (rules, append_assoc) in
    let bytes : IsBytes secret = search rules in
    let some : 0 < length secret = search rules in (
      named,
      items,
      ap table_of items ∙ key_text-table name secret named bytes some,
      subst (λ (text : List ℕ). IsKeyLine name secret text) (sym items) (key_text-line name secret named bytes some),
    )
