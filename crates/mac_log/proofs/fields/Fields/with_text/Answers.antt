use Rattle.std.proofs.Common.{rules, ◌≡◌, ◌≤◌, ◌<◌, false, length, ap, arith}
use Rattle.mac_log.specs.Fields.{fitting, value_room}
use Rattle.mac_log.proofs.FieldLemmas.{cut-short, whole-short}
use Rattle.mac_log.proofs.fields.Fields.with_text.Goals as goal

pub whole-requires : goal.whole-requires
whole-requires c =
    let text = c.args.self.text in
    let key = c.args.key in
    let value = c.args.value.now in
    let some : 0 < value_room text key = search rules in
    let all : fitting (value_room text key) value ≡ length value = search rules in
    whole-short text key value some all

pub cut-requires : goal.cut-requires
cut-requires c =
    let text = c.args.self.text in
    let uncut : c.self.inside.is_cut ≡ false = search rules in
    let inside : length c.self.inside.text.items ≤ 940 = c.self.invariant.1 uncut in
    let same : text ≡ c.self.inside.text.items = search rules in
    let size = ap length same in
    let within : length text ≤ 940 = omega arith in
    let key = c.args.key in
    let counted : c.fitting-count.result ≡ fitting (value_room text key) c.args.value.now = search rules in
    rw counted (cut-short text key c.args.value.now within)
