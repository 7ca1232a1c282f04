use Rattle.std.proofs.Common.{rules, ℕ, ◌≡◌, ◌∙◌, ◌++◌, ◌≤◌, ◌∷◌, [], length, ap, arith, length-append, Option, cond}
use Rattle.std.specs.Prelude.{OnOk}
use Rattle.jiff.specs.Types.{Timestamp}
use Rattle.jiff.specs.Words.{datetime_text}
use Rattle.std.proofs.lemmas.Result.{on_ok_weaker}
use Rattle.mac_log.proofs.LineLemmas.{moment_added}
use Rattle.mac_log.proofs.ShortLemmas.{moment-short}
use Rattle.mac_log.proofs.moment.append_moment.Goals as goal

pub returns-clause-text : goal.returns-clause-text
returns-clause-text c =
    let (shown, at, text) = c.timestamp_text-text.ensures in
    let p = c.printer-printer.result in
    let grown : OnOk c.extend_from_slice.result (c.extend_from_slice.new.self.items ≡ c.args.out.now.items ++ c.timestamp_text-text.result.bytes) = search rules in
    let nanos = ap (λ (t : Timestamp). t.nanosecond) c.to_plain-instant.ensures ∙ c.instant_of.ensures in
    on_ok_weaker c.extend_from_slice.result
    (λ added. moment_added c.args.millis c.args.out.now.items c.extend_from_slice.new.self.items c.timestamp_text-text.result.bytes shown p.lowercase p.separator p.precision _
    c.printer-printer.ensures.case c.printer-printer.ensures.separator c.printer-printer.ensures.places nanos at text added)
    grown

pub returns-clause-short : goal.returns-clause-short
returns-clause-short c =
    let (shown, at, text) = c.timestamp_text-text.ensures in
    let p = c.printer-printer.result in
    let out = c.args.out.now.items in
    let told = c.timestamp_text-text.result.bytes in
    let grown : OnOk c.extend_from_slice.result (c.extend_from_slice.new.self.items ≡ out ++ told) = search rules in
    let placed = text ∙ ap (λ (o : Option ℕ). datetime_text p.lowercase p.separator o shown ++ (cond p.lowercase 122 90) ∷ []) c.printer-printer.ensures.places in
    let few = moment-short p.lowercase p.separator shown (cond p.lowercase 122 90) in
    let few_told : length told ≤ 27 = rw placed few in
    on_ok_weaker c.extend_from_slice.result
    (λ added. let size = length-append out told in let same = ap length added in omega arith)
    grown
