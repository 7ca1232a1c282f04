use Rattle.std.proofs.Common.{rules, ◌≡◌, ◌∙◌, ◌+◌, ◌≤◌, [], ◌∷◌, ◌++◌, length, ap, arith, length-append}
use Rattle.std.specs.Prelude.{OnOk}
use Rattle.std.proofs.lemmas.Result.{on_ok_weaker}
use Rattle.mac_log.specs.Level.{level_word}
use Rattle.mac_log.specs.Kind.{kind_level, kind_word}
use Rattle.mac_log.specs.Line.{front_text}
use Rattle.mac_log.proofs.LineLemmas.{line_added}
use Rattle.mac_log.proofs.ShortLemmas.{front-short, kind-short, level-short}
use Rattle.mac_log.proofs.line.Line.append_to.Goals as goal

pub returns-clause-text : goal.returns-clause-text
returns-clause-text c =
    let line = c.args.self.now in
    let start = c.args.out.now.items in
    let front : c.append_front.new.out.items ≡ start ++ front_text c.args.has_priority (kind_level line.kind) = search rules in
    let level : c.append_word.new.out.items ≡ c.append_moment.new.out.items ++ 32 ∷ level_word (kind_level line.kind) = search rules in
    let kind : c.append_word-2.new.out.items ≡ c.append_word.new.out.items ++ 32 ∷ kind_word line.kind = search rules in
    let fields : c.extend_from_slice.new.self.items ≡ c.append_word-2.new.out.items ++ line.fields.text = search rules in
    let grown : OnOk c.extend_from_slice-2.result (c.extend_from_slice-2.new.self.items ≡ c.extend_from_slice.new.self.items ++ 10 ∷ []) = search rules in
    on_ok_weaker c.extend_from_slice-2.result
    (λ feed. line_added c.args.has_priority line start c.append_front.new.out.items c.append_moment.new.out.items c.append_word.new.out.items c.append_word-2.new.out.items c.extend_from_slice.new.self.items c.extend_from_slice-2.new.self.items
    front c.in_ok-append_moment.ensures.text level kind fields feed)
    grown

pub returns-clause-short : goal.returns-clause-short
returns-clause-short c =
    let line = c.args.self.now in
    let start = c.args.out.now.items in
    let l = kind_level line.kind in
    let front : c.append_front.new.out.items ≡ start ++ front_text c.args.has_priority l = search rules in
    let moment : length c.append_moment.new.out.items ≤ length c.append_front.new.out.items + 27 = c.in_ok-append_moment.ensures.short in
    let level : c.append_word.new.out.items ≡ c.append_moment.new.out.items ++ 32 ∷ level_word l = search rules in
    let kind : c.append_word-2.new.out.items ≡ c.append_word.new.out.items ++ 32 ∷ kind_word line.kind = search rules in
    let told = c.as_slice.result.now in
    let fields : c.extend_from_slice.new.self.items ≡ c.append_word-2.new.out.items ++ told = search rules in
    let few : length told ≤ 960 = c.as_slice.ensures.short in
    let grown : OnOk c.extend_from_slice-2.result (c.extend_from_slice-2.new.self.items ≡ c.extend_from_slice.new.self.items ++ 10 ∷ []) = search rules in
    let s1 = ap length front ∙ length-append start (front_text c.args.has_priority l) in
    let s2 = ap length level ∙ length-append c.append_moment.new.out.items (32 ∷ level_word l) in
    let s3 = ap length kind ∙ length-append c.append_word.new.out.items (32 ∷ kind_word line.kind) in
    let s4 = ap length fields ∙ length-append c.append_word-2.new.out.items told in
    let b1 = front-short c.args.has_priority l in
    let b2 = level-short l in
    let b3 = kind-short line.kind in
    on_ok_weaker c.extend_from_slice-2.result
    (λ feed. let s5 = ap length feed ∙ length-append c.extend_from_slice.new.self.items (10 ∷ []) in omega arith)
    grown
