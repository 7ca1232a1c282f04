use Rattle.std.proofs.Common.{◌≡◌, ◌+◌, ℕ, List, length, drop, fold, refl, sym, ap, ◌∙◌}
use Rattle.std.specs.Arc.{arc_value}
use Rattle.left_right.specs.Sides.{view}
use Rattle.mac_board.specs.declared.issue.Issue.{Issue}
use Rattle.mac_keys.specs.KeyTable.{Table}
use Rattle.mac_board.proofs.Board.{puts, last-wins, one-more, history-same}
use Rattle.mac_board.proofs.publisher.Publisher.publish.Goals as goal

pub publish_as-writer-requires : goal.publish_as-writer-requires
publish_as-writer-requires g c next is =
    let now : Issue = c.append.new.self.desk.shown.value in
    let issue : Issue = record { table = c.in-Ok.table; number = c.published.result.now.number + 1 } in
    let earlier : List Issue = drop c.args.self.writer.behind c.args.self.writer.log.items in
    let last : (arc_value next.table, next.number) ≡ (arc_value issue.table, issue.number) =
    is ∙ ap (fold (λ (_ : Table × ℕ) (i : Issue). (arc_value i.table, i.number)) (arc_value now.table, now.number)) c.in-Ok-append.ensures.pending
    ∙ last-wins (arc_value now.table, now.number) earlier issue in
    puts c.append.new.self.desk.place.id (view c.append.new.self.desk.place) now next
    (rw c.append.ensures.desk c.args.self.counted)
    (rw c.append.ensures.desk (ap (λ (p : Table × ℕ). p.1) last ∙ ap (λ (i : Issue). i.number + 1) c.published.ensures))

pub invariant_of-result-2 : goal.invariant_of-result-2
invariant_of-result-2 g c =
    let before = c.append.new.self.desk in
    let after = c.publish_as-writer.result.0.desk in
    let now : Issue = before.shown.value in
    let issue : Issue = record { table = c.in-Ok.table; number = c.published.result.now.number + 1 } in
    let earlier : List Issue = drop c.args.self.writer.behind c.args.self.writer.log.items in
    let values = rw c.in-Ok-shown.is at c.publish_as-writer.ensures.values in
    let rule = rw c.in-Ok-shown.is at c.publish_as-writer.ensures.rule in
    let asked : ◌≡◌ {A = Table × ℕ} (arc_value issue.table, issue.number) (c.args.table, now.number + 1) =
    rw c.append.ensures.desk (λ k. (c.in-Ok.ensures.ok k, (c.published.ensures k).number + 1)) in
    let last : ◌≡◌ {A = Table × ℕ} (arc_value after.shown.value.table, after.shown.value.number) (c.args.table, now.number + 1) =
    values.0 ∙ ap (fold (λ (_ : Table × ℕ) (i : Issue). (arc_value i.table, i.number)) (arc_value now.table, now.number)) c.in-Ok-append.ensures.pending
    ∙ last-wins (arc_value now.table, now.number) earlier issue ∙ asked in
    let more = one-more (view before.place) (view after.place) now after.shown.value c.args.table rule (rw c.append.ensures.desk c.args.self.counted) last in
    let again = c.shown_again-writer.ensures in
    let same = history-same (view after.place) (view c.shown_again-writer.result.desk.place) (arc_value after.shown.value.table) (arc_value c.shown_again-writer.result.desk.shown.value.table) again.view again.table in
    let told : c.tell.new.self.told.value ≡ now.number + 1 =
    rw c.append.ensures.desk (c.tell.ensures ∙ ap (λ (i : Issue). i.number + 1) c.published.ensures) in
    record {
      counted = ap length same ∙ more.0 ∙ ap (λ (n : ℕ). n + 1) (sym again.number);
      told = told ∙ sym (ap (λ (p : Table × ℕ). p.1) last) ∙ sym again.number;
    }

pub returns : goal.returns
returns g c =
    let before = c.append.new.self.desk in
    let after = c.publish_as-writer.result.0.desk in
    let now : Issue = before.shown.value in
    let issue : Issue = record { table = c.in-Ok.table; number = c.published.result.now.number + 1 } in
    let earlier : List Issue = drop c.args.self.writer.behind c.args.self.writer.log.items in
    let values = rw c.in-Ok-shown.is at c.publish_as-writer.ensures.values in
    let rule = rw c.in-Ok-shown.is at c.publish_as-writer.ensures.rule in
    let asked : ◌≡◌ {A = Table × ℕ} (arc_value issue.table, issue.number) (c.args.table, now.number + 1) =
    rw c.append.ensures.desk (λ k. (c.in-Ok.ensures.ok k, (c.published.ensures k).number + 1)) in
    let last : ◌≡◌ {A = Table × ℕ} (arc_value after.shown.value.table, after.shown.value.number) (c.args.table, now.number + 1) =
    values.0 ∙ ap (fold (λ (_ : Table × ℕ) (i : Issue). (arc_value i.table, i.number)) (arc_value now.table, now.number)) c.in-Ok-append.ensures.pending
    ∙ last-wins (arc_value now.table, now.number) earlier issue ∙ asked in
    let more = one-more (view before.place) (view after.place) now after.shown.value c.args.table rule (rw c.append.ensures.desk c.args.self.counted) last in
    let again = c.shown_again-writer.ensures in
    let same = history-same (view after.place) (view c.shown_again-writer.result.desk.place) (arc_value after.shown.value.table) (arc_value c.shown_again-writer.result.desk.shown.value.table) again.view again.table in
    same ∙ more.1 ∙ rw c.append.ensures.desk refl
