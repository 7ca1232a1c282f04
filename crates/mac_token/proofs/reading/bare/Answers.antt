use Rattle.std.proofs.Common.{◌≡◌, List, [], ℕ, Bor, Ok, true, false, refl, sym, ◌∙◌}
use Rattle.std.proofs.lemmas.Result.{err_from_is_err_and}
use Rattle.mac_token.specs.Answers.{Answers}
use Rattle.mac_token.specs.Read.{begins_bare, carried_of}
use Rattle.mac_token.proofs.ReadLaws.{carried_ends}
use Rattle.mac_token.proofs.reading.bare.Goals as goal

pub returns-in_err-carries_itself : goal.returns-in_err-carries_itself
returns-in_err-carries_itself c =
    let p = err_from_is_err_and c.from_residual.result c.from_residual.ensures.1 in
    let emptied : c.carries_itself.new.room.items ≡ [] = c.in_err-carries_itself.ensures.empty (λ e. cc) in
    let answer : Answers {X = Bor (List ℕ)} (λ bytes. bytes.now) c.from_residual.result (carried_of c.args.input.now) =
    rw (p.1, p.2) c.in_err-carries_itself.ensures.answer in (
      (refl, λ _. tt, rw p.1 emptied),
      record {
        answer = answer;
        meaning = carried_ends (λ (bytes : Bor (List ℕ)). bytes.now) c.args.input.now c.from_residual.result answer;
        memory = rw (p.1, p.2) (λ e. c.in_err-carries_itself.ensures.memory cc);
        kept = tt;
      },
    )

pub returns-then-branch : goal.returns-then-branch
returns-then-branch c =
    let emptied : c.carries_itself.new.room.items ≡ [] = c.in_ok-carries_itself.ensures.empty (rw c.if-branch.true (λ e. cc)) in
    let answer : carried_of c.args.input.now ≡ Ok c.args.input.now = rw c.if-branch.true at c.in_ok-carries_itself.ensures.answer in
    let bare : begins_bare c.args.input.now ≡ true = sym c.in_ok-carries_itself.ensures.kept ∙ c.if-branch.true in (
      (refl, λ _. tt, rw bare emptied),
      record {
        answer = answer;
        meaning = carried_ends (λ (bytes : Bor (List ℕ)). bytes.now) c.args.input.now (Ok c.args.input) answer;
        memory = λ e. absurd cc;
        kept = tt;
      },
    )

pub returns-else-branch : goal.returns-else-branch
returns-else-branch c =
    let answer : carried_of c.args.input.now ≡ Ok c.as_slice.result.now =
    rw (c.if-branch.false, sym c.as_slice.ensures.value) at c.in_ok-carries_itself.ensures.answer in
    let not_bare : begins_bare c.args.input.now ≡ false = sym c.in_ok-carries_itself.ensures.kept ∙ c.if-branch.false in (
      (refl, λ _. tt, rw not_bare (sym c.as_slice.ensures.value)),
      record {
        answer = answer;
        meaning = carried_ends (λ (bytes : Bor (List ℕ)). bytes.now) c.args.input.now (Ok c.as_slice.result) answer;
        memory = λ e. absurd cc;
        kept = tt;
      },
    )
