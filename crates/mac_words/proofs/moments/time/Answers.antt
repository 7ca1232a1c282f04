use Rattle.std.proofs.Common.{◌≡◌, ◌++◌, ℤ, ◌↔◌, List, ℕ, Some, codes, rules, subst}
use Rattle.mac_decide.specs.Time.{IsTimeLimit}
use Rattle.mac_words.proofs.moments.time.Goals as goal

pub returns : goal.returns
returns c =
    let is : c.as_slice.result.now ≡ codes "time < " ++ c.args.text.now = search rules in
    subst (λ (bytes : List ℕ). (v : ℤ) → (c.time_limit.result ≡ Some v) ↔ IsTimeLimit bytes v) is c.time_limit.ensures
