-- Counts that go round, behind what is added to them and taken from them.
use Rattle.std.proofs.Common.{◌≡◌, ◌+◌, ◌-◌, ◌%◌, ◌<◌, ◌≤◌, ℕ, ap, arith, sym, ◌∙◌}
use Rattle.std.proofs.Math.Nat.{add-mod-mod, add-mod_right, mod-add-mod, mod-eq_of_lt}
use Rattle.mac_loop.specs.Backlog.{rounded}

-- what is added to a count that went round
pub added : (m count all more : ℕ) → count ≡ all % m → (count + more) % m ≡ (all + more) % m
added m count all more is = ap (λ n. (n + more) % m) is ∙ mod-add-mod all m more

-- what is taken from one
pub taken : (m count rest less : ℕ) → less ≤ m → count ≡ (rest + less) % m → (count + (m - less)) % m ≡ rest % m
taken m count rest less small is =
    let back : rest + less + (m - less) ≡ rest + m = omega arith in
    added m count (rest + less) (m - less) is ∙ ap (λ n. n % m) back ∙ add-mod_right rest m

-- what is between two of them
pub between : (m before now : ℕ) → before ≤ m → now < m → (before + (now + (m - before)) % m) % m ≡ now
between m before now some small =
    let whole : before + (now + (m - before)) ≡ now + m = omega arith in
    add-mod-mod before (now + (m - before)) m ∙ ap (λ n. n % m) whole ∙ add-mod_right now m ∙ mod-eq_of_lt small

-- a count of a sum is one of what is left of it, and what has gone
pub goes : (count old new gone : ℕ) → count ≡ rounded old → new + gone ≡ old → count ≡ rounded (new + gone)
goes count old new gone is whole = is ∙ ap (λ n. rounded n) (sym whole)

-- a count of a sum and what has come is one of the sum that there is now
pub comes : (count old more new : ℕ) → count ≡ rounded (old + more) → new ≡ old + more → count ≡ rounded new
comes count old more new is whole = is ∙ ap (λ n. rounded n) (sym whole)

-- a count of a sum that stayed
pub still : (count old new : ℕ) → count ≡ rounded old → new ≡ old → count ≡ rounded new
still count old new is same = is ∙ ap (λ n. rounded n) (sym same)
