use Rattle.std.proofs.Common.{◌≡◌, ◌↔◌, ℕ, List, Option, Some, None, inr, refl}
use Rattle.mac_words.specs.Moment.{IsMoment}
use Rattle.mac_commands.proofs.people.given.parse_moment.Goals as goal

names_none : (given : List ℕ) (found : Option ℕ) → ((n : ℕ) → (found ≡ Some n) ↔ IsMoment given n) → found ≡ None → (n : ℕ) → IsMoment given n → ⊥
names_none given found is none n at = let some : found ≡ Some n = (is n).1 at in cc

pub returns-in-Some : goal.returns-in-Some
returns-in-Some c = (c.in_ok-second.ensures c.in-Some.second).0 c.in-Some.is

pub returns-in-None : goal.returns-in-None
returns-in-None c = inr (refl, names_none c.args.word.now _ c.in_ok-second.ensures c.in-None.is)
