use Rattle.std.proofs.Common.{◌≡◌, true, refl, inl, rules, subst}
use Rattle.std.specs.List.{Contains}
use Rattle.std.specs.Str.{bytes_eq}
use Rattle.std.proofs.lemmas.Slice.Eq.{bytes_eq-Decides}
use Rattle.mac_decide.proofs.SatisfiedLemmas.{among-first}
use Rattle.mac_decide.proofs.context.satisfied_in_order.Goals as goal

pub returns-in-Some-clause-satisfied : goal.returns-in-Some-clause-satisfied
returns-in-Some-clause-satisfied c =
    let facts = c.args.context.now.facts in
    let fact = c.in-Some.fact.now in
    let caveat = c.args.caveat.now in
    let equal : bytes_eq fact caveat ≡ true = search rules in
    let first = among-first facts c.args.ahead.now c.next.new.self fact c.requires (search rules) in
    ((λ _. inl (subst (Contains facts) ((bytes_eq-Decides fact caveat).0 equal) first.0)), (λ _. refl))

pub returns-in-Some-clause-ahead : goal.returns-in-Some-clause-ahead
returns-in-Some-clause-ahead c = (among-first c.args.context.now.facts c.args.ahead.now c.next.new.self c.in-Some.fact.now c.requires (search rules)).1
