use Rattle.std.proofs.Common.{◌≡◌, ℕ, List, None, Some, rules, string_bytes, subst}
use Rattle.mac_words.specs.Inspected.{AreWords}
use Rattle.mac_words.proofs.InspectedLemmas.{Adds, placed_told}
use Rattle.mac_words.proofs.caveat_lines.append_first_party.Goals as goal

pub returns-in_ok-append_escaped-in-Some : goal.returns-in_ok-append_escaped-in-Some
returns-in_ok-append_escaped-in-Some c =
    let is : c.as_str.result.now ≡ string_bytes c.in-Some.location = search rules in
    let told = placed_told c.as_str.result.now c.args.id.now _ _ _ c.in_ok-append_at-in-Some.ensures c.in_ok-append_escaped-in-Some.ensures in
    rw c.in-Some.is (subst (λ (place : List ℕ). Adds (AreWords None (Some place) c.args.id.now) c.args.out.now.items c.append_escaped.new.out.items) is told)
