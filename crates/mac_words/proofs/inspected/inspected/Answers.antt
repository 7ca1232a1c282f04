use Rattle.std.proofs.Common.{◌≡◌, List, length, rules, subst}
use Rattle.mac_token.specs.RawToken.{CaveatParts}
use Rattle.mac_words.specs.Inspected.{AreLines}
use Rattle.mac_words.proofs.InspectedLemmas.{Adds, text_made}
use Rattle.mac_words.proofs.inspected.inspected.Goals as goal

pub returns : goal.returns
returns c =
    let is : c.as_slice.result.now ≡ c.args.raw.now.caveats = search rules in
    let caveats = subst (λ (cs : List CaveatParts). Adds (AreLines (length cs) cs) c.append_head.new.out.items c.append_caveats.new.out.items) is c.in_ok-append_caveats.ensures in
    text_made c.args.token.now c.args.raw.now _ _ _ _ c.new-text.ensures.items c.in_ok-append_head.ensures caveats c.in_ok-append_tail.ensures
