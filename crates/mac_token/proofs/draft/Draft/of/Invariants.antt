use Rattle.mac_token.specs.Draft.{IsDraftOf}
use Rattle.mac_token.proofs.DraftLemmas.{with_first}
use Rattle.mac_token.proofs.draft.Draft.of.Given as goal

-- a draft of the token with the caveats so far
abbrev pub invariant-loop-caveat : goal.invariant-loop-caveat
invariant-loop-caveat l = IsDraftOf l.fn.form (with_first l.token l.caveats l.caveat-index) l.draft
