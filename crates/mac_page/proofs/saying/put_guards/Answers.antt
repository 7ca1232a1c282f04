use Rattle.std.proofs.Common.{ap, ap₂, ℕ, List}
use Rattle.std.specs.Prelude.{codes}
use Rattle.http_header.specs.FieldValue.{FieldValue}
use Rattle.http1.specs.Fields.{Header}
use Rattle.mac_page.proofs.PageLemmas.{six_put}
use Rattle.mac_page.proofs.saying.put_guards.Goals as goal

-- a field of this name and a value
abbrev named : List ℕ → FieldValue → Header
named name value = (name, value.bytes)

pub returns-clause-fields : goal.returns-clause-fields
returns-clause-fields c =
    six_put _ _ _ _ _ _ _ _ _ _ _ _ _ _ _ _ _ _ _ (ap (named (codes "content-security-policy")) c.from_static-policy.ensures)
    (ap (named (codes "x-content-type-options")) c.from_static-types.ensures) (ap (named (codes "referrer-policy")) c.from_static-referrer.ensures)
    (ap (named (codes "cache-control")) c.from_static-cache.ensures) (ap₂ named c.from_static-resource.ensures c.from_static-origin.ensures)
    (ap₂ named c.from_static-opener.ensures c.from_static-alone.ensures)
    c.in_ok-add_header.ensures.headers c.in_ok-add_header-2.ensures.headers c.in_ok-add_header-3.ensures.headers
    c.in_ok-add_header-4.ensures.headers c.in_ok-add_header-5.ensures.headers c.in_ok-add_header-6.ensures.headers
