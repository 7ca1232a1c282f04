-- What happened is noted as often as the request is to be.
use Rattle.std.proofs.Common.{◌≡◌, ℕ, List, Option, Some, None, ap, refl}
use Rattle.std.specs.Prelude.{if◌then◌else◌, is_none}
use Rattle.http.specs.declared.request.Request.{Request}
use Rattle.http_server.specs.declared.response.Response.{Response}
use Rattle.mac_keys.specs.KeyTable.{Table}
use Rattle.mac_http.specs.declared.happened.Happened.{Happened}
use Rattle.mac_http.specs.declared.happened.Happened.TheVariants.{PageTold, Called, Judged}
use Rattle.mac_http.specs.declared.page.Page.{Page}
use Rattle.mac_http.specs.declared.rules.Rules.{Rules}
use Rattle.mac_http.specs.Happened.{HappensBy, notes_in}

pub noted_once : (page : Option Page) (table : Table) (rules : Rules) (moment : Option ℕ) (request : Request (List ℕ)) (response : Response) (happened : Happened)
    → HappensBy page table rules moment request response happened → notes_in happened ≡ (if is_none page then 1 else 0)
noted_once (Some page) table rules moment request response happened x = ap notes_in x
noted_once None table rules moment request response PageTold x = absurd x
noted_once None table rules moment request response (Called asked outcome) x = refl
noted_once None table rules moment request response (Judged judged) x = refl
