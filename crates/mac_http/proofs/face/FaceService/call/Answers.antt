use Rattle.std.proofs.Common.{ℕ, ◌+◌, ap, sym, subst, ◌∙◌, refl, inl}
use Rattle.http.specs.Request.{head_of}
use Rattle.http_server.specs.declared.response.Response.{Response}
use Rattle.http_uri.specs.Uri.{uri_path}
use Rattle.mac_http.specs.Faced.{MayClose}
use Rattle.mac_http.specs.Page.{page_in}
use Rattle.mac_http.proofs.NotingLemmas.{noted_once}
use Rattle.mac_http.proofs.face.FaceService.call.Goals.{then-is_ending, else-is_ending}
use Rattle.mac_http.proofs.face.FaceService.call.Goals as goal

pub returns-clause-ok : goal.returns-clause-ok
returns-clause-ok g c =
    let face = c.args.self.now in
    let request = c.args.request.now in
    let table = c.table-keys.result.now in
    let moment = c.tell-moment.result in
    let plain = c.answer-happened.new.response in
    let closed : MayClose plain c.if-is_ending.response = elim c.if-is_ending.branch [
      | then-is_ending w ↦ subst (λ (r : Response). MayClose plain r) (sym w.response-is) w.announce_close.ensures
      | else-is_ending w ↦ subst (λ (r : Response). MayClose plain r) (sym w.response-is) (record { status = refl; body = refl; fields = inl refl })
    ] in
    let counted = noted_once (page_in (uri_path (head_of request).uri)) table face.rules moment request plain c.answer-happened.result c.answer-happened.ensures.happened in (
      record {
        under = (table, moment);
        looks = c.look.ensures;
        up = c.table-keys.ensures;
        rules = refl {a = face.rules};
        told = c.tell-moment.ensures;
        right = (plain, c.answer-happened.ensures.told, closed);
        noted = c.note_to.ensures ∙ ap (λ (n : ℕ). g.S.Monitor.noted face.monitor + n) counted;
      },
      λ page is. (plain, c.answer-happened.ensures.shows page is, closed),
    )
