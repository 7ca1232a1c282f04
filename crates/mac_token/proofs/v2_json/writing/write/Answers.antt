-- What is written token by token is the token's text.
use Rattle.std.proofs.Common.{◌≡◌, ℕ, List, [], ◌++◌, map, ap, ◌∙◌}
use Rattle.json.specs.Print.{print}
use Rattle.json.specs.Token.{Token}
use Rattle.json.specs.Tree.{json_tokens}
use Rattle.serde_json.specs.Written.{outline}
use Rattle.mac_token.specs.Json.{json_bytes, token_object}
use Rattle.mac_token.specs.RawToken.{RawParts, TokenParts, token_parts}
use Rattle.mac_token.specs.Read.{parts_of}
use Rattle.mac_token.proofs.JsonWritten.{printed}
use Rattle.mac_token.proofs.v2_json.writing.write.Goals as goal

pub returns : goal.returns
returns c =
    let put = c.in_ok-put_token.ensures in
    let raw = c.raw.inside in
    let none : c.put_token.new.out.before ≡ [] = put.1 ∙ c.new-out.ensures.before ∙ c.in_ok-bytes.ensures.items in
    let t = token_parts raw.location.now raw.identifier.now c.walk-caveats.result raw.sig in
    let same : t ≡ parts_of c.args.raw.now =
    ap (λ (cs : List (List ℕ)). token_parts raw.location.now raw.identifier.now cs raw.sig) c.walk-caveats.ensures
    ∙ ap (λ (r : RawParts). token_parts r.location r.identifier (map (λ x. x.id) c.args.raw.now.caveats) r.sig) c.raw.view_is in
    c.into_inner.ensures.items
    ∙ ap (λ (before : List ℕ). before ++ print c.put_token.new.out.tokens) none
    ∙ printed t c.put_token.new.out.tokens (put.0 ∙ ap (λ (ts : List Token). ts ++ json_tokens (outline (token_object t))) c.new-out.ensures.tokens)
    ∙ ap (λ (u : TokenParts). json_bytes u) same
