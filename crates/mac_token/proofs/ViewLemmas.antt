-- A token that is written as V2 binary is seen again, however long that is.
use Rattle.std.proofs.Common.{◌≡◌, length, refl, ap, ◌∙◌, inl, inr}
use Rattle.std.specs.Str.{IsUtf8}
use Rattle.mac_token.specs.Limits.{token_or_limit}
use Rattle.mac_token.specs.RawToken.{TokenParts, raw_of}
use Rattle.mac_token.specs.Read.{bare_of, or_malformed, token_of_read}
use Rattle.mac_token.specs.V2.{v2_bytes}
use Rattle.mac_token.proofs.ReadLaws.{token_of-first_parties}
use Rattle.mac_token.proofs.ReadLemmas.{bare_again}
use Rattle.mac_token.proofs.V2Laws.{V2-v2_bytes}

-- within the limits
pub seen_again : (t : TokenParts) → IsUtf8 t.location → length t.sig ≡ 32 → token_of_read (or_malformed (bare_of (v2_bytes t))) ≡ token_or_limit t
seen_again t utf8 size =
    let bare = bare_again (v2_bytes t) (raw_of t) (inr (inl (refl, V2-v2_bytes t utf8 size))) in
    ap (λ reading. token_of_read (or_malformed reading)) bare ∙ token_of-first_parties t
