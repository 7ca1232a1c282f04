-- Which key gives a signature, where a name has one alone.
use Rattle.std.proofs.Common.{◌≡◌, ◌↔◌, ◌∷◌, ℕ, List, [], Bool, true, Result, Ok, Err, if◌then◌else◌, ap, sym}
use Rattle.mac_keys.specs.Keys.{listed}
use Rattle.mac_keys.specs.declared.keys.Keys.{Keys}
use Rattle.mac_token.specs.RawToken.{TokenParts}
use Rattle.mac_token.specs.Read.{read_of}
use Rattle.mac_token.specs.declared.fault.TokenRefusal.{TokenRefusal}
use Rattle.mac_decide.specs.Minted.{Minted}
use Rattle.mac_decide.specs.Seen.{is_minted_read, is_minted_text}
use Rattle.mac_decide.specs.Uses.{key_alone, signer_of}
use Rattle.mac_decide.specs.declared.uses.Signer.TheVariants.{First, Second}
use Rattle.mac_decide.proofs.VerdictLemmas.{minted-tested, tested-minted}

-- what was read is a token that the first key signs, where it signs all that the keys sign
alone-read : (keys : Keys) (read : Result TokenParts TokenRefusal) → ((t : TokenParts) → Minted (keys.first ∷ []) t ↔ Minted (listed keys) t)
    → is_minted_read keys read ≡ true → is_minted_read (key_alone keys.first) read ≡ true
alone-read keys (Ok t) same e = tested-minted (keys.first ∷ []) t ((same t).1 (minted-tested (listed keys) t e))
alone-read keys (Err reason) same e = e

-- so it gives the signature of a text's token that is minted
pub lone-signer : (keys : Keys) (text : List ℕ) → ((t : TokenParts) → Minted (keys.first ∷ []) t ↔ Minted (listed keys) t)
    → is_minted_text keys text ≡ true → First ≡ signer_of keys text
lone-signer keys text same e =
    sym (ap (λ (b : Bool). if b then First else Second) (alone-read keys (read_of text) same e))
