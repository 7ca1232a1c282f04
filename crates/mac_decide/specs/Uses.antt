-- What requests are counted as at the names of their keys, and which key gave a signature (this
-- project's own).
use Rattle.std.specs.Prelude.{◌≡◌, ℕ, ◌+◌, List, None, true, if◌then◌else◌}
use Rattle.mac_keys.specs.declared.keys.Keys.{Keys}
use Rattle.mac_wire.specs.declared.reply.Reply.{Reply}
use Rattle.mac_wire.specs.declared.reply.Reply.TheVariants as reply
use Rattle.mac_decide.specs.Seen.{is_minted_text}
use Rattle.mac_decide.specs.declared.part.MintedText.{MintedText}
use Rattle.mac_decide.specs.declared.uses.KeyUse.{KeyUse}
use Rattle.mac_decide.specs.declared.uses.KeyUse.TheVariants.{Granted, Minted, NotMinted, Refused, Unsatisfied}
use Rattle.mac_decide.specs.declared.uses.Signer.{Signer}
use Rattle.mac_decide.specs.declared.uses.Signer.TheVariants.{Either, First, Second}

-- the places at which uses are counted
abbrev pub signer_place : Signer → ℕ
signer_place First = 0
signer_place Second = 1
signer_place Either = 2

abbrev pub use_place : KeyUse → ℕ
use_place Minted = 0
use_place NotMinted = 1
use_place (Granted signer) = 2 + signer_place signer
use_place (Unsatisfied signer) = 5 + signer_place signer
use_place Refused = 8

-- what a mint is counted as, whose reply this is
abbrev pub mint_use : Reply → KeyUse
mint_use (reply.Token bytes) = Minted
mint_use reply.Granted = NotMinted
mint_use (reply.GrantedTo identifier location) = NotMinted
mint_use (reply.Unsatisfied index) = NotMinted
mint_use (reply.Refused reason) = NotMinted

-- what a verify is counted as, whose reply this is, where this key gave the signature
abbrev pub verify_use : Reply → Signer → KeyUse
verify_use reply.Granted signer = Granted signer
verify_use (reply.GrantedTo identifier location) signer = Granted signer
verify_use (reply.Unsatisfied index) signer = Unsatisfied signer
verify_use (reply.Token bytes) signer = Refused
verify_use (reply.Refused reason) signer = Refused

-- a key alone
abbrev pub key_alone : List ℕ → Keys
key_alone key = record { first = key; second = None }

-- the first key, where it gives the signature of the token that a text spells, and else the second
abbrev pub signer_by : List ℕ → List ℕ → Signer
signer_by first text = if is_minted_text (key_alone first) text then First else Second

-- which of these keys gives the signature of the token that a text spells, where one of them does
abbrev pub signer_of : Keys → List ℕ → Signer
signer_of keys text = signer_by keys.first text

-- the text spells a token that one of the keys signed, and this is the one
pub record IsMintedText (found : MintedText) : Type 0 where
  pub minted : is_minted_text found.keys.now found.text.now ≡ true
  pub signed : found.signer ≡ signer_of found.keys.now found.text.now
