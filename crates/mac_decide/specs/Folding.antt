-- Texts that are folded onto a signature one by one (this project's own).
use Rattle.std.specs.Prelude.{ℕ, List, [], ◌∷◌, Option, Some, None}
use Rattle.mac_hmac.specs.Chain.{extended}
use Rattle.mac_token.specs.RawToken.{byte_lists}
use Rattle.mac_decide.specs.declared.folding.Texts.{Texts}
use Rattle.mac_decide.specs.declared.folding.Texts.TheVariants.{Caveats, Fields, Held}
use Rattle.mac_decide.specs.declared.folding.Under.{Under}
use Rattle.mac_decide.specs.declared.folding.Under.TheVariants.{Key, Signature}

-- a signature so far, and the texts that are still to be folded onto it
pub record Progress : Type 0 where
  pub signature : List ℕ
  pub left : List (List ℕ)

abbrev pub progress : List ℕ → List (List ℕ) → Progress
progress signature left = record { signature = signature; left = left }

-- the signature after all of them
abbrev pub end_of : Progress → List ℕ
end_of p = extended p.signature p.left

-- the texts that are left: the next one, if there is one, and those behind it
abbrev pub texts_left : Option (List ℕ) → List (List ℕ) → List (List ℕ)
texts_left None rest = []
texts_left (Some text) rest = text ∷ rest

-- texts, wherever they lie
abbrev pub texts_of : Texts → List (List ℕ)
texts_of (Caveats texts) = texts
texts_of (Held texts) = byte_lists texts.now
texts_of (Fields texts) = texts

-- the bytes that the next text is folded under: a key's, or the signature's so far
abbrev pub under_of : Under → List ℕ
under_of (Key key) = key
under_of (Signature signature) = signature
