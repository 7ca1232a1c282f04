-- How the pipe prints a reply.
use Rattle.std.specs.Prelude.{ℕ, List, [], ◌∷◌, ◌++◌, codes}
use Rattle.std.specs.Fmt.{decimal}
use Rattle.hex.specs.Hex.{encode_lower}
use Rattle.mac_wire.specs.Reply.{refusal_code}
use Rattle.mac_wire.specs.declared.reply.Reply.{Reply}
use Rattle.mac_wire.specs.declared.reply.Reply.TheVariants as reply
use Rattle.mac_words.specs.TokenText.{token_text}

-- a token, as people are told it
abbrev pub token_words : List ℕ → List ℕ
token_words token = codes "token " ++ token_text token

-- whose a granted token is: its identifier and its location, in hexadecimal
abbrev pub owner_words : List ℕ → List ℕ → List ℕ
owner_words identifier location =
    codes "granted to " ++ (encode_lower identifier ++ (codes " at " ++ encode_lower location))

abbrev pub reply_words : Reply → List ℕ
reply_words reply.Granted = codes "granted"
reply_words (reply.GrantedTo identifier location) = owner_words identifier location
reply_words (reply.Token token) = token_words token
reply_words (reply.Refused reason) = codes "refused " ++ decimal (refusal_code reason)
reply_words (reply.Unsatisfied index) = codes "refused 24 " ++ decimal index

-- the words of a reply and a line feed
unfoldable pub reply_line : Reply → List ℕ
reply_line r = reply_words r ++ 10 ∷ []
