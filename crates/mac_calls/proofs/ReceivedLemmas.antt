-- What is read of a token that a call brings, by the bytes that it carries.
use Rattle.std.proofs.Common.{◌≡◌, ℕ, List, Ok, ap, refl}
use Rattle.mac_token.specs.Read.{carried_of, or_malformed, bare_of, token_of_read}
use Rattle.mac_token.specs.Answers.{IsFault as IsTokenFault}
use Rattle.mac_token.specs.declared.fault.TokenFault.{TokenFault}
use Rattle.mac_token.specs.declared.fault.TokenFault.TheVariants.{Refused, Memory}
use Rattle.mac_decide.proofs.VerifiedLemmas.{read_of-carried, read_of-refused}
use Rattle.mac_calls.specs.Fault.{fault_of_token}
use Rattle.mac_calls.specs.Gives.{IsFault}
use Rattle.mac_calls.specs.Received.{received}
use Rattle.mac_calls.specs.Steps.{of_token}

pub received_bare : (text bytes : List ℕ) → carried_of text ≡ Ok bytes
    → received text ≡ of_token (token_of_read (or_malformed (bare_of bytes)))
received_bare text bytes e = ap of_token (read_of-carried text bytes e)

pub none_received : (text : List ℕ) (fault : TokenFault) → IsTokenFault fault (carried_of text)
    → IsFault (fault_of_token fault) (received text)
none_received text (Refused why) is = ap of_token (read_of-refused text (Refused why) why refl is)
none_received text Memory is = tt
