-- What is read of a token, by the bytes that it carries, and why none is.
use Rattle.std.proofs.Common.{◌≡◌, ℕ, List, Result, Ok, Err, refl, subst}
use Rattle.mac_token.specs.Read.{carried_of, raw_read_of, or_malformed, bare_of, token_of_read, read_of}
use Rattle.mac_token.specs.Answers.{IsFault}
use Rattle.mac_token.specs.declared.fault.TokenFault.{TokenFault}
use Rattle.mac_token.specs.declared.fault.TokenFault.TheVariants.{Refused}
use Rattle.mac_token.specs.declared.fault.TokenRefusal.{TokenRefusal}

-- the refusal that a fault is, is the answer
pub refused-is : {Y : Type 0} (answer : Result Y TokenRefusal) (fault : TokenFault) (reason : TokenRefusal) → fault ≡ Refused reason → IsFault fault answer → answer ≡ Err reason
refused-is answer fault reason is e = subst (λ (f : TokenFault). IsFault f answer) is e

pub read_of-carried : (token bytes : List ℕ) → carried_of token ≡ Ok bytes → read_of token ≡ token_of_read (or_malformed (bare_of bytes))
unfolding read_of raw_read_of
read_of-carried token bytes e = rw e refl

pub read_of-refused : (token : List ℕ) (fault : TokenFault) (reason : TokenRefusal) → fault ≡ Refused reason → IsFault fault (carried_of token) → read_of token ≡ Err reason
unfolding read_of raw_read_of
read_of-refused token fault reason is e =
    let refused : carried_of token ≡ Err reason = refused-is (carried_of token) fault reason is e in
    rw refused refl
