-- What the requests of calls are answered on (this project's own).
use Rattle.std.specs.Prelude.{ℕ, List, Option, Some, None, false, true}
use Rattle.mac_decide.specs.Revocation.{is_listed_read}
use Rattle.mac_decide.specs.declared.job.Basis.{Basis}
use Rattle.mac_keys.specs.Revoked.{Revoked}
use Rattle.mac_keys.specs.declared.keys.Keys.{Keys}
use Rattle.mac_token.specs.Read.{read_of}
use Rattle.mac_calls.specs.declared.verifier.Verifier.{Verifier as LentVerifier}

-- the keys of a call's name, if it is about one; whoever may call may mint, and a call tells its own
-- moment
abbrev pub basis_of : Option Keys → Basis
basis_of keys =
    record { keys = keys; is_revoked = false; may_mint = true; moment = None }

-- what a verify is answered by: the keys of a name, and what was taken back
pub record Verifier : Type 0 where
  pub keys : Keys
  pub name : List ℕ
  pub revoked : Revoked

-- the one that a value of the program lends
abbrev pub lent_verifier : LentVerifier → Verifier
lent_verifier v =
    record { keys = v.keys.now; name = v.name.now; revoked = v.revoked.now }

-- what a verify of a token is answered on
abbrev pub verify_basis : Verifier → List ℕ → Basis
verify_basis v token = record {
  keys = Some v.keys;
  is_revoked = is_listed_read v.revoked v.name (read_of token);
  may_mint = true;
  moment = None;
}
