use Rattle.mac_hmac.proofs.DigestLemmas.{hmac-length, hmac-bytes}
use Rattle.mac_hmac.proofs.laws.hmac_is_32_bytes.Goals as goal

pub returns-clause-length : goal.returns-clause-length
returns-clause-length c = hmac-length

pub returns-clause-bytes : goal.returns-clause-bytes
returns-clause-bytes c = hmac-bytes
