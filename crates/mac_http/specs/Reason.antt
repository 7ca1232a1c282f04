-- Why a request isn't granted or done, for who counts and logs it (this project's own).
use Rattle.std.specs.Prelude.{Bool, true, false, Option, Some, None, option_map}
use Rattle.mac_calls.specs.Outcome.{wire_refusal}
use Rattle.mac_calls.specs.declared.answering.CallOutcome.{CallOutcome}
use Rattle.mac_wire.specs.declared.reply.Refusal.TheVariants as refusal
use Rattle.mac_http.specs.declared.finding.Finding.{Finding}
use Rattle.mac_http.specs.declared.finding.Finding.TheVariants as found
use Rattle.mac_http.specs.declared.reason.Judged.{Judged}
use Rattle.mac_http.specs.declared.reason.Reason.{Reason}
use Rattle.mac_http.specs.declared.reason.Reason.TheVariants.{Refused, Unsatisfied}

-- what was found of a token: why it is refused, or which caveat isn't satisfied; what no moment tells
-- is refused as the wire does
abbrev pub reason_found : Finding → Option Reason
reason_found found.Unknown = None
reason_found found.NoToken = None
reason_found found.Fragment = None
reason_found found.UnsafePath = None
reason_found found.ManyFacts = None
reason_found found.NoMoment = Some (Refused refusal.NoClock)
reason_found (found.Invalid scheme why) = Some (Refused why)
reason_found (found.Unsatisfied index) = Some (Unsatisfied index)
reason_found (found.Granted identifier location) = None

-- a key of the name gives the signature of the token of which this was found: behind that alone is
-- it told that a caveat isn't satisfied, or that the token was taken back
abbrev pub is_signed : Finding → Bool
is_signed (found.Granted identifier location) = true
is_signed (found.Unsatisfied index) = true
is_signed (found.Invalid scheme refusal.Revoked) = true
is_signed _ = false

-- what came of a verify of which this was found
abbrev pub judged_by : Finding → Judged
judged_by finding = record { reason = reason_found finding; is_signed = is_signed finding }

-- that of one that wasn't judged
abbrev pub nothing_judged : Judged
nothing_judged = record { reason = None; is_signed = false }

-- the refusal that came of a call, if one came
abbrev pub reason_of_call : CallOutcome → Option Reason
reason_of_call outcome = option_map Refused (wire_refusal outcome)
