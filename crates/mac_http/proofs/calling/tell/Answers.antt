use Rattle.std.proofs.Common.{refl}
use Rattle.mac_http.proofs.calling.tell.Goals as goal

pub returns-in-NoKey : goal.returns-in-NoKey
returns-in-NoKey c = rw c.in-NoKey.is (record { status = refl; headers = c.requires.headers; body = c.requires.body })

pub returns-in-Minted : goal.returns-in-Minted
returns-in-Minted c = rw c.in-Minted.is (rw c.as_slice.ensures at c.put_json.ensures)

pub returns-in-Reply : goal.returns-in-Reply
returns-in-Reply c = rw c.in-Reply.is (rw c.as_slice-in-Reply.ensures at c.put_json-in-Reply.ensures)

pub returns-in-Refused : goal.returns-in-Refused
returns-in-Refused c = rw c.in-Refused.is (rw c.as_slice-in-Refused.ensures at c.put_json-in-Refused.ensures)
