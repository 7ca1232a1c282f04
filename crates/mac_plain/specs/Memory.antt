-- How much memory a client has at least.
use Rattle.std.specs.Prelude.{ℕ, Bool, true, false, ◌+◌, ◌*◌, if◌then◌else◌, min, length, vec_capacity}
use Rattle.mac_plain.specs.declared.client.Client.{Client}
use Rattle.mac_plain.specs.declared.course.Course.{Course}
use Rattle.mac_plain.specs.declared.course.Course.TheVariants as course

-- a worker has a copy of what is carried
abbrev pub is_waiting : Course → Bool
is_waiting course.Open = false
is_waiting course.Held = false
is_waiting course.Wide = false
is_waiting (course.Awaiting basis) = true
is_waiting course.TooLong = false
is_waiting (course.Ended why) = false
is_waiting (course.Fallen why) = false

-- the room for what is carried, once more where a worker has a copy, and what is unsent; counts end
-- at 64 bits
abbrev pub least_held : {P : Type 0} → Client P → ℕ
least_held client =
    min ((if is_waiting client.course then 2 else 1) * vec_capacity client.session.carried
    + length client.session.unsent) 18_446_744_073_709_551_615
