-- How a daemon serves, as its options say.
use Rattle.std.specs.Prelude.{◌≡◌, ℕ, ◌≤◌, Option, Some, None}

-- so many threads: at least one and no more than may be, and those that were asked for
abbrev pub HasCount : ℕ → Option ℕ → ℕ → Type 0
HasCount most None count = (1 ≤ count) × (count ≤ most)
HasCount most (Some asked) count =
    (1 ≤ count) × (count ≤ most) × (1 ≤ asked → asked ≤ most → count ≡ asked)

-- the connections that may be live at a time: ten thousand, where no other number is asked for
abbrev pub connections_of : Option ℕ → ℕ
connections_of None = 10000
connections_of (Some asked) = asked

-- the seconds that connections have to end: ten, where no other number is asked for
abbrev pub drain_of : Option ℕ → ℕ
drain_of None = 10
drain_of (Some asked) = asked

-- the bytes that tokens found good are remembered in: 16 MiB, where no other number is asked for
abbrev pub remember_of : Option ℕ → ℕ
remember_of None = 16777216
remember_of (Some asked) = asked

-- the bytes of memory that connections and these tokens may have: so many were found, where no other
-- number is asked for
abbrev pub memory_of : ℕ → Option ℕ → ℕ
memory_of found None = found
memory_of found (Some asked) = asked
