-- What the environment says of sockets that were opened for a process (`sd_listen_fds(3)`).
use Rattle.std.specs.Prelude.{ℕ, List, codes, Option, Some, None, if◌then◌else◌, Bool, false, nat_eq}
use Rattle.std.specs.Fmt.{decimal}
use Rattle.std.specs.Cmp.Lexicographic.{pointwise}
use Rattle.mac_system.specs.declared.handed.Handing.{Handing}
use Rattle.mac_system.specs.declared.handed.Handing.TheVariants.{Nothing, One, Other}

-- a variable has this text
abbrev pub has_text : Option (List ℕ) → List ℕ → Bool
has_text None text = false
has_text (Some found) text = pointwise nat_eq found text

-- LISTEN_PID names the process that they are for, and LISTEN_FDS says how many there are
abbrev pub handing_of : ℕ → Option (List ℕ) → Option (List ℕ) → Handing
handing_of number owner count =
    if has_text owner (decimal number) then (if has_text count (codes "1") then One else Other)
    else Nothing
