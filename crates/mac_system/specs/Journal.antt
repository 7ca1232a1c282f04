-- The stream to systemd's journal (`systemd.exec(5)`).
use Rattle.std.specs.Prelude.{ℕ, Bool, List, ◌∷◌, ◌++◌, nat_eq}
use Rattle.std.specs.Fmt.{decimal}
use Rattle.std.specs.Cmp.Lexicographic.{pointwise}

-- a text names a file: the number of its device, a colon, and its own number there
abbrev pub names_file : List ℕ → ℕ → ℕ → Bool
names_file told device number = pointwise nat_eq told (decimal device ++ 58 ∷ decimal number)
