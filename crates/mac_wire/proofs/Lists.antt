-- Lists of vectors as lists of lists.
use Rattle.std.proofs.Common.{◌≡◌, ℕ, ◌+◌, ◌-◌, List, ◌++◌, length, take, drop, append_assoc}
use Rattle.std.proofs.Math.Seq.{take-add, take-length}
use Rattle.std.proofs.lemmas.List.{length-drop}

-- as many bytes as there are past i are all of them
pub take-rest : {A : Type 0} (xs : List A) (i : ℕ) → take (length xs - i) (drop i xs) ≡ drop i xs
take-rest xs i = rw (← length-drop i xs) (take-length (drop i xs))

-- the first i elements, and then the first n of the rest, are the first i + n
pub grown-more : {A : Type 0} (start mid new xs : List A) (i n : ℕ) → mid ≡ start ++ take i xs → new ≡ mid ++ take n (take (length xs - i) (drop i xs)) → new ≡ start ++ take (i + n) xs
grown-more start mid new xs i n first second =
    rw (second, first, take-rest xs i, take-add i n xs) (append_assoc start (take i xs) (take n (drop i xs)))
