-- How many requests of each kind were answered.
use Rattle.std.specs.Prelude.{ℕ, ◌+◌, min, ◌==◌, List, [], ◌∷◌, replicate, slice_index, slice_set, count_by}
use Rattle.mac_count.specs.declared.number.AnsweredRequest.{AnsweredRequest}
use Rattle.mac_count.specs.declared.number.TheConstants.{REQUESTS}
use Rattle.mac_count.specs.Number.{request_place}

-- none of any kind
abbrev pub no_counts : List ℕ
no_counts = replicate REQUESTS 0

-- how many there are of a kind
abbrev pub counted : List ℕ → AnsweredRequest → ℕ
counted counts request = slice_index counts (request_place request)

-- one more of its kind, of which 64 bits are counted
abbrev pub with_counted : List ℕ → AnsweredRequest → List ℕ
with_counted counts request =
    slice_set counts (request_place request) (min (counted counts request + 1) 18_446_744_073_709_551_615)

-- these requests more, one after the other
abbrev pub with_all_counted : List ℕ → List AnsweredRequest → List ℕ
with_all_counted counts [] = counts
with_all_counted counts (request ∷ requests) = with_all_counted (with_counted counts request) requests

-- those of one kind among requests
abbrev pub count_of : AnsweredRequest → List AnsweredRequest → ℕ
count_of kind requests = count_by (λ other. request_place other == request_place kind) requests
