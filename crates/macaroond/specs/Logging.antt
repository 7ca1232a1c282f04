-- What is logged beside the usual.
use Rattle.std.specs.Prelude.{◌||◌, Bool, List, ℕ, Option, Some, None, codes, false, if◌then◌else◌}
use Rattle.std.specs.List.{list_all, list_any}
use Rattle.std.specs.Str.{bytes_eq}
use Rattle.std.specs.declared.string.String.{String}
use Rattle.std.specs.declared.alloc.Global.{Global}
use Rattle.mac_host.specs.declared.exchange.Logged.{Logged}
use Rattle.macaroond.specs.Http.{words_of}

-- the word says what is logged
abbrev pub is_log_word : List ℕ → Bool
is_log_word word = bytes_eq word (codes "requests") || (bytes_eq word (codes "mints")
    || bytes_eq word (codes "identifiers"))

-- what these words say
abbrev pub logged_in : List (List ℕ) → Logged
logged_in words = record {
  requests = list_any (λ word. bytes_eq word (codes "requests")) words;
  mints = list_any (λ word. bytes_eq word (codes "mints")) words;
  identifiers = list_any (λ word. bytes_eq word (codes "identifiers")) words;
}

-- the same, if each of them says what is logged
abbrev pub logged_by : List (List ℕ) → Option Logged
logged_by words = if list_all is_log_word words then Some (logged_in words) else None

-- what the words of a list ask for, and nothing where none stands there
abbrev pub logged_of : Option (String Global) → Option Logged
logged_of None = Some (record { requests = false; mints = false; identifiers = false })
logged_of (Some words) = logged_by (words_of (Some words))
