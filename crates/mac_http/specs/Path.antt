-- Paths that facts are told of, and the steps of a path (this project's own).
use Rattle.std.specs.Prelude.{◌≡◌, ◌<◌, ◌≤◌, true, ℕ, zero, suc, ◌-◌, Bool, false, ◌==◌, nat_le, not, ◌&&◌, ◌||◌, List, [], ◌∷◌, ◌++◌, length, take, slice_index, map, codes, bytes_eq, if◌then◌else◌}
use Rattle.std.specs.List.{count_by}
use Rattle.std.specs.Char.{to_ascii_lowercase}
use Rattle.mac_http.specs.declared.path.TheConstants.{PATH_MAX, SEGMENTS_MAX}
use Rattle.mac_http.specs.Target.{is_slash, segment_length}

-- the text begins with the front
abbrev pub begins : List ℕ → List ℕ → Bool
begins front text = bytes_eq (take (length front) text) front

-- the same in any case of their letters
abbrev pub begins_in_any_case : List ℕ → List ℕ → Bool
begins_in_any_case front text =
    bytes_eq (map to_ascii_lowercase (take (length front) text)) (map to_ascii_lowercase front)

-- what stands before the first slash is a dot segment (RFC 3986, section 3.3)
abbrev pub begins_with_dots : List ℕ → Bool
begins_with_dots text =
    bytes_eq (take (segment_length text) text) (codes ".")
    || bytes_eq (take (segment_length text) text) (codes "..")

-- a slash begins a dot segment
abbrev pub begins_dot_segment : List ℕ → Bool
begins_dot_segment [] = false
begins_dot_segment (b ∷ rest) = is_slash b && begins_with_dots rest

-- an escaped dot, slash or backslash
abbrev pub begins_escape : List ℕ → Bool
begins_escape text =
    begins_in_any_case (codes "%2e") text || (begins_in_any_case (codes "%2f") text
    || begins_in_any_case (codes "%5c") text)

-- what some servers end a segment at or drop: a semicolon, or an escape of one, of a tab or of NUL;
-- or read in a way of their own: an escape that begins `%u`
abbrev pub begins_ending : List ℕ → Bool
begins_ending text =
    begins (codes ";") text || (begins_in_any_case (codes "%3b") text
    || (begins (codes "%00") text || (begins (codes "%09") text
    || begins_in_any_case (codes "%u") text)))

-- bytes that begin a character in more bytes than it needs (RFC 3629, section 3), escaped or as
-- they are: C0 and C1, E0 before 80 to 9F, F0 before 80 to 8F
abbrev pub begins_overlong_escape : List ℕ → Bool
begins_overlong_escape text =
    begins_in_any_case (codes "%c0") text || (begins_in_any_case (codes "%c1") text
    || (begins_in_any_case (codes "%e0%8") text || (begins_in_any_case (codes "%e0%9") text
    || begins_in_any_case (codes "%f0%8") text)))

abbrev pub begins_overlong : List ℕ → Bool
begins_overlong [] = false
begins_overlong (b ∷ []) = b == 192 || b == 193
begins_overlong (b ∷ c ∷ rest) = b == 192 || (b == 193
    || ((b == 224 && (nat_le 128 c && nat_le c 159)) || (b == 240 && (nat_le 128 c && nat_le c 143))))

-- what a strict reader of paths refuses besides
abbrev pub begins_odd : List ℕ → Bool
begins_odd text =
    begins_ending text || (begins_overlong_escape text || begins_overlong text)

-- what servers may read as another path: an empty segment, a backslash, an escape, a dot segment
abbrev pub begins_misread : List ℕ → Bool
begins_misread text =
    begins (codes "//") text || (begins (codes "\\") text
    || (begins_escape text || begins_dot_segment text))

-- the same, and what is odd where it is strict
abbrev pub begins_unsafe : Bool → List ℕ → Bool
begins_unsafe strict text = begins_misread text || (strict && begins_odd text)

-- such a thing stands somewhere in the text
unfoldable pub has_unsafe : Bool → List ℕ → Bool
has_unsafe strict [] = false
has_unsafe strict (b ∷ rest) = begins_unsafe strict (b ∷ rest) || has_unsafe strict rest

-- facts are told of the path: it begins with a slash, is within its limits, and has nothing unsafe
abbrev pub is_plain : Bool → List ℕ → Bool
is_plain strict path = begins (codes "/") path && (nat_le (length path) PATH_MAX
    && (nat_le (count_by is_slash path) SEGMENTS_MAX && not (has_unsafe strict path)))

-- that many bytes of the path are a step: they end in no slash, and a slash or nothing follows;
-- the first slash alone is one too
abbrev pub is_step : List ℕ → ℕ → Bool
is_step path n =
    n == 1 || (not (is_slash (slice_index path (n - 1)))
    && (n == length path || is_slash (slice_index path n)))

-- the step of that many bytes, if they are one
abbrev pub step_of : List ℕ → ℕ → List (List ℕ)
step_of path n = if is_step path n then take n path ∷ [] else []

-- the steps of at most that many bytes, shortest first
unfoldable pub steps_within : List ℕ → ℕ → List (List ℕ)
steps_within path zero = []
steps_within path (suc n) = steps_within path n ++ step_of path (suc n)

-- the step is a front of the path that ends where a step does
pub record IsStep (path step : List ℕ) : Type 0 where
  pub count : ℕ
  pub above : 0 < count
  pub within : count ≤ length path
  pub ends : is_step path count ≡ true
  pub front : step ≡ take count path

-- the steps of a path, shortest first: `/`, `/a` and `/a/b` of `/a/b`
abbrev pub steps : List ℕ → List (List ℕ)
steps path = steps_within path (length path)
