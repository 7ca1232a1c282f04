-- What becomes of the lines that a printer takes.
use Rattle.std.specs.Prelude.{◌≡◌, ℕ, ◌+◌, ◌<◌, ◌^◌, ◌==◌, if◌then◌else◌, List, slice_index_or, slice_set, Option, Some}
use Rattle.std.specs.List.{sum_by}
use Rattle.mac_log.specs.declared.books.Books.{Books}
use Rattle.mac_log.specs.declared.books.KindLines.{KindLines}
use Rattle.mac_log.specs.declared.books.KindLines.TheVariants.{Posted, LeftOut}
use Rattle.mac_log.specs.declared.kind.Kind.{Kind}
use Rattle.mac_log.specs.declared.quota.Quota.{Quota}
use Rattle.mac_log.specs.Kind.{is_bounded, kind_place}
use Rattle.mac_log.specs.Quota.{admitted, new_quota}

-- the quota of a kind
abbrev pub quota_of : List Quota → Kind → Quota
quota_of quotas kind = slice_index_or quotas (kind_place kind) new_quota

-- with this one as the quota of a kind
abbrev pub with_quota : List Quota → Kind → Quota → List Quota
with_quota quotas kind quota = slice_set quotas (kind_place kind) quota

-- a line of a kind at a moment: each kind that is bounded has a quota of its own
abbrev pub admitted_of : List Quota → Kind → ℕ → Option ℕ × List Quota
admitted_of quotas kind now =
    if is_bounded kind then (let one = admitted (quota_of quotas kind) now in (one.0, with_quota quotas kind one.1))
    else (Some 0, quotas)

-- so many lines of one kind, as they count for another
abbrev pub count_for : Kind → ℕ → Kind → ℕ
count_for of count kind = if kind_place of == kind_place kind then count else 0

-- how many of these lines are of a kind
abbrev pub lines_of : Kind → KindLines → ℕ
lines_of kind (Posted of) = count_for of 1 kind
lines_of kind (LeftOut of count) = count_for of count kind

-- The lines of a kind that are accounted for: printed, told to be left out, or left out and to be
-- told.
abbrev pub accounted : Books → Kind → ℕ
accounted books kind = sum_by (lines_of kind) books.printed + (quota_of books.quotas kind).left_out

-- so many lines more of one kind are accounted for, and none of another, as far as 64 bits count them
abbrev pub Gains : Books → Books → Kind → ℕ → Type 0
Gains before after of count = (kind : Kind) → accounted before kind + count_for of count kind < 2 ^ 64
    → accounted after kind ≡ accounted before kind + count_for of count kind

-- so many lines of one kind are still to be accounted for, which were accounted for before
abbrev pub Owes : Books → Books → Kind → ℕ → Type 0
Owes before after of count = (kind : Kind)
    → accounted after kind + count_for of count kind ≡ accounted before kind

-- each line that was taken is accounted for, kind by kind, as far as 64 bits count them
abbrev pub AreAccounted : List KindLines → Books → Type 0
AreAccounted taken books = (kind : Kind) → sum_by (lines_of kind) taken < 2 ^ 64
    → accounted books kind ≡ sum_by (lines_of kind) taken
