-- When a version lies within a range of an advisory, after the evaluation of the OSV schema 1.6. Defined by this project are
-- the ties, and that nothing is within a range that the order of the package cannot read. The events stay as they stand in the record:
-- nothing is sorted.
use Rattle.std.specs.Prelude.{ℕ, Bool, true, false, not, ◌&&◌, ◌||◌, if◌then◌else◌, List, codes, map, Option, Some, None}
use Rattle.std.specs.List.{list_all, list_any}
use Rattle.std.specs.declared.cmp.Ordering.{Ordering}
use Rattle.std.specs.Ordering.{is_le, is_lt, nat_cmp, on, then_cmp}
use Rattle.std.specs.Option.{option_cmp}
use Rattle.std.specs.Cmp.{IsTotalOrder, on_total, then_total, nat_cmp_total}
use Rattle.std.specs.Cmp.Lexicographic.{options_total}
use Rattle.cv_base.specs.Texts.{same}
use Rattle.cv_base.specs.declared.«package».PackageKind.{PackageKind}
use Rattle.cv_base.specs.declared.«package».PackageKind.TheVariants.{Deb, Apk, Npm, Pypi}
use Rattle.cv_base.specs.declared.advisory.Range.{Range}
use Rattle.cv_base.specs.declared.advisory.RangeKind.{RangeKind}
use Rattle.cv_base.specs.declared.advisory.RangeKind.TheVariants.{Ecosystem, Semver, Other}
use Rattle.cv_base.specs.declared.advisory.Turn.{Turn}
use Rattle.cv_base.specs.declared.advisory.Turn.TheVariants as turn
use Rattle.cv_match_range.specs.declared.placed.Bound.{Bound}
use Rattle.cv_match_range.specs.declared.placed.Bound.TheVariants.{Start, At, End}
use Rattle.cv_match_range.specs.declared.placed.Placed.{Placed}
use Rattle.cv_match_range.specs.declared.placed.Placed.TheVariants.{Introduced, Fixed, LastAffected, Limit}
use Rattle.cv_match_range.specs.Order.{is_version_of, version_cmp_of}

-- 0, 1 and 2: the start stands before every version, and the end after every one
abbrev pub bound_rank : {V : Type 0} → Bound V → ℕ
bound_rank Start = 0
bound_rank (At version) = 1
bound_rank End = 2

-- the version of a bound, if it has one
abbrev pub bound_version : {V : Type 0} → Bound V → Option V
bound_version Start = None
bound_version (At version) = Some version
bound_version End = None

-- the order of versions, with a start and an end
abbrev pub bound_cmp : {V : Type 0} → (V → V → Ordering) → Bound V → Bound V → Ordering
bound_cmp R = then_cmp (on bound_rank nat_cmp) (on bound_version (option_cmp R))

-- at most, by that order
abbrev pub le : {V : Type 0} → (V → V → Ordering) → Bound V → Bound V → Bool
le R x y = is_le (bound_cmp R x y)

-- before, by that order
abbrev pub lt : {V : Type 0} → (V → V → Ordering) → Bound V → Bound V → Bool
lt R x y = is_lt (bound_cmp R x y)

-- bounds are in a total order
pub bound_total : {V : Type 0} {R : V → V → Ordering} → IsTotalOrder R → IsTotalOrder (bound_cmp R)
bound_total {V} o = then_total (on_total (λ (b : Bound V). bound_rank b) nat_cmp_total) (on_total (λ (b : Bound V). bound_version b) (options_total o))

-- introduced `0` is before every version
abbrev pub introduced_at : List ℕ → Bound (List ℕ)
introduced_at text = if same text (codes "0") then Start else At text

-- limit `*` is after every version
abbrev pub limited_at : List ℕ → Bound (List ℕ)
limited_at text = if same text (codes "*") then End else At text

-- an event with its place in the order
abbrev pub placed : Turn → Placed (List ℕ)
placed (turn.Introduced text) = Introduced (introduced_at text)
placed (turn.Fixed text) = Fixed text
placed (turn.LastAffected text) = LastAffected text
placed (turn.Limit text) = Limit (limited_at text)

-- the flaw that came in at `from` is gone at v: by a fix f with from < f ≤ v, or a last affected l with from ≤ l < v
abbrev pub ends : {V : Type 0} → (V → V → Ordering) → Bound V → V → Placed V → Bool
ends R from v (Introduced i) = false
ends R from v (Fixed f) = lt R from (At f) && le R (At f) (At v)
ends R from v (LastAffected l) = le R from (At l) && lt R (At l) (At v)
ends R from v (Limit l) = false

-- the event brings the flaw in at v or before it, and no event of all ends it up to v
abbrev pub brings : {V : Type 0} → (V → V → Ordering) → List (Placed V) → V → Placed V → Bool
brings R all v (Introduced i) = le R i (At v) && not (list_any (ends R i v) all)
brings R all v (Fixed f) = false
brings R all v (LastAffected l) = false
brings R all v (Limit l) = false

-- the event is a limit
abbrev pub is_limit : {V : Type 0} → Placed V → Bool
is_limit (Introduced i) = false
is_limit (Fixed f) = false
is_limit (LastAffected l) = false
is_limit (Limit l) = true

-- a limit that v is before
abbrev pub is_limit_above : {V : Type 0} → (V → V → Ordering) → V → Placed V → Bool
is_limit_above R v (Introduced i) = false
is_limit_above R v (Fixed f) = false
is_limit_above R v (LastAffected l) = false
is_limit_above R v (Limit l) = lt R (At v) l

-- v is before some limit, or there is none
abbrev pub is_below_limits : {V : Type 0} → (V → V → Ordering) → List (Placed V) → V → Bool
is_below_limits R all v = not (list_any is_limit all) || list_any (is_limit_above R v) all

-- the events have the version within
abbrev pub holds : {V : Type 0} → (V → V → Ordering) → List (Placed V) → V → Bool
holds R all v = is_below_limits R all v && list_any (brings R all v) all

-- the type of a range that has versions of this kind: npm's are semantic ones
abbrev pub belongs : PackageKind → RangeKind → Bool
belongs kind Ecosystem = true
belongs Deb Semver = false
belongs Apk Semver = false
belongs Npm Semver = true
belongs Pypi Semver = false
belongs kind Other = false

-- introduced `0`, limit `*`, or a version of this kind
abbrev pub is_bound_of : PackageKind → Bound (List ℕ) → Bool
is_bound_of kind Start = true
is_bound_of kind (At text) = is_version_of kind text
is_bound_of kind End = true

-- the event is at a version of this kind, or has one of the two texts that stand for a bound
abbrev pub is_readable : PackageKind → Placed (List ℕ) → Bool
is_readable kind (Introduced i) = is_bound_of kind i
is_readable kind (Fixed f) = is_version_of kind f
is_readable kind (LastAffected l) = is_version_of kind l
is_readable kind (Limit l) = is_bound_of kind l

-- the range is of a type that belongs to the kind, and each of its events can be read
abbrev pub is_range_of : PackageKind → Range → Bool
is_range_of kind range = belongs kind range.kind && list_all (λ t. is_readable kind (placed t)) range.turns

-- the text is a version of this kind that lies within the range; takes a kind of package, a range and the text
unfoldable pub within : PackageKind → Range → List ℕ → Bool
within kind range version =
    is_version_of kind version && is_range_of kind range && holds (version_cmp_of kind) (map placed range.turns) version
