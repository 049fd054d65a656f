-- A version `[epoch:]upstream[-revision]` and the order of versions, after Debian Policy 5.6.12. The definitions hold of any
-- text; which texts are versions is the grammar's matter.
use Rattle.std.specs.Prelude.{ℕ, ◌+◌, Bool, true, false, List, [], ◌∷◌, Option, Some, None, take, drop, codes, ◌==◌}
use Rattle.std.specs.List.{position}
use Rattle.std.specs.declared.cmp.Ordering.{Ordering}
use Rattle.std.specs.Ordering.{on, then_cmp}
use Rattle.std.specs.Cmp.{IsTotalOrder, on_total, then_total}
use Rattle.cv_order.specs.Digits.{number_cmp, number_total}
use Rattle.cv_debver.specs.Parts.{part_cmp, part_total}

-- a version cut into its parts
pub record Version : Type 0 where
  pub epoch : List ℕ
  pub upstream : List ℕ
  pub revision : List ℕ

-- the place after, if there is one, or else this one if it passes
abbrev pub or_here : Bool → Option ℕ → Option ℕ
or_here passes (Some place) = Some (place + 1)
or_here true None = Some 0
or_here false None = None

-- the last place whose byte passes
abbrev pub last_position : (ℕ → Bool) → List ℕ → Option ℕ
last_position test [] = None
last_position test (x ∷ xs) = or_here (test x) (last_position test xs)

-- 58 is `:`
abbrev pub is_colon : ℕ → Bool
is_colon byte = byte == 58

-- 45 is `-`
abbrev pub is_hyphen : ℕ → Bool
is_hyphen byte = byte == 45

-- upstream and revision of what comes after the epoch: the last hyphen parts them, and an absent revision is `0`
abbrev pub split_at_hyphen : List ℕ → List ℕ → Option ℕ → Version
split_at_hyphen epoch text (Some place) = record { epoch = epoch; upstream = take place text; revision = drop (place + 1) text }
split_at_hyphen epoch text None = record { epoch = epoch; upstream = text; revision = codes "0" }

-- the last hyphen parts the rest
abbrev pub with_epoch : List ℕ → List ℕ → Version
with_epoch epoch text = split_at_hyphen epoch text (last_position is_hyphen text)

-- the epoch stands before the first colon, and an absent one is `0`
abbrev pub split_at_colon : List ℕ → Option ℕ → Version
split_at_colon text (Some place) = with_epoch (take place text) (drop (place + 1) text)
split_at_colon text None = with_epoch (codes "0") text

-- the first colon ends the epoch
abbrev pub version_of : List ℕ → Version
version_of text = split_at_colon text (position is_colon text)

-- epochs as numbers, then upstream versions, then revisions
abbrev pub version_cmp : List ℕ → List ℕ → Ordering
version_cmp = on version_of (then_cmp (on (λ (v : Version). v.epoch) number_cmp) (then_cmp (on (λ (v : Version). v.upstream) part_cmp) (on (λ (v : Version). v.revision) part_cmp)))

-- versions are in a total order
pub version_total : IsTotalOrder version_cmp
version_total = on_total version_of (then_total (on_total (λ (v : Version). v.epoch) number_total) (then_total (on_total (λ (v : Version). v.upstream) part_total) (on_total (λ (v : Version). v.revision) part_total)))
