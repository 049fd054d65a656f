-- The indices of the records that pass one of two tests are those of the one merged with those of the other.
use Rattle.std.specs.Prelude.{◌≡◌, ℕ, ◌+◌, ◌<◌, Bool, true, false, cond, ◌||◌, List, [], ◌∷◌, refl}
use Rattle.std.specs.List.{AllByRecursion}
use Rattle.std.specs.Ordering.{match_ordering, nat_cmp}
use Rattle.std.specs.declared.cmp.Ordering.TheVariants.{Equal, Greater}
use Rattle.std.proofs.Common.{◌∙◌, sym, ap, arith, rules}
use Rattle.cv_base.specs.declared.advisory.Advisory.{Advisory}
use Rattle.cv_base.proofs.InOrder.{nat_less}
use Rattle.cv_match_feed.specs.code.Index.{merged, indices_from}

-- all of these indices are above one
abbrev AreAbove : ℕ → List ℕ → Type 0
AreAbove n ns = AllByRecursion (λ i. n < i) ns

indices_above : (test : Advisory → Bool) (m n : ℕ) (records : List Advisory) → m < n → AreAbove m (indices_from test n records)
indices_above test m n [] lt = tt
indices_above test m n (a ∷ rest) lt = by_test (test a) (indices_above test m (n + 1) rest (omega (arith, lt))) where
  by_test : (passed : Bool) → AreAbove m (indices_from test (n + 1) rest) → AreAbove m (cond passed (n ∷ indices_from test (n + 1) rest) (indices_from test (n + 1) rest))
  by_test true more = (lt, more)
  by_test false more = more

greater : (m n : ℕ) → n < m → nat_cmp m n ≡ Greater
greater m n lt = search rules

same : (n : ℕ) → nat_cmp n n ≡ Equal
same n = search rules

merged_nil : (xs : List ℕ) → merged xs [] ≡ xs
merged_nil [] = refl
merged_nil (x ∷ xs) = refl

-- a index below all of both lists stands first
first_left : (n : ℕ) (xs ys : List ℕ) → AreAbove n ys → merged (n ∷ xs) ys ≡ n ∷ merged xs ys
first_left n xs [] b = ap (λ (rest : List ℕ). n ∷ rest) (sym (merged_nil xs))
first_left n xs (y ∷ ys) b = ap (λ r. match_ordering r (n ∷ merged xs (y ∷ ys)) (n ∷ merged xs ys) (y ∷ merged (n ∷ xs) ys)) (nat_less n y b.0)

first_right : (n : ℕ) (xs ys : List ℕ) → AreAbove n xs → merged xs (n ∷ ys) ≡ n ∷ merged xs ys
first_right n [] ys b = refl
first_right n (x ∷ xs) ys b = ap (λ r. match_ordering r (x ∷ merged xs (n ∷ ys)) (x ∷ merged xs ys) (n ∷ merged (x ∷ xs) ys)) (greater x n b.0)

first_both : (n : ℕ) (xs ys : List ℕ) → merged (n ∷ xs) (n ∷ ys) ≡ n ∷ merged xs ys
first_both n xs ys = ap (λ r. match_ordering r (n ∷ merged xs (n ∷ ys)) (n ∷ merged xs ys) (n ∷ merged (n ∷ xs) ys)) (same n)

-- the records that pass the one test or the other
pub merged_indices : (one two : Advisory → Bool) (n : ℕ) (records : List Advisory)
    → merged (indices_from one n records) (indices_from two n records) ≡ indices_from (λ a. one a || two a) n records
merged_indices one two n [] = refl
merged_indices one two n (a ∷ rest) = by_tests (one a) (two a) (merged_indices one two (n + 1) rest) where
  xs : List ℕ
  xs = indices_from one (n + 1) rest

  ys : List ℕ
  ys = indices_from two (n + 1) rest

  by_tests : (first second : Bool) → merged xs ys ≡ indices_from (λ a. one a || two a) (n + 1) rest
      → merged (cond first (n ∷ xs) xs) (cond second (n ∷ ys) ys) ≡ cond (first || second) (n ∷ indices_from (λ a. one a || two a) (n + 1) rest) (indices_from (λ a. one a || two a) (n + 1) rest)
  by_tests true true more = first_both n xs ys ∙ ap (λ (more : List ℕ). n ∷ more) more
  by_tests true false more = first_left n xs ys (indices_above two n (n + 1) rest (omega arith)) ∙ ap (λ (more : List ℕ). n ∷ more) more
  by_tests false true more = first_right n xs ys (indices_above one n (n + 1) rest (omega arith)) ∙ ap (λ (more : List ℕ). n ∷ more) more
  by_tests false false more = more
