-- Ten packages in the order of their names, as the code finds them: those whose numbers begin at 0 again come first.
use Rattle.std.specs.Prelude.{◌≡◌, ℕ, ◌-◌, ◌%◌, ◌<◌, ◌==◌, min, true, List, [], ◌∷◌, ◌++◌, take, drop, refl}
use Rattle.std.specs.Ordering.{nat_cmp}
use Rattle.std.proofs.Common.{ap, append_assoc, arith, sym, ◌∙◌}
use Rattle.cv_base.specs.InOrder.{in_order}
use Rattle.cv_base.specs.Texts.{same}
use Rattle.cv_path.proofs.Same.{same_is}
use Rattle.cv_desk.specs.Stored.{Stored}
use Rattle.cv_desk_drill.specs.Generated.{by_name, name_number, npm_package, packages, ten, version_number}
use Rattle.cv_desk_drill.specs.code.GeneratedLaws.{below_at}

-- how many of ten packages come before the number in a name begins at 0 again
abbrev pub before_wrap : ℕ → ℕ
before_wrap s = min (100 - s % 100) 10

-- those from there on, and then the others
abbrev pub wrapped_first : ℕ → List ℕ
wrapped_first s = drop (before_wrap s) ten ++ take (before_wrap s) ten

-- A number counts by its last two digits.

name_same : (s k : ℕ) → name_number s k ≡ name_number (s % 100) k
name_same s k = omega arith

pub by_name_same : (s : ℕ) → by_name s ≡ by_name (s % 100)
by_name_same s = λ i. in_order (λ (j k : ℕ). nat_cmp (name_same s j i) (name_same s k i)) ten

wrapped_same : (s : ℕ) → wrapped_first s ≡ wrapped_first (s % 100)
wrapped_same s = let twice : s % 100 ≡ s % 100 % 100 = omega arith in ap (λ (n : ℕ). drop (min (100 - n) 10) ten ++ take (min (100 - n) 10) ten) twice

small_wrapped : (n : ℕ) → n < 100 → same (by_name n) (wrapped_first n) ≡ true
small_wrapped = below_at 100 (λ (n : ℕ). same (by_name n) (wrapped_first n)) refl

wrapped : (s : ℕ) → by_name s ≡ wrapped_first s
wrapped s = by_name_same s ∙ same_is (by_name (s % 100)) (wrapped_first (s % 100)) (small_wrapped (s % 100) (omega arith)) ∙ sym (wrapped_same s)

packages_joined : (s : ℕ) (ks ls : List ℕ) → packages s (ks ++ ls) ≡ packages s ks ++ packages s ls
packages_joined s [] ls = refl
packages_joined s (k ∷ ks) ls =
    ap (λ (entries : List Stored). npm_package (name_number s k) (version_number s k) ++ entries) (packages_joined s ks ls)
    ∙ sym (append_assoc (npm_package (name_number s k) (version_number s k)) (packages s ks) (packages s ls))

pub packages_wrapped : (s : ℕ) → packages s (drop (before_wrap s) ten) ++ packages s (take (before_wrap s) ten) ≡ packages s (by_name s)
packages_wrapped s = sym (packages_joined s (drop (before_wrap s) ten) (take (before_wrap s) ten)) ∙ ap (packages s) (sym (wrapped s))
