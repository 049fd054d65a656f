-- A call that was to fail raised the count of faults.
use Rattle.std.proofs.Common.{◌≡◌, ℕ, ◌+◌, ◌<◌, ◌^◌, Bool, true, ap, arith, ◌∙◌}
use Rattle.cv_seq.specs.Cause.{CausedBy, next_count}
use Rattle.cv_desk_wrappers.specs.Failing.{faults_after}

pub blamed : (before now inner inner_now : ℕ) (fails : Bool) → fails ≡ true → now ≡ faults_after fails before → inner_now ≡ inner → before < 2 ^ 64
    → CausedBy (before + inner) (now + inner_now) true
blamed before now inner inner_now fails t n same small =
    let rose : now ≡ next_count before = n ∙ ap (λ b. faults_after b before) t in
    record { later = omega (arith, rose, same); rose = omega (arith, rose, same) }
