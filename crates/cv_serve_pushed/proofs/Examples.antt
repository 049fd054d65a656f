-- The definitions on worked examples.
use Rattle.std.specs.Prelude.{◌≡◌, ◌⊎◌, ℕ, ◌<◌, ◌≤◌, true, List, [], ◌∷◌, ◌++◌, Some, None, codes, refl}
use Rattle.std.specs.Fmt.{digits}
use Rattle.std.specs.List.{Contains}
use Rattle.std.proofs.Common.{arith, inl, inr, suc, zero}
use Rattle.std.proofs.lemmas.List.Elements.{All-contains, All-from_recursion, All-head}
use Rattle.serde_json.proofs.OnLiterals.{serde_json_on_literals}
use Rattle.cv_base.specs.declared.finding.Row.{Row}
use Rattle.cv_hook.specs.Attempts.{is_taken, new_outbox}
use Rattle.cv_hook.specs.declared.offer.HookLine.{HookLine}
use Rattle.cv_hook.specs.declared.took.Outcome.TheVariants as outcome
use Rattle.cv_scan_output.specs.Line.{line_text}
use Rattle.cv_serve_pushed.specs.Attempts.{AreTaken, after_lines, hook_faults, offers_of}
use Rattle.cv_serve_pushed.specs.HookText.{hook_text}
use Rattle.cv_serve_pushed.specs.Rounds.{AreTakenOnce, AreTakenOrWait, all_lines, first_offered, last_untaken, taken}

-- 1 was taken, and the hook failed at 3
abbrev lines : List HookLine
lines = record { number = 1; outcome = outcome.Taken } ∷ record { number = 3; outcome = outcome.Fault } ∷ []

-- each offer has the rows of its own notification
offered : (a b c : Row) → offers_of ((1, a ∷ []) ∷ (2, b ∷ []) ∷ (3, b ∷ c ∷ []) ∷ []) lines
    ≡ record { number = 1; rows = a ∷ []; outcome = outcome.Taken } ∷ record { number = 3; rows = b ∷ c ∷ []; outcome = outcome.Fault } ∷ []
offered a b c = refl

-- the last number taken stays at one that was not taken
after : after_lines new_outbox lines ≡ record { last = 1; noted = Some outcome.Fault }
after = refl

-- one line says that the hook failed
failed : hook_faults lines ≡ 1
failed = refl

-- the line of an offer, with its LF
refused : hook_text (record { number = 12; outcome = outcome.Refused }) ≡ codes "{\"hook\":\"refused\",\"number\":12}" ++ 10 ∷ []
unfolding hook_text line_text serde_json_on_literals digits
refused = refl

-- 3 was not taken, so it is offered first in the next round
abbrev next : List HookLine
next = record { number = 3; outcome = outcome.Taken } ∷ record { number = 4; outcome = outcome.Taken } ∷ []

waits : (last_untaken lines ≡ Some 3) × (first_offered next ≡ Some 3) × (last_untaken next ≡ None)
waits = (refl, refl, refl)

-- both were taken, and in the round before not the last one
all_taken : AreTaken next × (AreTaken lines → ⊥)
all_taken = (
  All-from_recursion (λ (line : HookLine). is_taken line.outcome ≡ true) next (refl, (refl, tt)),
  λ so. absurd (cc (All-contains (λ (line : HookLine). is_taken line.outcome ≡ true) lines (record { number = 3; outcome = outcome.Fault }) so (1, omega arith, refl))),
)

-- over both rounds what was taken is not offered again, also not 3, which was offered twice
once : AreTakenOnce (all_lines (lines ∷ next ∷ []))
once = (
  λ _. All-from_recursion (λ n. 1 < n) (3 ∷ 3 ∷ 4 ∷ []) (omega arith, (omega arith, (omega arith, tt))),
  ((λ h. absurd (cc h)), ((λ _. All-from_recursion (λ n. 3 < n) (4 ∷ []) (omega arith, tt)), ((λ _. All-from_recursion (λ n. 4 < n) [] tt), tt))),
)

-- but it is if 3 is offered after it was taken
not_twice : AreTakenOnce (record { number = 3; outcome = outcome.Taken } ∷ record { number = 3; outcome = outcome.Refused } ∷ []) → ⊥
not_twice so = let above : 3 < 3 = All-head (λ n. 3 < n) 3 [] (so.0 refl) in omega (arith, above)

-- 1, 3 and 4 were taken over both rounds
taken_both : taken (all_lines (lines ∷ next ∷ [])) ≡ 1 ∷ 3 ∷ 4 ∷ []
taken_both = refl

-- after the first round 1 was taken, and 3 and 4 wait
waiting : AreTakenOrWait (1 ∷ 3 ∷ 4 ∷ []) 1 lines
waiting = record {
  each = All-from_recursion (λ n. Contains (1 ∷ []) n ⊎ (1 < n)) (1 ∷ 3 ∷ 4 ∷ []) (inl (zero, omega arith, refl), (inr (omega arith), (inr (omega arith), tt)));
  not_both = All-from_recursion (λ n. n ≤ 1) (1 ∷ []) (omega arith, tt);
}

-- but 2 is skipped if 3 was taken, and 2 was not
not_skipped : AreTakenOrWait (2 ∷ 3 ∷ []) 3 (record { number = 3; outcome = outcome.Taken } ∷ []) → ⊥
not_skipped so = by_two (All-head (λ n. Contains {X = ℕ} (3 ∷ []) n ⊎ (3 < n)) 2 (3 ∷ []) so.each) where
  by_two : Contains {X = ℕ} (3 ∷ []) 2 ⊎ (3 < 2) → ⊥
  by_two (inl (zero, inside, same)) = omega (arith, same)
  by_two (inl (suc k, inside, same)) = omega (arith, inside)
  by_two (inr more) = omega (arith, more)
