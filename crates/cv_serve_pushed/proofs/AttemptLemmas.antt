-- The attempts of a round, one after the other.
use Rattle.std.specs.Prelude.{◌≡◌, ℕ, ◌+◌, ◌<◌, ◌≤◌, All, Bool, true, false, List, [], ◌∷◌, ◌++◌, length, take, drop, Option, Some, None, refl}
use Rattle.std.specs.Cmp.{nat_cmp_is}
use Rattle.std.specs.List.{AllByRecursion}
use Rattle.std.specs.List.Sorted.{IsStrictlySortedBy}
use Rattle.std.specs.Map.{keys_of}
use Rattle.std.specs.Ordering.{nat_cmp}
use Rattle.std.specs.Option.{option_to_list}
use Rattle.std.specs.declared.cmp.Ordering.TheVariants.{Less, Equal, Greater}
use Rattle.std.proofs.Common.{ap, append-nil, arith, get_or, inl, inr, subst, sym, ◌∙◌}
use Rattle.std.proofs.lemmas.Bool.{cases_lt}
use Rattle.std.proofs.lemmas.List.{drop_more, map-append, take-append-drop}
use Rattle.std.proofs.lemmas.List.Elements.{All-append, All-cons, All-contains, All-from_recursion, All-nil, All-weaker, Contains-append_right}
use Rattle.cv_core_records.specs.Pages.{Notifications, heads}
use Rattle.cv_core_records.specs.declared.read.NoticeHead.{NoticeHead}
use Rattle.cv_hook.specs.Attempts.{IsDue, IsDueIf, IsLeast, IsLeastAbove, IsRoundFrom, OutboxState, after_line, begun, goes_on, is_taken, numbers}
use Rattle.cv_hook.specs.declared.offer.HookLine.{HookLine}
use Rattle.cv_hook.specs.declared.took.Outcome.{Outcome}
use Rattle.cv_hook.specs.declared.took.Outcome.TheVariants as outcome
use Rattle.cv_hook.proofs.LeastLemmas.{numbers_more}
use Rattle.cv_hook.proofs.RoundLemmas.{round_from}
use Rattle.cv_serve_pushed.specs.Attempts.{AreTaken, BeginsRound, after_lines}
use Rattle.cv_serve_pushed.specs.code.Going.{BeginsRoundFrom, HavePassed, IsPast, due_number}

-- ---- lines one after the other

pub lines_more : (outbox : OutboxState) (lines : List HookLine) (line : HookLine) → after_lines outbox (lines ++ line ∷ []) ≡ after_line (after_lines outbox lines) line
lines_more outbox [] line = refl
lines_more outbox (first ∷ lines) line = lines_more (after_line outbox first) lines line

pub begins_more : (outbox : OutboxState) (standing : List ℕ) (lines : List HookLine) (line : HookLine) → BeginsRoundFrom outbox standing lines
    → IsDue (after_lines outbox lines) standing (Some line.number) → BeginsRoundFrom outbox standing (lines ++ line ∷ [])
begins_more outbox standing [] line so due = (due, tt)
begins_more outbox standing (first ∷ lines) line so due = (so.0, begins_more (after_line outbox first) standing lines line so.1 due)

-- lines that begin a round, and those of a round after them, are a round
pub round_after : (outbox : OutboxState) (standing : List ℕ) (lines later : List HookLine) → BeginsRoundFrom outbox standing lines
    → IsRoundFrom (after_lines outbox lines) standing later → IsRoundFrom outbox standing (lines ++ later)
round_after outbox standing [] later so rest = rest
round_after outbox standing (line ∷ lines) later so rest = (so.0, round_after (after_line outbox line) standing lines later so.1 rest)

-- where nothing is due after lines that begin a round, they are the round
pub round_whole : (outbox : OutboxState) (standing : List ℕ) (lines : List HookLine) → BeginsRoundFrom outbox standing lines
    → IsDue (after_lines outbox lines) standing None → IsRoundFrom outbox standing lines
round_whole outbox standing lines so none = subst (IsRoundFrom outbox standing) (append-nil lines) (round_after outbox standing lines [] so none)

-- ---- what was taken

pub none_taken : AreTaken []
none_taken = All-nil (λ (line : HookLine). is_taken line.outcome ≡ true)

-- the attempts go on after one notification more only if each offer was taken
pub taken_more : (outbox outbox_now : OutboxState) (lines : List HookLine) (line : Option HookLine) → outbox_now ≡ after_lines outbox (option_to_list line)
    → (goes_on outbox.noted ≡ false → line ≡ None) → (goes_on outbox.noted ≡ true → AreTaken lines) → goes_on outbox_now.noted ≡ true
    → AreTaken (lines ++ option_to_list line)
taken_more outbox outbox_now lines None after ended so on =
    subst AreTaken (sym (append-nil lines)) (so (sym (ap (λ (o : OutboxState). goes_on o.noted) after) ∙ on))
taken_more outbox outbox_now lines (Some line) after ended so on = by_going (goes_on outbox.noted) refl where
  by_going : (going : Bool) → goes_on outbox.noted ≡ going → AreTaken (lines ++ line ∷ [])
  by_going true is =
      All-append (λ (l : HookLine). is_taken l.outcome ≡ true) lines (line ∷ []) (so is)
      (All-cons (λ (l : HookLine). is_taken l.outcome ≡ true) line [] (sym (ap (λ (o : OutboxState). goes_on o.noted) after) ∙ on) none_taken)
  by_going false is = absurd (cc (ended is))

-- an attempt stops only while the attempts go on, so after offers that were taken
pub taken_until : (outbox : OutboxState) (lines : List HookLine) → (goes_on outbox.noted ≡ false → ⊥) → (goes_on outbox.noted ≡ true → AreTaken lines) → AreTaken lines
taken_until outbox lines on so = by_going (goes_on outbox.noted) refl where
  by_going : (going : Bool) → goes_on outbox.noted ≡ going → AreTaken lines
  by_going true is = so is
  by_going false is = absurd (on is)

-- ---- each state has a round

least_more : (last number : ℕ) (standing : List ℕ) (due : Option ℕ) → IsLeast last standing due → (least : Option ℕ) × IsLeast last (number ∷ standing) least
least_more last number standing due so = elim (cases_lt last number) [
  | inl above ↦ among due so above
  | inr low ↦ skipped due so low
] where
  skipped : (d : Option ℕ) → IsLeast last standing d → number ≤ last → (least : Option ℕ) × IsLeast last (number ∷ standing) least
  skipped None none low = (None, All-cons (λ other. other ≤ last) number standing low none)
  skipped (Some m) least low = (
    Some m,
    record {
      stands = Contains-append_right (number ∷ []) standing m least.stands;
      above = least.above;
      least = All-cons (λ other. last < other → m ≤ other) number standing (λ more. absurd (omega (arith, more, low))) least.least;
    },
  )

  first : All (λ other. last < other → number ≤ other) standing → last < number → IsLeastAbove last (number ∷ standing) number
  first least above = record {
    stands = (0, omega arith, refl);
    above = above;
    least = All-cons (λ other. last < other → number ≤ other) number standing (λ _. omega arith) least;
  }

  among : (d : Option ℕ) → IsLeast last standing d → last < number → (least : Option ℕ) × IsLeast last (number ∷ standing) least
  among None none above =
      (Some number, first (All-weaker (λ other. other ≤ last) (λ other. last < other → number ≤ other) (λ other low more. absurd (omega (arith, low, more))) standing none) above)
  among (Some m) least above = elim (cases_lt number m) [
    | inl lower ↦ (Some number, first (All-weaker (λ other. last < other → m ≤ other) (λ other. last < other → number ≤ other) (λ other so more. omega (arith, lower, so more)) standing least.least) above)
    | inr low ↦ (
      Some m,
      record {
        stands = Contains-append_right (number ∷ []) standing m least.stands;
        above = least.above;
        least = All-cons (λ other. last < other → m ≤ other) number standing (λ _. low) least.least;
      },
    )
  ]

least_of : (last : ℕ) (standing : List ℕ) → (due : Option ℕ) × IsLeast last standing due
least_of last [] = (None, All-nil (λ other. other ≤ last))
least_of last (number ∷ standing) = let rest = least_of last standing in least_more last number standing rest.0 rest.1

round_by : (noted : Option Outcome) (last : ℕ) (standing : List ℕ) (going : Bool) → goes_on noted ≡ going → (due : Option ℕ) → IsDueIf going last standing due
    → (later : List HookLine) × IsRoundFrom (record { last = last; noted = noted }) standing later
round_by noted last standing going is None so = ([], subst (λ (g : Bool). IsDueIf g last standing None) (sym is) so)
round_by noted last standing going is (Some number) so =
    (record { number = number; outcome = outcome.Refused } ∷ [], (subst (λ (g : Bool). IsDueIf g last standing (Some number)) (sym is) so, refl))

some_due : (going : Bool) (last : ℕ) (standing : List ℕ) → (due : Option ℕ) × IsDueIf going last standing due
some_due true last standing = least_of last standing
some_due false last standing = (None, refl)

some_round : (outbox : OutboxState) (standing : List ℕ) → (later : List HookLine) × IsRoundFrom outbox standing later
some_round outbox standing =
    let due = some_due (goes_on outbox.noted) outbox.last standing in round_by outbox.noted outbox.last standing (goes_on outbox.noted) refl due.0 due.1

-- lines that begin a round are the first ones of a round's attempts
pub begins_round : (outbox : OutboxState) (standing : List ℕ) (lines : List HookLine) → BeginsRoundFrom (begun outbox) standing lines
    → BeginsRound outbox.last standing lines
begins_round outbox standing lines so =
    let rest = some_round (after_lines (begun outbox) lines) standing in
    (rest.0, round_from outbox.last standing (lines ++ rest.0) (round_after (begun outbox) standing lines rest.0 so rest.1))

-- ---- the notifications in order

-- the number of one notification is due by itself exactly if the attempts go on and it is above the last one taken
only_number : (last number due : ℕ) → IsLeastAbove last (number ∷ []) due → due ≡ number
only_number last number due so = All-contains (λ other. other ≡ number) (number ∷ []) due (All-cons (λ other. other ≡ number) number [] refl (All-nil (λ other. other ≡ number))) so.stands

among : (going : Bool) (last : ℕ) (passed later : List ℕ) (number due : ℕ) → (going ≡ true → All (λ n. n ≤ last) passed) → All (λ other. number < other) later
    → IsDueIf going last (number ∷ []) (Some due) → IsDueIf going last (passed ++ number ∷ later) (Some due)
among false last passed later number due past above so = so
among true last passed later number due past above so =
    let same : due ≡ number = only_number last number due so in
    record {
      stands = Contains-append_right passed (number ∷ later) due (0, omega arith, sym same);
      above = so.above;
      least =
          All-append (λ other. last < other → due ≤ other) passed (number ∷ later)
          (All-weaker (λ other. other ≤ last) (λ other. last < other → due ≤ other) (λ other low more. absurd (omega (arith, low, more))) passed (past refl))
          (All-cons (λ other. last < other → due ≤ other) number later (λ _. omega (arith, same))
          (All-weaker (λ other. number < other) (λ other. last < other → due ≤ other) (λ other more _. omega (arith, more, same)) later above));
    }

-- what is due of one notification is due of all, where those before it are past and those after it have greater numbers
pub due_among : (outbox : OutboxState) (passed later : List ℕ) (number due : ℕ) → IsPast outbox passed → All (λ other. number < other) later
    → IsDue outbox (number ∷ []) (Some due) → IsDue outbox (passed ++ number ∷ later) (Some due)
due_among outbox passed later number due past above so = among (goes_on outbox.noted) outbox.last passed later number due past above so

past_if : (going : Bool) (last : ℕ) (passed : List ℕ) (number : ℕ) → (going ≡ true → All (λ n. n ≤ last) passed) → IsDueIf going last (number ∷ []) None
    → going ≡ true → All (λ n. n ≤ last) (passed ++ number ∷ [])
past_if true last passed number past none is = All-append (λ n. n ≤ last) passed (number ∷ []) (past refl) none
past_if false last passed number past none is = absurd (cc)

-- one that is not due is past
pub past_more : (outbox : OutboxState) (passed : List ℕ) (number : ℕ) → IsPast outbox passed → IsDue outbox (number ∷ []) None → IsPast outbox (passed ++ number ∷ [])
past_more outbox passed number past none = past_if (goes_on outbox.noted) outbox.last passed number past none

taken_past : (going : Bool) (last : ℕ) (passed : List ℕ) (number due : ℕ) → (going ≡ true → All (λ n. n ≤ last) passed) → IsDueIf going last (number ∷ []) (Some due)
    → All (λ n. n ≤ due) (passed ++ number ∷ [])
taken_past false last passed number due past so = absurd (cc)
taken_past true last passed number due past so =
    let same : due ≡ number = only_number last number due so in
    All-append (λ n. n ≤ due) passed (number ∷ []) (All-weaker (λ n. n ≤ last) (λ n. n ≤ due) (λ n low. omega (arith, low, so.above)) passed (past refl))
    (All-cons (λ n. n ≤ due) number [] (omega (arith, same)) (All-nil (λ n. n ≤ due)))

-- one that was offered is past
pub past_line : (outbox : OutboxState) (passed : List ℕ) (number : ℕ) (line : HookLine) → IsPast outbox passed → IsDue outbox (number ∷ []) (Some line.number)
    → IsPast (after_line outbox line) (passed ++ number ∷ [])
past_line outbox passed number line past so = by_outcome line.outcome where
  by_outcome : (o : Outcome) → IsPast (after_line outbox (record { number = line.number; outcome = o })) (passed ++ number ∷ [])
  by_outcome outcome.Taken = λ _. taken_past (goes_on outbox.noted) outbox.last passed number line.number past so
  by_outcome outcome.Refused = λ is. absurd (cc)
  by_outcome outcome.Fault = λ is. absurd (cc)

-- where all are past, none is due
pub past_all : (outbox : OutboxState) (standing : List ℕ) → IsPast outbox standing → IsDue outbox standing None
past_all outbox standing past = by_going (goes_on outbox.noted) past where
  by_going : (going : Bool) → (going ≡ true → All (λ n. n ≤ outbox.last) standing) → IsDueIf going outbox.last standing None
  by_going true past = past refl
  by_going false past = refl

pub none_past : (outbox : OutboxState) → IsPast outbox []
none_past outbox = λ _. All-nil (λ n. n ≤ outbox.last)

pub same_if_equal : (m n : ℕ) → nat_cmp m n ≡ Equal → m ≡ n
same_if_equal m n equal = elim (cases_lt m n) [
  | inl above ↦ absurd (cc (nat_cmp_is m n Less above, equal))
  | inr low ↦ elim (cases_lt n m) [
    | inl below ↦ absurd (cc (nat_cmp_is m n Greater below, equal))
    | inr high ↦ omega (arith, low, high)
  ]
]

pub above_if_less : (m n : ℕ) → nat_cmp m n ≡ Less → m < n
above_if_less m n less = elim (cases_lt m n) [
  | inl above ↦ above
  | inr low ↦ elim (cases_lt n m) [
    | inl below ↦ absurd (cc (nat_cmp_is m n Greater below, less))
    | inr high ↦ absurd (cc (nat_cmp_is m n Equal (omega (arith, low, high)), less))
  ]
]

all_above : (number : ℕ) (later : List ℕ) → AllByRecursion (λ other. nat_cmp number other ≡ Less) later → AllByRecursion (λ other. number < other) later
all_above number [] so = tt
all_above number (other ∷ later) so = (above_if_less number other so.0, all_above number later so.1)

-- numbers after one in ascending order are greater
pub later_above : (passed later : List ℕ) (number : ℕ) → IsStrictlySortedBy nat_cmp (passed ++ number ∷ later) → All (λ other. number < other) later
unfolding IsStrictlySortedBy
later_above [] later number so = All-from_recursion (λ other. number < other) later (all_above number later so.0)
later_above (first ∷ passed) later number so = later_above passed later number so.1

-- ---- the heads of notifications

pub numbers_are_keys : (notifications : Notifications) → numbers (heads notifications) ≡ keys_of notifications
numbers_are_keys [] = refl
numbers_are_keys (notification ∷ notifications) = ap (λ ns. notification.0 ∷ ns) (numbers_are_keys notifications)

-- the numbers before, at and after an index
pub numbers_at : (notifications : Notifications) (list : List NoticeHead) (i : ℕ) (d : NoticeHead) → list ≡ heads notifications → i < length list
    → keys_of notifications ≡ numbers (take i list) ++ (get_or list i d).number ∷ numbers (drop (i + 1) list)
numbers_at notifications list i d is inside =
    sym (numbers_are_keys notifications) ∙ ap numbers (sym is) ∙ ap numbers (sym (take-append-drop i list) ∙ ap (λ rest. take i list ++ rest) (drop_more list i d inside))
    ∙ map-append (λ (head : NoticeHead). head.number) (take i list) (get_or list i d ∷ drop (i + 1) list)

-- ---- one notification more

-- the next notification is past, whether it was offered or not
pub passed_more : (outbox_before outbox outbox_now : OutboxState) (notifications : Notifications) (list : List NoticeHead) (i : ℕ) (d : NoticeHead)
    (lines : List HookLine) (line : Option HookLine) → IsStrictlySortedBy nat_cmp (keys_of notifications) → list ≡ heads notifications → i < length list
    → outbox ≡ after_lines outbox_before lines → outbox_now ≡ after_lines outbox (option_to_list line)
    → HavePassed outbox_before outbox (keys_of notifications) (numbers (take i list)) lines → IsDue outbox ((get_or list i d).number ∷ []) (due_number line)
    → HavePassed outbox_before outbox_now (keys_of notifications) (numbers (take (i + 1) list)) (lines ++ option_to_list line)
passed_more outbox_before outbox outbox_now notifications list i d lines line sorted is inside before after so due = by_line line after due where
  number : ℕ
  number = (get_or list i d).number

  standing : keys_of notifications ≡ numbers (take i list) ++ number ∷ numbers (drop (i + 1) list)
  standing = numbers_at notifications list i d is inside

  later : All (λ other. number < other) (numbers (drop (i + 1) list))
  later = later_above (numbers (take i list)) (numbers (drop (i + 1) list)) number (subst (IsStrictlySortedBy nat_cmp) standing sorted)

  more : numbers (take i list) ++ number ∷ [] ≡ numbers (take (i + 1) list)
  more = sym (numbers_more list i d inside)

  by_line : (l : Option HookLine) → outbox_now ≡ after_lines outbox (option_to_list l) → IsDue outbox (number ∷ []) (due_number l)
      → HavePassed outbox_before outbox_now (keys_of notifications) (numbers (take (i + 1) list)) (lines ++ option_to_list l)
  by_line None after due = record {
    begins = subst (BeginsRoundFrom outbox_before (keys_of notifications)) (sym (append-nil lines)) so.begins;
    past =
        subst (λ (o : OutboxState). IsPast o (numbers (take (i + 1) list))) (sym after)
        (subst (IsPast outbox) more (past_more outbox (numbers (take i list)) number so.past due));
  }
  by_line (Some one) after due = record {
    begins =
        begins_more outbox_before (keys_of notifications) lines one so.begins
        (subst (λ (o : OutboxState). IsDue o (keys_of notifications) (Some one.number)) before
        (subst (λ (ns : List ℕ). IsDue outbox ns (Some one.number)) (sym standing)
        (due_among outbox (numbers (take i list)) (numbers (drop (i + 1) list)) number one.number so.past later due)));
    past =
        subst (λ (o : OutboxState). IsPast o (numbers (take (i + 1) list))) (sym after)
        (subst (IsPast (after_line outbox one)) more (past_line outbox (numbers (take i list)) number one so.past due));
  }

-- where all are past, none is due
pub passed_all : (outbox : OutboxState) (notifications : Notifications) (list : List NoticeHead) → list ≡ heads notifications → IsPast outbox (numbers list)
    → IsDue outbox (keys_of notifications) None
passed_all outbox notifications list is past =
    past_all outbox (keys_of notifications) (subst (IsPast outbox) (ap numbers is ∙ numbers_are_keys notifications) past)
