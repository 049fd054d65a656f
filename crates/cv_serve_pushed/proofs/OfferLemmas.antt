-- What offers leave of an outbox, of the hook's offers and of the count of its faults, and the rows that are offered.
use Rattle.std.specs.Prelude.{◌≡◌, ℕ, ◌+◌, ◌-◌, ◌*◌, ◌<◌, ◌≤◌, Bool, true, false, List, [], ◌∷◌, ◌++◌, filter, length, map, take, drop, Option, Some, None, Result, Ok, Err, option_map, unwrap_or, IsOkAnd, OnErr, cond, nat_lt, refl}
use Rattle.std.specs.BTreeMap.{is_at}
use Rattle.std.specs.Cmp.{nat_cmp_is}
use Rattle.std.specs.Int.{div_ceil}
use Rattle.std.specs.List.{AllByRecursion}
use Rattle.std.specs.List.Sorted.{IsStrictlySortedBy}
use Rattle.std.specs.Map.{keys_of}
use Rattle.std.specs.Ordering.{is_eq, nat_cmp}
use Rattle.std.specs.declared.cmp.Ordering.{Ordering}
use Rattle.std.specs.declared.cmp.Ordering.TheVariants.{Less, Equal, Greater}
use Rattle.std.proofs.Common.{ap, append_assoc, append-nil, arith, get_or, length-append, subst, suc, sym, zero, ◌∙◌}
use Rattle.std.proofs.lemmas.Grind.{div_ceil_times}
use Rattle.std.proofs.lemmas.List.{map-append, take_all}
use Rattle.std.proofs.lemmas.List.Elements.{filter-append}
use Rattle.std.proofs.lemmas.Option.{same_Some}
use Rattle.std.proofs.lemmas.Bool.{ltb-true}
use Rattle.cv_base.specs.declared.finding.Row.{Row}
use Rattle.cv_core_machine.specs.Laws.{HaveRows}
use Rattle.cv_core_records.specs.Pages.{Notifications, heads, notification_at, page_at, page_count, page_of, page_rows}
use Rattle.cv_core_records.specs.declared.read.NoticeHead.{NoticeHead}
use Rattle.cv_core_records.specs.declared.read.PageOutcome.{PageOutcome}
use Rattle.cv_core_records.specs.declared.read.PageOutcome.TheVariants as page
use Rattle.cv_notice.specs.Pages.{shown}
use Rattle.cv_notice.specs.declared.error.PageError.{PageError}
use Rattle.cv_notice.specs.declared.error.PageError.TheVariants as error
use Rattle.cv_notice.specs.declared.pages.Page.{Page}
use Rattle.cv_hook.specs.Attempts.{IsDue, IsRoundFrom, OutboxState, after_line, begun}
use Rattle.cv_hook.specs.Memory.{is_fault}
use Rattle.cv_hook.specs.declared.offer.HookLine.{HookLine}
use Rattle.cv_hook.specs.declared.offer.Offer.{Offer}
use Rattle.cv_serve_pushed.specs.Attempts.{AreLines, AreOffered, AreTaken, IsAttempted, IsAttemptedInPart, IsLeft, after_lines, hook_faults, line_of, offer_of, offers_of}
use Rattle.cv_serve_lanes.specs.Counts.{RoseBy}
use Rattle.cv_serve_lanes.proofs.WorkerLemmas.{rose_then}
use Rattle.cv_serve_pushed.specs.code.Going.{BeginsRoundFrom, IsHeadIn, WasOffered}
use Rattle.cv_serve_pushed.proofs.AttemptLemmas.{above_if_less, begins_round, none_taken, round_whole, same_if_equal}
use Rattle.cv_hook.proofs.RoundLemmas.{round_from}

-- ---- offers of lines

same_offers : (before : Option (List Offer)) → before ≡ option_map (λ made. made ++ []) before
same_offers None = refl
same_offers (Some made) = ap Some (sym (append-nil made))

pub same_lines : (before : Option (List Offer)) → AreLines [] before before
same_lines before = ([], same_offers before, refl)

one_line : (before : Option (List Offer)) (offer : Offer) → AreLines (line_of offer ∷ []) before (option_map (λ made. made ++ offer ∷ []) before)
one_line before offer = (offer ∷ [], refl, refl)

added_both : (xs ys : List Offer) (p q r : Option (List Offer)) → q ≡ option_map (λ made. made ++ xs) p → r ≡ option_map (λ made. made ++ ys) q
    → r ≡ option_map (λ made. made ++ (xs ++ ys)) p
added_both xs ys p q r first second = second ∙ ap (option_map (λ made. made ++ ys)) first ∙ both p where
  both : (before : Option (List Offer)) → option_map (λ made. made ++ ys) (option_map (λ made. made ++ xs) before) ≡ option_map (λ made. made ++ (xs ++ ys)) before
  both None = refl
  both (Some made) = ap Some (append_assoc made xs ys)

offers_both : (ns : Notifications) (xs ys : List HookLine) (p q r : Option (List Offer)) → AreOffered ns xs p q → AreOffered ns ys q r → AreOffered ns (xs ++ ys) p r
offers_both ns xs ys p q r first second =
    added_both (offers_of ns xs) (offers_of ns ys) p q r first second ∙ ap (λ (more : List Offer). option_map (λ made. made ++ more) p) (sym (map-append (offer_of ns) xs ys))

pub lines_both : (xs ys : List HookLine) (p q r : Option (List Offer)) → AreLines xs p q → AreLines ys q r → AreLines (xs ++ ys) p r
lines_both xs ys p q r first second = (
  first.0 ++ second.0,
  added_both first.0 second.0 p q r first.1 second.1,
  map-append line_of first.0 second.0 ∙ ap (λ (lines : List HookLine). lines ++ map line_of second.0) first.2 ∙ ap (λ (lines : List HookLine). xs ++ lines) second.2,
)

outbox_both : (outbox : OutboxState) (xs ys : List HookLine) → after_lines (after_lines outbox xs) ys ≡ after_lines outbox (xs ++ ys)
outbox_both outbox [] ys = refl
outbox_both outbox (x ∷ xs) ys = outbox_both (after_line outbox x) xs ys

pub faults_both : (xs ys : List HookLine) → hook_faults (xs ++ ys) ≡ hook_faults xs + hook_faults ys
faults_both xs ys =
    ap length (filter-append (λ (line : HookLine). is_fault line.outcome) xs ys)
    ∙ length-append (filter (λ (line : HookLine). is_fault line.outcome) xs) (filter (λ (line : HookLine). is_fault line.outcome) ys)

pub offered_nothing : (known : Type 0) (ns : Notifications) (outbox : OutboxState) (before : Option (List Offer)) (faults : ℕ)
    → WasOffered known ns outbox outbox before before faults faults []
offered_nothing known ns outbox before faults = record {
  outbox = refl;
  offers = λ _. same_offers before;
  added = same_lines before;
  rose = omega arith;
  later = omega arith;
}

-- an offer that was not made
pub not_offered : (known : Type 0) (ns : Notifications) (outbox : OutboxState) (before now : Option (List Offer)) (faults faults_now : ℕ)
    → now ≡ option_map (λ made. made ++ []) before → faults ≤ faults_now → WasOffered known ns outbox outbox before now faults faults_now []
not_offered known ns outbox before now faults faults_now is later = record {
  outbox = refl;
  offers = λ _. is;
  added = subst (AreLines [] before) (same_offers before ∙ sym is) (same_lines before);
  rose = omega (arith, later);
  later = later;
}

-- an offer that was made
pub offered_one : (known : Type 0) (ns : Notifications) (outbox outbox_now : OutboxState) (before now : Option (List Offer)) (faults faults_now : ℕ) (offer : Offer)
    → now ≡ option_map (λ made. made ++ offer ∷ []) before → (known → Some offer.rows ≡ notification_at ns offer.number)
    → outbox_now ≡ after_line outbox (line_of offer) → RoseBy (hook_faults (line_of offer ∷ [])) faults faults_now → faults ≤ faults_now
    → WasOffered known ns outbox outbox_now before now faults faults_now (line_of offer ∷ [])
offered_one known ns outbox outbox_now before now faults faults_now offer is rows after rose later = record {
  outbox = after;
  offers = λ k. is ∙ ap (λ (o : Offer). option_map (λ made. made ++ o ∷ []) before) (same (rows k));
  added = subst (AreLines (line_of offer ∷ []) before) (sym is) (one_line before offer);
  rose = rose;
  later = later;
} where
  same : Some offer.rows ≡ notification_at ns offer.number → offer ≡ offer_of ns (line_of offer)
  same found = ap (λ (rows : Option (List Row)). record { number = offer.number; rows = unwrap_or rows []; outcome = offer.outcome }) found

pub offered_both : (known : Type 0) (ns : Notifications) (a b c : OutboxState) (p q r : Option (List Offer)) (f g h : ℕ) (xs ys : List HookLine)
    → WasOffered known ns a b p q f g xs → WasOffered known ns b c q r g h ys → WasOffered known ns a c p r f h (xs ++ ys)
offered_both known ns a b c p q r f g h xs ys first second = record {
  outbox = second.outbox ∙ ap (λ (o : OutboxState). after_lines o ys) first.outbox ∙ outbox_both a xs ys;
  offers = λ k. offers_both ns xs ys p q r (first.offers k) (second.offers k);
  added = lines_both xs ys p q r first.added second.added;
  rose = subst (λ (n : ℕ). RoseBy n f h) (sym (faults_both xs ys)) (rose_then (hook_faults xs) (hook_faults ys) f g h first.rose second.rose);
  later = omega (arith, first.later, second.later);
}

-- ---- the rows of a notification

has_pages : (count size : ℕ) → 0 < count → 0 < size → div_ceil count size < 1 → ⊥
has_pages count size some sized few =
    let none : div_ceil count size ≡ 0 = omega (arith, few) in
    let most : count ≤ 0 * size = subst (λ (pages : ℕ). count ≤ pages * size) none (div_ceil_times count size sized).0 in
    omega (arith, most, some)

-- a notification has rows
rows_found : (ns : Notifications) (number : ℕ) (rows : List Row) → HaveRows ns → Some rows ≡ notification_at ns number → 0 < length rows
rows_found [] number rows have is = absurd (cc)
rows_found (n ∷ ns) number rows have is = by_test (is_at (nat_cmp number) n.0) (rows_found ns number rows have.1) is where
  by_test : (b : Bool) → (Some rows ≡ notification_at ns number → 0 < length rows) → Some rows ≡ cond b (Some n.1) (notification_at ns number) → 0 < length rows
  by_test true rest same = subst (λ (rs : List Row). 0 < length rs) (sym (same_Some rows n.1 same)) have.0
  by_test false rest same = rest same

abbrev rows_in : PageOutcome → List Row
rows_in (page.Rows pages rows) = rows
rows_in page.NoNotification = []
rows_in (page.NoPage pages) = []

-- the first page has all rows, where they are no more than its size
first_page : (size : ℕ) (all : List Row) → length all ≤ size → page_rows size 1 all ≡ all
first_page size all most =
    let none : (1 - 1) * size ≡ 0 = omega arith in
    ap (λ (n : ℕ). take size (drop n all)) none ∙ take_all size all most

-- a page as large as a notification has all its rows
pub all_rows : (ns : Notifications) (head : NoticeHead) (size : ℕ) (answer : Result Page PageError) → HaveRows ns → IsHeadIn ns head → head.rows ≤ size → 0 < size
    → shown answer ≡ page_of ns head.number size 1 → IsOkAnd answer (λ page. Some page.rows.now ≡ notification_at ns head.number)
all_rows ns head size answer have at most sized is = by_answer answer (is ∙ ap (λ (found : Option (List Row)). page_at found size 1) at.1) where
  all : List Row
  all = at.0

  same_rows : (rows : List Row) → rows ≡ page_rows size 1 all → Some rows ≡ notification_at ns head.number
  same_rows rows same = ap Some (same ∙ first_page size all (omega (arith, at.2, most))) ∙ sym at.1

  by_test : (b : Bool) → nat_lt (page_count size all) 1 ≡ b → (a : Result Page PageError)
      → shown a ≡ cond b (page.NoPage (page_count size all)) (page.Rows (page_count size all) (page_rows size 1 all))
      → IsOkAnd a (λ page. Some page.rows.now ≡ notification_at ns head.number)
  by_test true few a same =
      absurd (has_pages (length all) size (rows_found ns head.number all have (sym at.1)) sized (ltb-true (page_count size all) 1 few))
  by_test false few (Ok found) same = same_rows found.rows.now (ap rows_in same)
  by_test false few (Err error.NoNotification) same = absurd (cc)
  by_test false few (Err (error.NoPage pages)) same = absurd (cc)

  by_answer : (a : Result Page PageError) → shown a ≡ page_at (Some all) size 1 → IsOkAnd a (λ page. Some page.rows.now ≡ notification_at ns head.number)
  by_answer a same = by_test (nat_lt (page_count size all) 1) refl a same

-- ---- the heads of notifications

-- a number that is found is above one that is below all
found_above : (ns : Notifications) (low number : ℕ) → AllByRecursion (λ other. nat_cmp low other ≡ Less) (keys_of ns) → (rows : List Row)
    → notification_at ns number ≡ Some rows → low < number
found_above [] low number above rows is = absurd (cc)
found_above (n ∷ ns) low number above rows is = by_test (nat_cmp number n.0) refl (found_above ns low number above.1 rows) is where
  by_test : (r : Ordering) → nat_cmp number n.0 ≡ r → (notification_at ns number ≡ Some rows → low < number)
      → cond (is_eq r) (Some n.1) (notification_at ns number) ≡ Some rows → low < number
  by_test Less order rest same = rest same
  by_test Greater order rest same = rest same
  by_test Equal order rest same = subst (λ (k : ℕ). low < k) (sym (same_if_equal number n.0 order)) (above_if_less low n.0 above.0)

-- the head of a notification is that of its number
pub head_in : (ns : Notifications) (i : ℕ) (d : NoticeHead) → IsStrictlySortedBy nat_cmp (keys_of ns) → i < length (heads ns) → IsHeadIn ns (get_or (heads ns) i d)
unfolding IsStrictlySortedBy
head_in [] i d sorted inside = absurd (omega (arith, inside))
head_in (n ∷ ns) zero d sorted inside =
    (n.1, ap (λ (r : Ordering). cond (is_eq r) (Some n.1) (notification_at ns n.0)) (sym (nat_cmp_is n.0 n.0 Equal refl)), refl)
head_in (n ∷ ns) (suc i) d sorted inside =
    let rest : IsHeadIn ns (get_or (heads ns) i d) = head_in ns i d sorted.1 (omega (arith, inside)) in
    let number : ℕ = (get_or (heads ns) i d).number in
    let above : n.0 < number = found_above ns n.0 number sorted.0 rest.0 rest.1 in
    (rest.0, ap (λ (r : Ordering). cond (is_eq r) (Some n.1) (notification_at ns number)) (sym (nat_cmp_is number n.0 Greater above)) ∙ rest.1, rest.2)

-- ---- one notification more

pub listed_head : (ns : Notifications) (list : List NoticeHead) (i : ℕ) (d : NoticeHead) → list ≡ heads ns → IsStrictlySortedBy nat_cmp (keys_of ns) → i < length list
    → IsHeadIn ns (get_or list i d)
listed_head ns list i d is sorted inside =
    subst (λ (l : List NoticeHead). i < length l → IsHeadIn ns (get_or l i d)) (sym is) (head_in ns i d sorted) inside

-- the offers so far, and that of the next notification
pub offered_more : (known : Type 0) (ns : Notifications) (list : List NoticeHead) (i : ℕ) (d : NoticeHead) (a b c : OutboxState) (p q r : Option (List Offer)) (f g h : ℕ)
    (xs ys : List HookLine) → IsStrictlySortedBy nat_cmp (keys_of ns) → i < length list → WasOffered (known × (list ≡ heads ns)) ns a b p q f g xs
    → WasOffered (known × IsHeadIn ns (get_or list i d)) ns b c q r g h ys → WasOffered (known × (list ≡ heads ns)) ns a c p r f h (xs ++ ys)
offered_more known ns list i d a b c p q r f g h xs ys sorted inside first second =
    offered_both (known × (list ≡ heads ns)) ns a b c p q r f g h xs ys first (record {
      outbox = second.outbox;
      offers = λ k. second.offers (k.0, listed_head ns list i d k.1 sorted inside);
      added = second.added;
      rose = second.rose;
      later = second.later;
    })

-- ---- a round

pub on_err : {X E : Type 0} (P : Type 0) (answer : Result X E) → P → OnErr answer P
on_err P (Ok x) so = tt
on_err P (Err error) so = so

pub stopped_at_once : (ns : Notifications) (outbox outbox_now : OutboxState) (made : Option (List Offer)) (faults : ℕ) → outbox_now ≡ begun outbox
    → IsAttemptedInPart ns outbox outbox_now made made faults faults
stopped_at_once ns outbox outbox_now made faults is = record {
  lines = [];
  round = begins_round outbox (keys_of ns) [] tt;
  taken = none_taken;
  offers = same_offers made;
  outbox = is;
  faults = omega arith;
}

pub left_at_once : (outbox outbox_now : OutboxState) (made : Option (List Offer)) (faults : ℕ) → outbox_now ≡ begun outbox
    → IsLeft outbox outbox_now made made faults faults
left_at_once outbox outbox_now made faults is = record { lines = []; taken = none_taken; offers = same_lines made; outbox = is; faults = omega arith }

pub left_after : (known : Type 0) (ns : Notifications) (outbox start outbox_now : OutboxState) (before now : Option (List Offer)) (faults faults_now : ℕ) (lines : List HookLine)
    → start ≡ begun outbox → WasOffered known ns start outbox_now before now faults faults_now lines → AreTaken lines
    → IsLeft outbox outbox_now before now faults faults_now
left_after known ns outbox start outbox_now before now faults faults_now lines is so taken = record {
  lines = lines;
  taken = taken;
  offers = so.added;
  outbox = so.outbox ∙ ap (λ (o : OutboxState). after_lines o lines) is;
  faults = so.rose;
}

pub stopped_after : (known : Type 0) (ns : Notifications) (outbox start outbox_now : OutboxState) (before now : Option (List Offer)) (faults faults_now : ℕ) (lines : List HookLine)
    → known → start ≡ begun outbox → WasOffered known ns start outbox_now before now faults faults_now lines → BeginsRoundFrom start (keys_of ns) lines
    → AreTaken lines → IsAttemptedInPart ns outbox outbox_now before now faults faults_now
stopped_after known ns outbox start outbox_now before now faults faults_now lines k is so begins taken = record {
  lines = lines;
  round = begins_round outbox (keys_of ns) lines (subst (λ (o : OutboxState). BeginsRoundFrom o (keys_of ns) lines) is begins);
  taken = taken;
  offers = so.offers k;
  outbox = so.outbox ∙ ap (λ (o : OutboxState). after_lines o lines) is;
  faults = so.rose;
}

pub attempted : (known : Type 0) (ns : Notifications) (outbox start outbox_now : OutboxState) (before now : Option (List Offer)) (faults faults_now : ℕ) (lines : List HookLine)
    → known → start ≡ begun outbox → WasOffered known ns start outbox_now before now faults faults_now lines → BeginsRoundFrom start (keys_of ns) lines
    → IsDue outbox_now (keys_of ns) None → IsAttempted ns outbox before now lines
attempted known ns outbox start outbox_now before now faults faults_now lines k is so begins none =
    let due : IsDue (after_lines start lines) (keys_of ns) None = subst (λ (o : OutboxState). IsDue o (keys_of ns) None) so.outbox none in
    record {
      round = round_from outbox.last (keys_of ns) lines (subst (λ (o : OutboxState). IsRoundFrom o (keys_of ns) lines) is (round_whole start (keys_of ns) lines begins due));
      offers = so.offers k;
    }
