-- A report is pending only for an image that is registered before it, in its round or in the one before.
use Rattle.std.specs.Prelude.{◌≡◌, ℕ, ◌≤◌, ◌⊎◌, Bool, true, false, ◌||◌, cond, not, List, [], ◌∷◌, ◌++◌, find, Option, Some, None, Result, Ok, Err, option_map, refl}
use Rattle.std.specs.List.{cons_option, flat_map, list_any}
use Rattle.std.proofs.Common.{ap, arith, inl, inr, subst, sym, ◌∙◌}
use Rattle.std.proofs.lemmas.Bool.{or_parts, not-true}
use Rattle.std.proofs.lemmas.List.Folds.{list_any-append}
use Rattle.std.proofs.lemmas.List.Concat.{flat_map-cons}
use Rattle.std.proofs.lemmas.Option.{same_Some}
use Rattle.cv_base.specs.Texts.{has_text, same}
use Rattle.cv_base.proofs.Same.{same_self}
use Rattle.cv_core_records.specs.declared.read.Answer.{Answer}
use Rattle.cv_core_records.specs.declared.read.Answer.TheVariants as answer
use Rattle.cv_core_records.specs.declared.read.ReadEntry.{ReadEntry}
use Rattle.cv_core_records.specs.declared.read.ReportOutcome.{ReportOutcome}
use Rattle.cv_core_records.specs.declared.read.ReportOutcome.TheVariants as report
use Rattle.cv_request.specs.declared.error.RequestError.{RequestError}
use Rattle.cv_request.specs.declared.request.Request.{Request}
use Rattle.cv_scan.specs.Scan.{Scanned}
use Rattle.cv_transcript.specs.Order.{events_of}
use Rattle.cv_transcript.specs.declared.entry.Entry.{Entry}
use Rattle.cv_transcript.specs.declared.entry.Entry.TheVariants as entry
use Rattle.cv_core_machine.specs.Answer.{Read, answer_to, pending_report, report_at, report_of}
use Rattle.cv_core_machine.specs.Answer as reads
use Rattle.cv_core_machine.specs.Layers.{first_pending, is_indexed_as}
use Rattle.cv_core_machine.specs.Scans.{Trees, image_scan}
use Rattle.cv_core_machine.specs.State.{State, value_at}
use Rattle.cv_core_machine.specs.declared.image.Image.{Image}
use Rattle.cv_core_machine.specs.declared.status.Status.{Status}
use Rattle.cv_core_machine.specs.declared.status.Status.TheVariants as status
use Rattle.cv_serve_legal.specs.Parts.{claims_of, times}
use Rattle.cv_serve_legal.specs.Replay.{IsRead, Moment, Replays, read_of}
use Rattle.cv_serve_legal.specs.Round.{IsLegalRound}
use Rattle.cv_serve_legal.specs.Rounds.{Round}
use Rattle.cv_serve_legal.specs.ParsedLine.{refusal_at, refusals, requests}
use Rattle.cv_serve_legal.specs.declared.parsed_line.Requested.{Requested}
use Rattle.cv_serve_legal.specs.declared.parsed_line.ParsedLine.{ParsedLine}
use Rattle.cv_serve_legal.specs.Complete.{ArePendingRecent, AreRoundEntries, HasNoFault, IsPendingRecent, is_fault, registers}
use Rattle.cv_serve_legal.proofs.Settled.{IsBetween, IsRecent, between_after, none_registered, others_kept, recent_after}
use Rattle.cv_serve_legal.proofs.Steps.{rank}
use Rattle.cv_serve_legal.proofs.Stood.{Stood, has_stood}

-- ---- the place of a read

-- where a read stands among the entries after the refused lines
record Place (taken : List ParsedLine) (others front back : List Entry) (read : ReadEntry) : Type 0 where
  rest : List Entry
  parts : others ≡ rest ++ entry.Read read ∷ back
  whole : front ≡ refusals taken ++ rest

place : (taken : List ParsedLine) (others front back : List Entry) (read : ReadEntry) → refusals taken ++ others ≡ front ++ entry.Read read ∷ back
    → Place taken others front back read
place [] others front back read is = record { rest = front; parts = is; whole = refl }
place (first ∷ taken) others front back read is = placed (by_answer first.answer (λ earlier same_parts. place taken others earlier back read same_parts) is) where
  Placed : Result Request RequestError → List Entry → Type 0
  Placed answer front =
      (rest : List Entry) × (others ≡ rest ++ entry.Read read ∷ back) × (front ≡ cons_option (refusal_at first.line answer) (refusals taken) ++ rest)

  -- the place among the entries after this line
  Before : Type 0
  Before = (earlier : List Entry) → refusals taken ++ others ≡ earlier ++ entry.Read read ∷ back → Place taken others earlier back read

  placed : Placed first.answer front → Place (first ∷ taken) others front back read
  placed p = record { rest = p.0; parts = p.1; whole = p.2 }

  by_front : (error : RequestError) (front : List Entry) → Before → entry.Refused first.line error ∷ refusals taken ++ others ≡ front ++ entry.Read read ∷ back
      → Placed (Err error) front
  by_front error [] before is = absurd (cc is)
  by_front error (one ∷ front) before is =
      let later : Place taken others front back read = before front (cc is) in
      let same_first : one ≡ entry.Refused first.line error = cc is in
      (later.rest, later.parts, ap (λ x. x ∷ front) same_first ∙ ap (λ xs. entry.Refused first.line error ∷ xs) later.whole)

  by_answer : (answer : Result Request RequestError) → Before → cons_option (refusal_at first.line answer) (refusals taken) ++ others ≡ front ++ entry.Read read ∷ back
      → Placed answer front
  by_answer (Ok request) before is = let later : Place taken others front back read = before front is in (later.rest, later.parts, later.whole)
  by_answer (Err error) before is = by_front error front before is

-- the moment of a read
record Reading (trees : Trees) (requested : List Requested) (before : Moment) (rest : List Entry) (read : ReadEntry) : Type 0 where
  now : Moment
  until : Replays trees requested before rest now
  answered : IsRead trees requested now read

reading : (trees : Trees) (requested : List Requested) (before after : Moment) (rest back : List Entry) (read : ReadEntry)
    → Replays trees requested before (rest ++ entry.Read read ∷ back) after → Reading trees requested before rest read
reading trees requested before after [] back read h = record { now = before; until = refl; answered = h.0 }
reading trees requested before after (entry.Refused line error ∷ rest) back read h = absurd h
reading trees requested before after (entry.Event event ∷ rest) back read h =
    let later = reading trees requested h.0 after rest back read h.2 in
    record { now = later.now; until = (h.0, h.1, later.until); answered = later.answered }
reading trees requested before after (entry.Read other ∷ rest) back read h =
    let later = reading trees requested before after rest back read h.1 in
    record { now = later.now; until = (h.0, later.until); answered = later.answered }

-- ---- a pending report

-- an image is registered, and this layer of it is not Indexed
record IsPending (state : State) (image layer : List ℕ) : Type 0 where
  registered : Image
  stands : value_at state.images image ≡ Some registered
  has : has_text registered.layers layer ≡ true
  pending : is_indexed_as (value_at state.layers layer) ≡ false

find_has : (test : List ℕ → Bool) (xs : List (List ℕ)) (x : List ℕ) → find test xs ≡ Some x → (test x ≡ true) × (has_text xs x ≡ true)
find_has test [] x is = absurd (cc is)
find_has test (first ∷ xs) x is = by_test (test first) refl (find_has test xs x) is where
  later : (b : Bool) → has_text xs x ≡ true → (b || has_text xs x) ≡ true
  later true has = refl
  later false has = has

  by_test : (b : Bool) → test first ≡ b → (find test xs ≡ Some x → (test x ≡ true) × (has_text xs x ≡ true)) → cond b (Some first) (find test xs) ≡ Some x
      → (test x ≡ true) × (has_text (first ∷ xs) x ≡ true)
  by_test true passes rest is =
      let one : first ≡ x = same_Some first x is in
      (ap (λ k. test k) (sym one) ∙ passes, ap (λ b. b || has_text xs x) (ap (λ k. same first k) (sym one) ∙ same_self first))
  by_test false fails rest is = ((rest is).0, later (same first x) (rest is).1)

pending_at : (trees : Trees) (state : State) (image layer : List ℕ) → report_of trees state image ≡ report.Pending layer → IsPending state image layer
pending_at trees state image layer says = by_found (value_at state.images image) refl says where
  by_pending : (registered : Image) → value_at state.images image ≡ Some registered → (found : Option (List ℕ)) (scanned : Scanned)
      → first_pending state.layers registered.layers ≡ found → pending_report found state.generation scanned ≡ report.Pending layer → IsPending state image layer
  by_pending registered stands (Some first) scanned is says =
      let one : first ≡ layer = cc says in
      let both = find_has (λ k. not (is_indexed_as (value_at state.layers k))) registered.layers layer (is ∙ ap (λ k. Some k) one) in
      record { registered = registered; stands = stands; has = both.1; pending = not-true (is_indexed_as (value_at state.layers layer)) both.0 }
  by_pending registered stands None (Ok findings) is says = absurd (cc says)
  by_pending registered stands None (Err bad) is says = absurd (cc says)

  by_found : (found : Option Image) → value_at state.images image ≡ found → report_at found trees state ≡ report.Pending layer → IsPending state image layer
  by_found None is says = absurd (cc says)
  by_found (Some registered) is says = by_pending registered is (first_pending state.layers registered.layers) (image_scan trees state.feeds registered) refl says

some_pending : (trees : Trees) (state : State) (read : Option Read) (image layer : List ℕ)
    → option_map (answer_to trees state) read ≡ Some (answer.Report image (report.Pending layer)) → IsPending state image layer
some_pending trees state None image layer is = absurd (cc is)
some_pending trees state (Some (reads.Page notification size number)) image layer is = absurd (cc is)
some_pending trees state (Some reads.Heads) image layer is = absurd (cc is)
some_pending trees state (Some (reads.Report other)) image layer is = pending_at trees state image layer says where
  same_answer : answer.Report other (report_of trees state other) ≡ answer.Report image (report.Pending layer)
  same_answer = same_Some (answer.Report other (report_of trees state other)) (answer.Report image (report.Pending layer)) is

  image_in : Answer → List ℕ
  image_in (answer.Report one outcome) = one
  image_in _ = []

  outcome_in : Answer → ReportOutcome
  outcome_in (answer.Report one outcome) = outcome
  outcome_in _ = report.NotRegistered

  says : report_of trees state image ≡ report.Pending layer
  says = ap (λ k. report_of trees state k) (sym (ap image_in same_answer)) ∙ ap outcome_in same_answer

read_pending : (trees : Trees) (requested : List Requested) (now : Moment) (read : ReadEntry) (image layer : List ℕ) → IsRead trees requested now read
    → read.answer ≡ answer.Report image (report.Pending layer) → IsPending now.state image layer
read_pending trees requested now read image layer h says = by_kind h.is where
  by_kind : (read.answer ≡ answer.NoMemory) ⊎ (option_map (answer_to trees now.state) (read_of h.act) ≡ Some read.answer) → IsPending now.state image layer
  by_kind (inl e) = absurd (cc (e, says))
  by_kind (inr e) = some_pending trees now.state (read_of h.act) image layer (e ∙ ap (λ a. Some a) says)

-- ---- of a round

-- without faults there are none in the parts
pub both_kept : (xs ys : List Entry) → HasNoFault (xs ++ ys) → HasNoFault xs × HasNoFault ys
both_kept xs ys kept = or_parts (list_any is_fault xs) (list_any is_fault ys) (sym (list_any-append is_fault xs ys) ∙ kept)

pending_recent : (trees : Trees) (workers : ℕ) (before : Moment) (lines : Round) (earlier entries : List Entry) (after : Moment)
    → IsLegalRound trees workers before lines entries after → IsBetween before.state → IsRecent earlier before.state → HasNoFault entries
    → IsPendingRecent earlier entries
pending_recent trees workers before lines earlier entries after h known recent kept front back read image layer is says =
    by_test (list_any (registers image) (earlier ++ front)) refl where
      at : Place h.taken h.others front back read
      at = place h.taken h.others front back read (sym h.parts ∙ is)

      then : Reading trees (requests h.taken) before at.rest read
      then = reading trees (requests h.taken) before after at.rest back read (subst (λ es. Replays trees (requests h.taken) before es after) at.parts h.replays)

      pending : IsPending then.now.state image layer
      pending = read_pending trees (requests h.taken) then.now read image layer then.answered says

      none_given : HasNoFault at.rest
      none_given =
          (both_kept at.rest (entry.Read read ∷ back) (subst (λ es. HasNoFault es) at.parts (others_kept h.taken h.others entries h.parts kept))).0

      behind : (found : Option Status) → is_indexed_as found ≡ false → 3 ≤ rank found → ⊥
      behind None late far = omega (arith, far)
      behind (Some status.Queued) late far = omega (arith, far)
      behind (Some (status.Claimed worker)) late far = omega (arith, far)
      behind (Some status.Indexed) late far = absurd (cc late)

      by_test : (b : Bool) → list_any (registers image) (earlier ++ front) ≡ b → b ≡ true
      by_test true none = refl
      by_test false none =
          let both = or_parts (list_any (registers image) earlier) (list_any (registers image) front) (sym (list_any-append (registers image) earlier front) ∙ none) in
          let not_in : list_any (registers image) at.rest ≡ false =
          sym (ap (λ es. list_any (registers image) es) at.whole ∙ none_registered image h.taken at.rest) ∙ both.1 in
          let stood : Stood before.state then.now.state image pending.registered layer (times layer (claims_of (events_of at.rest))) =
          has_stood trees (requests h.taken) before then.now at.rest image pending.registered layer then.until known.consistent none_given not_in pending.stands pending.has in
          let far : rank (value_at before.state.layers layer) ≡ 3 = ap rank (recent image pending.registered layer both.0 stood.stood pending.has) in
          absurd (behind (value_at then.now.state.layers layer) pending.pending (let more = stood.rises in omega (arith, far, more)))

-- ---- of all rounds

pub all_pending : (trees : Trees) (workers : ℕ) (before : Moment) (rounds : List Round) (earlier : List Entry) (parts : List (List Entry)) (after : Moment)
    → AreRoundEntries trees workers before rounds parts after → IsBetween before.state → IsRecent earlier before.state
    → HasNoFault (flat_map (λ part. part) parts) → ArePendingRecent earlier parts
all_pending trees workers before [] earlier [] after h known recent kept = tt
all_pending trees workers before [] earlier (entries ∷ parts) after h known recent kept = absurd h
all_pending trees workers before (round ∷ rounds) earlier [] after h known recent kept = absurd h
all_pending trees workers before (round ∷ rounds) earlier (entries ∷ parts) after h known recent kept = (
  pending_recent trees workers before round earlier entries h.0 h.1 known recent both.0,
  all_pending trees workers h.0 rounds entries parts after h.2 (between_after trees workers before round entries h.0 h.1 known)
      (recent_after trees workers before round entries h.0 h.1 known both.0) both.1,
) where
  both : HasNoFault entries × HasNoFault (flat_map (λ part. part) parts)
  both = both_kept entries (flat_map (λ part. part) parts) (subst (λ es. HasNoFault es) (flat_map-cons (λ (part : List Entry). part) entries parts) kept)
