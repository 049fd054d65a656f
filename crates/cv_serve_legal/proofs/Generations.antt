-- The generations that a legal transcript names never fall.
use Rattle.std.specs.Prelude.{◌≡◌, ℕ, ◌≤◌, ◌⊎◌, List, [], ◌∷◌, ◌++◌, Option, Some, None, Ok, Err, option_map, refl}
use Rattle.std.specs.List.{cons_option}
use Rattle.std.proofs.Common.{ap, arith, inl, inr, subst, sym, ◌∙◌}
use Rattle.std.proofs.lemmas.Option.{same_Some}
use Rattle.std.proofs.lemmas.List.Elements.{filter_map-append}
use Rattle.cv_core_records.specs.declared.read.Answer.{Answer}
use Rattle.cv_core_records.specs.declared.read.Answer.TheVariants as answer
use Rattle.cv_core_records.specs.declared.read.ReadEntry.{ReadEntry}
use Rattle.cv_core_records.specs.declared.reply.Reply.{Reply}
use Rattle.cv_core_records.specs.declared.reply.Reply.TheVariants as reply
use Rattle.cv_scan.specs.Scan.{Scanned}
use Rattle.cv_transcript.specs.declared.entry.Entry.{Entry}
use Rattle.cv_transcript.specs.declared.entry.Entry.TheVariants as entry
use Rattle.cv_core_machine.specs.Answer.{Read, answer_to, pending_report, report_at, report_of}
use Rattle.cv_core_machine.specs.Answer as reads
use Rattle.cv_core_machine.specs.Laws.{IsGenerationAfter}
use Rattle.cv_core_machine.specs.Layers.{first_pending}
use Rattle.cv_core_machine.specs.Scans.{Trees, image_scan}
use Rattle.cv_core_machine.specs.State.{State, value_at}
use Rattle.cv_core_machine.specs.Step.{step}
use Rattle.cv_core_machine.specs.declared.event.MachineEvent.{MachineEvent}
use Rattle.cv_core_machine.specs.declared.image.Image.{Image}
use Rattle.cv_serve_legal.specs.Laws.{NeverFall, answer_generation, entry_generation, generations, reply_generation}
use Rattle.cv_serve_legal.specs.Legal.{AreLast, AreLegal, AreLegalRounds}
use Rattle.cv_serve_legal.specs.Replay.{IsRead, Moment, Replays, moment_after, read_of}
use Rattle.cv_serve_legal.specs.Round.{IsLegalRound}
use Rattle.cv_serve_legal.specs.Rounds.{Round}
use Rattle.cv_serve_legal.specs.ParsedLine.{refusals, requests}
use Rattle.cv_serve_legal.specs.declared.parsed_line.Requested.{Requested}
use Rattle.cv_serve_legal.specs.declared.parsed_line.ParsedLine.{ParsedLine}
use Rattle.cv_serve_legal.proofs.History.{skip_refusals}

-- what is known of every event
abbrev pub KnownSteps : Type 0
KnownSteps = (trees : Trees) (state : State) (act : MachineEvent) → IsGenerationAfter state.generation (step trees state act).1 (step trees state act).0.generation

fall_both : (first middle last : ℕ) (xs ys : List ℕ) → NeverFall first xs middle → NeverFall middle ys last → NeverFall first (xs ++ ys) last
fall_both first middle last [] [] h k = omega (arith, h, k)
fall_both first middle last [] (y ∷ ys) h k = (let l = k.0 in omega (arith, h, l), k.1)
fall_both first middle last (x ∷ xs) ys h k = (h.0, fall_both x middle last xs ys h.1 k)

-- an event's reply, and then the rest
after_reply : (answer : Reply) (before now last : ℕ) (rest : List ℕ) → IsGenerationAfter before answer now → NeverFall now rest last
    → NeverFall before (cons_option (reply_generation answer) rest) last
after_reply (reply.Updated generation rows) before now last rest h k =
    (let a = h.0 in let b = h.1 in omega (arith, a, b), subst (λ n. NeverFall n rest last) (sym h.1) k)
after_reply _ before now last rest h k = subst (λ n. NeverFall n rest last) h k

-- an answer names no generation, or this one
abbrev Names : ℕ → Answer → Type 0
Names generation answer = (answer_generation answer ≡ None) ⊎ (answer_generation answer ≡ Some generation)

report_names : (trees : Trees) (state : State) (image : List ℕ) → Names state.generation (answer.Report image (report_of trees state image))
report_names trees state image = by_found (value_at state.images image) where
  by_pending : (pending : Option (List ℕ)) (scanned : Scanned)
      → Names state.generation (answer.Report image (pending_report pending state.generation scanned))
  by_pending (Some layer) scanned = inl refl
  by_pending None (Ok findings) = inr refl
  by_pending None (Err bad) = inl refl

  by_found : (found : Option Image) → Names state.generation (answer.Report image (report_at found trees state))
  by_found None = inl refl
  by_found (Some registered) = by_pending (first_pending state.layers registered.layers) (image_scan trees state.feeds registered)

answer_names : (trees : Trees) (state : State) (read : Read) → Names state.generation (answer_to trees state read)
answer_names trees state (reads.Report image) = report_names trees state image
answer_names trees state (reads.Page notification size number) = inl refl
answer_names trees state reads.Heads = inl refl

some_names : (trees : Trees) (state : State) (read : Option Read) (other : Answer) → option_map (answer_to trees state) read ≡ Some other
    → Names state.generation other
some_names trees state None other h = absurd (cc h)
some_names trees state (Some read) other h = subst (λ a. Names state.generation a) (same_Some (answer_to trees state read) other h) (answer_names trees state read)

read_names : (trees : Trees) (requested : List Requested) (now : Moment) (read : ReadEntry) → IsRead trees requested now read → Names now.state.generation read.answer
read_names trees requested now read h = by_kind h.is where
  by_kind : (read.answer ≡ answer.NoMemory) ⊎ (option_map (answer_to trees now.state) (read_of h.act) ≡ Some read.answer) → Names now.state.generation read.answer
  by_kind (inl e) = inl (ap (λ a. answer_generation a) e)
  by_kind (inr e) = some_names trees now.state (read_of h.act) read.answer e

-- a read's answer, and then the rest
after_read : (first last : ℕ) (rest : List ℕ) (named : Option ℕ) → (named ≡ None) ⊎ (named ≡ Some first) → NeverFall first rest last
    → NeverFall first (cons_option named rest) last
after_read first last rest named (inl e) k = subst (λ o. NeverFall first (cons_option o rest) last) (sym e) k
after_read first last rest named (inr e) k = subst (λ o. NeverFall first (cons_option o rest) last) (sym e) (omega arith, k)

fall_entries : KnownSteps → (trees : Trees) (requested : List Requested) (before after : Moment) (entries : List Entry)
    → Replays trees requested before entries after → NeverFall before.state.generation (generations entries) after.state.generation
fall_entries known trees requested before after [] h = let e = ap (λ m. m.state.generation) h in omega (arith, e)
fall_entries known trees requested before after (entry.Refused line error ∷ entries) h = absurd h
fall_entries known trees requested before after (entry.Event event ∷ entries) h =
    let rest = subst (λ m. NeverFall m.state.generation (generations entries) after.state.generation) h.1.next (fall_entries known trees requested h.0 after entries h.2) in
    let all = after_reply (step trees before.state h.1.act).1 before.state.generation (moment_after trees before h.1.act).state.generation after.state.generation (generations entries) (known trees before.state h.1.act) rest in
    subst (λ r. NeverFall before.state.generation (cons_option (reply_generation r) (generations entries)) after.state.generation) (sym (ap (λ e. e.reply) h.1.is)) all
fall_entries known trees requested before after (entry.Read read ∷ entries) h =
    after_read before.state.generation after.state.generation (generations entries) (answer_generation read.answer)
    (read_names trees requested before read h.0) (fall_entries known trees requested before after entries h.1)

-- a refused line names no generation
none_named : (taken : List ParsedLine) (others : List Entry) → generations (refusals taken ++ others) ≡ generations others
none_named = skip_refusals generations (λ line error entries. refl)

fall_round : KnownSteps → (trees : Trees) (workers : ℕ) (before : Moment) (lines : Round) (entries : List Entry) (after : Moment)
    → IsLegalRound trees workers before lines entries after → NeverFall before.state.generation (generations entries) after.state.generation
fall_round known trees workers before lines entries after h =
    subst (λ ns. NeverFall before.state.generation ns after.state.generation) (sym (ap (λ es. generations es) h.parts ∙ none_named h.taken h.others))
    (fall_entries known trees (requests h.taken) before after h.others h.replays)

fall_parts : (first middle last : ℕ) (entries front back : List Entry) → entries ≡ front ++ back → NeverFall first (generations front) middle
    → NeverFall middle (generations back) last → NeverFall first (generations entries) last
fall_parts first middle last entries front back is h k =
    subst (λ ns. NeverFall first ns last) (sym (ap (λ es. generations es) is ∙ filter_map-append entry_generation front back))
    (fall_both first middle last (generations front) (generations back) h k)

fall_none : (before after : Moment) (entries : List Entry) → entries ≡ [] → after ≡ before
    → NeverFall before.state.generation (generations entries) after.state.generation
fall_none before after entries is same =
    let e = ap (λ m. m.state.generation) same in
    let none : before.state.generation ≤ after.state.generation = omega (arith, e) in
    subst (λ es. NeverFall before.state.generation (generations es) after.state.generation) (sym is) none

fall_rounds : KnownSteps → (trees : Trees) (workers : ℕ) (before : Moment) (rounds : List Round) (entries : List Entry) (after : Moment)
    → AreLegalRounds trees workers before rounds entries after → NeverFall before.state.generation (generations entries) after.state.generation
fall_rounds known trees workers before [] entries after h = fall_none before after entries h.0 h.1
fall_rounds known trees workers before (round ∷ rounds) entries after h =
    fall_parts _ h.0.state.generation _ entries h.1 h.2 h.3
    (fall_round known trees workers before round h.1 h.0 h.4)
    (fall_rounds known trees workers h.0 rounds h.2 after h.5)

fall_last : KnownSteps → (waiting : List (List ℕ)) (trees : Trees) (workers : ℕ) (before : Moment) (entries : List Entry) (after : Moment)
    → AreLast waiting trees workers before entries after → NeverFall before.state.generation (generations entries) after.state.generation
fall_last known [] trees workers before entries after h = fall_none before after entries h.0 h.1
fall_last known (layer ∷ layers) trees workers before entries after h = fall_round known trees workers before [] entries after h

pub never_fall : KnownSteps → (trees : Trees) (workers : ℕ) (before : Moment) (rounds : List Round) (entries : List Entry) (after : Moment)
    → AreLegal trees workers before rounds entries after → NeverFall before.state.generation (generations entries) after.state.generation
never_fall known trees workers before rounds entries after h =
    fall_parts _ h.between.state.generation _ entries h.first h.last h.parts
    (fall_rounds known trees workers before rounds h.first h.between h.input)
    (fall_last known _ trees workers h.between h.last after h.further)
