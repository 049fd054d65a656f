-- The events of a legal transcript are one history of the machine.
use Rattle.std.specs.Prelude.{◌≡◌, ℕ, ◌+◌, List, [], ◌∷◌, ◌++◌, length, Result, Ok, Err, refl}
use Rattle.std.specs.List.{cons_option}
use Rattle.std.proofs.Common.{ap, arith, subst, sym, ◌∙◌}
use Rattle.std.proofs.lemmas.List.Elements.{filter_map-append}
use Rattle.cv_base.proofs.Lists.{same_cons}
use Rattle.cv_core_records.specs.declared.event.EventEntry.{EventEntry}
use Rattle.cv_request.specs.declared.error.RequestError.{RequestError}
use Rattle.cv_request.specs.declared.request.Request.{Request}
use Rattle.cv_transcript.specs.Order.{event_in, events_of}
use Rattle.cv_transcript.specs.declared.entry.Entry.{Entry}
use Rattle.cv_transcript.specs.declared.entry.Entry.TheVariants as entry
use Rattle.cv_core_machine.specs.History.{event_entry}
use Rattle.cv_core_machine.specs.Scans.{Trees}
use Rattle.cv_core_machine.specs.Step.{step}
use Rattle.cv_core_machine.specs.declared.event.MachineEvent.{MachineEvent}
use Rattle.cv_serve_legal.specs.Laws.{IsHistory}
use Rattle.cv_serve_legal.specs.Legal.{AreLast, AreLegal, AreLegalRounds}
use Rattle.cv_serve_legal.specs.Replay.{Moment, Replays, moment_after}
use Rattle.cv_serve_legal.specs.Round.{IsLegalRound}
use Rattle.cv_serve_legal.specs.Rounds.{Round}
use Rattle.cv_serve_legal.specs.ParsedLine.{refusal_at, refusals, requests}
use Rattle.cv_serve_legal.specs.declared.parsed_line.Requested.{Requested}
use Rattle.cv_serve_legal.specs.declared.parsed_line.ParsedLine.{ParsedLine}

-- events one after the other, each with the next number and the machine's reply
abbrev Follow : Trees → Moment → List EventEntry → Moment → Type 0
Follow trees before [] after = after ≡ before
Follow trees before (event ∷ events) after =
    (act : MachineEvent) × (event ≡ event_entry (before.count + 1) event.by act (step trees before.state act).1)
    × Follow trees (moment_after trees before act) events after

follow_both : (trees : Trees) (before between after : Moment) (xs ys : List EventEntry) → Follow trees before xs between → Follow trees between ys after
    → Follow trees before (xs ++ ys) after
follow_both trees before between after [] ys h k = subst (λ m. Follow trees m ys after) h k
follow_both trees before between after (x ∷ xs) ys h k =
    (h.0, h.1, follow_both trees (moment_after trees before h.0) between after xs ys h.2 k)

is_history : (trees : Trees) (before after : Moment) (events : List EventEntry) → Follow trees before events after → IsHistory trees before events after
is_history trees before after [] h = record { acts = []; names = refl; answers = refl; reached = ap (λ m. m.state) (sym h); numbers = tt; count = let same : after.count ≡ before.count = ap (λ m. m.count) h in omega (arith, same) }
is_history trees before after (event ∷ events) h =
    let rest = is_history trees (moment_after trees before h.0) after events h.2 in
    record {
      acts = h.0 ∷ rest.acts;
      names = same_cons _ _ _ _ (ap (λ e. e.act) h.1) rest.names;
      answers = same_cons _ _ _ _ (ap (λ e. e.reply) h.1) rest.answers;
      reached = rest.reached;
      numbers = (ap (λ e. e.number) h.1, rest.numbers);
      count = let count : after.count ≡ before.count + 1 + length events = rest.count in omega (arith, count);
    }

-- ---- of a round

follow_entries : (trees : Trees) (requested : List Requested) (before after : Moment) (entries : List Entry) → Replays trees requested before entries after
    → Follow trees before (events_of entries) after
follow_entries trees requested before after [] h = h
follow_entries trees requested before after (entry.Refused line error ∷ entries) h = absurd h
follow_entries trees requested before after (entry.Event event ∷ entries) h =
    (h.1.act, h.1.is, subst (λ m. Follow trees m (events_of entries) after) h.1.next (follow_entries trees requested h.0 after entries h.2))
follow_entries trees requested before after (entry.Read read ∷ entries) h = follow_entries trees requested before after entries h.1

-- if a refused line adds nothing to what is made of entries, neither do the refusals of what was taken
pub skip_refusals : {A : Type 0} (f : List Entry → A) → ((line : ℕ) (error : RequestError) (entries : List Entry) → f (entry.Refused line error ∷ entries) ≡ f entries)
    → (taken : List ParsedLine) (others : List Entry) → f (refusals taken ++ others) ≡ f others
skip_refusals f skips [] others = refl
skip_refusals f skips (first ∷ taken) others = by_answer first.answer (skip_refusals f skips taken others) where
  by_answer : (answer : Result Request RequestError) → f (refusals taken ++ others) ≡ f others
      → f (cons_option (refusal_at first.line answer) (refusals taken) ++ others) ≡ f others
  by_answer (Ok request) same = same
  by_answer (Err error) same = skips first.line error (refusals taken ++ others) ∙ same

-- a refused line is no event
pub no_events : (taken : List ParsedLine) (others : List Entry) → events_of (refusals taken ++ others) ≡ events_of others
no_events = skip_refusals events_of (λ line error entries. refl)

follow_round : (trees : Trees) (workers : ℕ) (before : Moment) (lines : Round) (entries : List Entry) (after : Moment)
    → IsLegalRound trees workers before lines entries after → Follow trees before (events_of entries) after
follow_round trees workers before lines entries after h =
    subst (λ events. Follow trees before events after) (sym (ap (λ es. events_of es) h.parts ∙ no_events h.taken h.others))
    (follow_entries trees (requests h.taken) before after h.others h.replays)

-- ---- of all rounds

follow_parts : (trees : Trees) (before between after : Moment) (entries first later : List Entry) → entries ≡ first ++ later
    → Follow trees before (events_of first) between → Follow trees between (events_of later) after → Follow trees before (events_of entries) after
follow_parts trees before between after entries first later is h k =
    subst (λ events. Follow trees before events after) (sym (ap (λ es. events_of es) is ∙ filter_map-append event_in first later))
    (follow_both trees before between after (events_of first) (events_of later) h k)

-- no entry is no event
follow_none : (trees : Trees) (before after : Moment) (entries : List Entry) → entries ≡ [] → after ≡ before → Follow trees before (events_of entries) after
follow_none trees before after entries is same = subst (λ es. Follow trees before (events_of es) after) (sym is) same

follow_rounds : (trees : Trees) (workers : ℕ) (before : Moment) (rounds : List Round) (entries : List Entry) (after : Moment)
    → AreLegalRounds trees workers before rounds entries after → Follow trees before (events_of entries) after
follow_rounds trees workers before [] entries after h = follow_none trees before after entries h.0 h.1
follow_rounds trees workers before (round ∷ rounds) entries after h =
    follow_parts trees before h.0 after entries h.1 h.2 h.3
    (follow_round trees workers before round h.1 h.0 h.4)
    (follow_rounds trees workers h.0 rounds h.2 after h.5)

follow_last : (waiting : List (List ℕ)) (trees : Trees) (workers : ℕ) (before : Moment) (entries : List Entry) (after : Moment)
    → AreLast waiting trees workers before entries after → Follow trees before (events_of entries) after
follow_last [] trees workers before entries after h = follow_none trees before after entries h.0 h.1
follow_last (layer ∷ layers) trees workers before entries after h = follow_round trees workers before [] entries after h

pub one_history : (trees : Trees) (workers : ℕ) (before : Moment) (rounds : List Round) (entries : List Entry) (after : Moment)
    → AreLegal trees workers before rounds entries after → IsHistory trees before (events_of entries) after
one_history trees workers before rounds entries after h =
    is_history trees before after (events_of entries)
    (follow_parts trees before h.between after entries h.first h.last h.parts
    (follow_rounds trees workers before rounds h.first h.between h.input)
    (follow_last _ trees workers h.between h.last after h.further))
