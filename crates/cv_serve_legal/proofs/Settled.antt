-- After a round without faults no layer is Claimed, and the layers that are not Indexed are of images that it registers.
use Rattle.std.specs.Prelude.{◌≡◌, ℕ, ◌≤◌, ◌<◌, Bool, true, false, ◌||◌, cond, List, [], ◌∷◌, ◌++◌, filter, length, map, Option, Some, None, Result, Ok, Err, refl}
use Rattle.std.specs.List.{AllZip, cons_option, list_any}
use Rattle.std.specs.Cmp.Lexicographic.{texts_ties}
use Rattle.std.specs.Option.{is_some}
use Rattle.std.specs.Ordering.{is_eq}
use Rattle.std.proofs.Common.{ap, arith, subst, sym, ◌∙◌}
use Rattle.cv_base.specs.Texts.{has_text, same}
use Rattle.cv_match.specs.Findings.{text_cmp}
use Rattle.cv_core_records.specs.declared.event.Act.{Act}
use Rattle.cv_core_records.specs.declared.event.Act.TheVariants as name
use Rattle.cv_core_records.specs.declared.event.By.{By}
use Rattle.cv_core_records.specs.declared.event.By.TheVariants as by
use Rattle.cv_request.specs.declared.error.RequestError.{RequestError}
use Rattle.cv_request.specs.declared.request.Request.{Request}
use Rattle.cv_transcript.specs.Order.{events_of}
use Rattle.cv_transcript.specs.declared.entry.Entry.{Entry}
use Rattle.cv_transcript.specs.declared.entry.Entry.TheVariants as entry
use Rattle.cv_core_machine.specs.Laws.{IsConsistent}
use Rattle.cv_core_machine.specs.Layers.{is_queued_as, queued}
use Rattle.cv_core_machine.specs.Scans.{Trees}
use Rattle.cv_core_machine.specs.State.{Layers, State, value_at}
use Rattle.cv_core_machine.specs.declared.image.Image.{Image}
use Rattle.cv_core_machine.specs.declared.status.Status.{Status}
use Rattle.cv_core_machine.specs.declared.status.Status.TheVariants as status
use Rattle.cv_serve_legal.specs.Parts.{claims_of, times}
use Rattle.cv_serve_legal.specs.Replay.{Moment, Replays, submitted}
use Rattle.cv_serve_legal.specs.Round.{IsLegalRound}
use Rattle.cv_serve_legal.specs.Rounds.{Round}
use Rattle.cv_serve_legal.specs.ParsedLine.{IsTaken, refusal_at, refusals, requests}
use Rattle.cv_serve_legal.specs.declared.parsed_line.ParsedLine.{ParsedLine}
use Rattle.cv_serve_legal.specs.Complete.{HasNoFault, is_fault, registers, registers_by}
use Rattle.cv_serve_legal.proofs.Steps.{image_names, named_found, rank}
use Rattle.cv_serve_legal.proofs.Stood.{Stood, consistent_after, has_stood}
use Rattle.cv_serve_legal.proofs.Work.{NoneClaimed, none_claimed}

-- each image that these entries do not register has its layers Indexed
abbrev pub IsRecent : List Entry → State → Type 0
IsRecent entries state =
    (image : List ℕ) (registered : Image) (layer : List ℕ) → list_any (registers image) entries ≡ false → value_at state.images image ≡ Some registered
    → has_text registered.layers layer ≡ true → value_at state.layers layer ≡ Some status.Indexed

-- a state between rounds
pub record IsBetween (state : State) : Type 0 where
  pub consistent : IsConsistent state
  pub unclaimed : NoneClaimed state.layers

-- ---- refused lines

-- if no refused line passes a test, one of all entries passes it exactly if one of the others does
any_others : (test : Entry → Bool) → ((line : ℕ) (error : RequestError) → test (entry.Refused line error) ≡ false) → (taken : List ParsedLine) (others : List Entry)
    → list_any test (refusals taken ++ others) ≡ list_any test others
any_others test refused [] others = refl
any_others test refused (first ∷ taken) others = by_answer first.answer (any_others test refused taken others) where
  by_answer : (answer : Result Request RequestError) → list_any test (refusals taken ++ others) ≡ list_any test others
      → list_any test (cons_option (refusal_at first.line answer) (refusals taken) ++ others) ≡ list_any test others
  by_answer (Ok request) rest = rest
  by_answer (Err error) rest = ap (λ b. b || list_any test (refusals taken ++ others)) (refused first.line error) ∙ rest

-- a refused line registers nothing
pub none_registered : (image : List ℕ) (taken : List ParsedLine) (others : List Entry)
    → list_any (registers image) (refusals taken ++ others) ≡ list_any (registers image) others
none_registered image taken others = any_others (registers image) (λ line error. refl) taken others

-- and is no fault
pub others_kept : (taken : List ParsedLine) (others entries : List Entry) → entries ≡ refusals taken ++ others → HasNoFault entries → HasNoFault others
others_kept taken others entries is kept = sym (ap (λ es. list_any is_fault es) is ∙ any_others is_fault (λ line error. refl) taken others) ∙ kept

-- ---- the claims of a round

-- a layer that is Queued is among those that are
pub queued_times : (table : Layers) (layer : List ℕ) → value_at table layer ≡ Some status.Queued → 0 < times layer (queued table)
queued_times [] layer is = absurd (cc is)
queued_times (first ∷ table) layer is =
    by_test (is_eq (text_cmp layer first.0)) (same layer first.0) refl (texts_ties layer first.0) (queued_times table layer) is where
      waiting : (found : Status) → List (List ℕ × Status)
      waiting found = cond (is_queued_as found) (first ∷ filter (λ (e : List ℕ × Status). is_queued_as e.1) table) (filter (λ (e : List ℕ × Status). is_queued_as e.1) table)

      -- if it is the first one
      here : (found : Status) → Some found ≡ Some status.Queued → same layer first.0 ≡ true → 0 < times layer (map (λ (e : List ℕ × Status). e.0) (waiting found))
      here status.Queued e key =
          subst (λ b. 0 < length (cond b (first.0 ∷ filter (same layer) (queued table)) (filter (same layer) (queued table)))) (sym key) (omega arith)
      here (status.Claimed worker) e key = absurd (cc e)
      here status.Indexed e key = absurd (cc e)

      -- if it is a later one
      later : (found : Status) → 0 < times layer (queued table) → 0 < times layer (map (λ (e : List ℕ × Status). e.0) (waiting found))
      later status.Queued some = by_first (same layer first.0) where
        by_first : (b : Bool) → 0 < length (cond b (first.0 ∷ filter (same layer) (queued table)) (filter (same layer) (queued table)))
        by_first true = omega arith
        by_first false = some
      later (status.Claimed worker) some = some
      later status.Indexed some = some

      by_test : (b t : Bool) → same layer first.0 ≡ t → t ≡ b → (value_at table layer ≡ Some status.Queued → 0 < times layer (queued table))
          → cond b (Some first.1) (value_at table layer) ≡ Some status.Queued → 0 < times layer (queued (first ∷ table))
      by_test true true key e rest is = here first.1 is key
      by_test true false key e rest is = absurd (cc e)
      by_test false t key e rest is = later first.1 (rest is)

-- ---- after a round

-- a layer that is not Claimed, and no longer Queued
settled : (found : Option Status) → ((worker : ℕ) → found ≡ Some (status.Claimed worker) → ⊥) → 2 ≤ rank found → found ≡ Some status.Indexed
settled None free far = absurd (omega (arith, far))
settled (Some status.Queued) free far = absurd (omega (arith, far))
settled (Some (status.Claimed worker)) free far = absurd (free worker refl)
settled (Some status.Indexed) free far = refl

pub between_after : (trees : Trees) (workers : ℕ) (before : Moment) (lines : Round) (entries : List Entry) (after : Moment)
    → IsLegalRound trees workers before lines entries after → IsBetween before.state → IsBetween after.state
between_after trees workers before lines entries after h known = record {
  consistent = consistent_after trees (requests h.taken) before after h.others h.replays known.consistent;
  unclaimed = none_claimed trees (requests h.taken) before after h.others (λ worker. None) h.replays known.consistent
      (λ layer worker claimed. absurd (known.unclaimed layer worker claimed)) h.works;
}

pub recent_after : (trees : Trees) (workers : ℕ) (before : Moment) (lines : Round) (entries : List Entry) (after : Moment)
    → IsLegalRound trees workers before lines entries after → IsBetween before.state → HasNoFault entries → IsRecent entries after.state
recent_after trees workers before lines entries after h known kept image registered layer other stands has =
    settled (value_at after.state.layers layer) ((between_after trees workers before lines entries after h known).unclaimed layer)
    (by_found (value_at before.state.layers layer) refl) where
      stood : Stood before.state after.state image registered layer (times layer (claims_of (events_of h.others)))
      stood = has_stood trees (requests h.taken) before after h.others image registered layer h.replays known.consistent
          (others_kept h.taken h.others entries h.parts kept)
          (sym (ap (λ es. list_any (registers image) es) h.parts ∙ none_registered image h.taken h.others) ∙ other) stands has

      by_found : (found : Option Status) → value_at before.state.layers layer ≡ found → 2 ≤ rank (value_at after.state.layers layer)
      by_found None is =
          let some : is_some (value_at before.state.layers layer) ≡ true =
          named_found before.state layer known.consistent (image_names before.state.images image registered layer stood.stood has) in
          absurd (cc (some, is))
      by_found (Some status.Queued) is = stood.claimed (subst (λ n. 0 < n) (sym (h.claims layer)) (queued_times before.state.layers layer is))
      by_found (Some (status.Claimed worker)) is = absurd (known.unclaimed layer worker is)
      by_found (Some status.Indexed) is = let far : rank (value_at before.state.layers layer) ≡ 3 = ap rank is in let more = stood.rises in omega (arith, far, more)

-- ---- the last round

no_requests : (taken : List ParsedLine) → AllZip IsTaken [] taken → requests taken ≡ []
no_requests [] h = refl
no_requests (first ∷ taken) h = absurd h

-- without requests no image is registered
not_registered : (image : List ℕ) (trees : Trees) (before after : Moment) (entries : List Entry) → Replays trees [] before entries after
    → list_any (registers image) entries ≡ false
not_registered image trees before after [] h = refl
not_registered image trees before after (entry.Refused line error ∷ entries) h = absurd h
not_registered image trees before after (entry.Read read ∷ entries) h = not_registered image trees before after entries h.1
not_registered image trees before after (entry.Event event ∷ entries) h =
    ap (λ b. b || list_any (registers image) entries) (by_source event.by event.act h.1.source) ∙ not_registered image trees h.0 after entries h.2 where
      by_source : (source : By) (named : Act) → submitted [] source named ≡ Some h.1.act → registers_by image named event.reply ≡ false
      by_source (by.Lane lane line) named is = absurd (cc is)
      by_source (by.Worker worker) (name.Register other) is = absurd (cc is)
      by_source (by.Worker worker) (name.DropImage other) is = refl
      by_source (by.Worker worker) (name.Claim layer) is = refl
      by_source (by.Worker worker) (name.Indexed layer) is = refl
      by_source (by.Worker worker) (name.Fault layer) is = refl
      by_source (by.Worker worker) (name.Memory layer) is = refl
      by_source (by.Worker worker) (name.Update feed) is = refl
      by_source (by.Worker worker) (name.Patch feed) is = refl
      by_source (by.Worker worker) (name.Ack number) is = refl

-- a round without lines registers no image
pub last_registers : (image : List ℕ) (trees : Trees) (workers : ℕ) (before : Moment) (entries : List Entry) (after : Moment)
    → IsLegalRound trees workers before [] entries after → list_any (registers image) entries ≡ false
last_registers image trees workers before entries after h =
    ap (λ es. list_any (registers image) es) h.parts ∙ none_registered image h.taken h.others
    ∙ not_registered image trees before after h.others (subst (λ requested. Replays trees requested before h.others after) (no_requests h.taken h.answers) h.replays)
