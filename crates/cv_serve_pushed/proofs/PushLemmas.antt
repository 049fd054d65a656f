-- The attempts of a round, what stops them, and their lines.
use Rattle.std.specs.Prelude.{◌≡◌, ℕ, ◌+◌, ◌<◌, List, [], ◌∷◌, ◌++◌, get_or, length, take, Option, Result, Ok, Err, IfErr, IfOk, IsErrAnd, OnErr, OnOk, refl}
use Rattle.std.specs.Io.KnownBytes.{Appends}
use Rattle.std.specs.List.{AllByRecursion, flat_map}
use Rattle.std.proofs.Common.{add-one, ap, arith, inl, inr, subst, sym, ◌∙◌}
use Rattle.std.proofs.KnownBytes.{Appends-nil}
use Rattle.std.proofs.Math.Seq.{take-suc}
use Rattle.std.proofs.lemmas.Grind.{flat_map-append}
use Rattle.std.proofs.lemmas.List.{append-nil}
use Rattle.cv_io.specs.Writes.{AppendsPrefix}
use Rattle.cv_io.specs.declared.write.WriteError.{WriteError}
use Rattle.cv_io.specs.declared.write.WriteError.TheVariants as error
use Rattle.cv_core_records.specs.Pages.{Notifications}
use Rattle.cv_hook.specs.Attempts.{OutboxState, begun}
use Rattle.cv_hook.specs.declared.offer.HookLine.{HookLine}
use Rattle.cv_hook.specs.declared.offer.Offer.{Offer}
use Rattle.cv_core_machine.specs.Scans.{StatesEveryLayer}
use Rattle.cv_hub_seats.specs.Events.{DeskTrees}
use Rattle.cv_serve_lanes.specs.Counts.{RoseBy}
use Rattle.cv_serve_legal.specs.Replay.{Moment}
use Rattle.cv_serve_legal.specs.Whole.{WholeRound}
use Rattle.cv_transcript.specs.Entry.{entry_text}
use Rattle.cv_serve_pushed.specs.Attempts.{AreLines, IsAttempted, IsAttemptedInPart, IsLeft, after_lines, hook_faults}
use Rattle.cv_serve_pushed.specs.HookText.{HasNoTag, hook_text}
use Rattle.cv_serve_pushed.specs.Pushes.{MadeAttempts, PushState, StoppedAttempts, StopsPushing, push_of, push_state}
use Rattle.cv_serve_pushed.specs.code.Pushing.{StopsAfterLines, WroteAttempts}

-- ---- the attempts

module _ {E : Type 0} (known : Type 0) (notifications : Notifications) (before after : PushState) where
  -- all were made
  pub made_all : (result : Result (List HookLine) E) → (known → IfOk result (IsAttempted notifications before.outbox before.offers after.offers))
      → IfOk result (λ lines. AreLines lines before.offers after.offers) → IfOk result (λ lines. after.outbox ≡ after_lines (begun before.outbox) lines)
      → IfOk result (λ lines. RoseBy (hook_faults lines) before.faults after.faults) → IfOk result (MadeAttempts known notifications before after)
  made_all (Ok lines) attempts offers outbox faults = record { attempts = attempts; offers = offers; outbox = outbox; faults = faults }
  made_all (Err e) attempts offers outbox faults = tt

  -- some were made
  pub made_some : (result : Result (List HookLine) E) → (known → OnErr result (IsAttemptedInPart notifications before.outbox after.outbox before.offers after.offers before.faults after.faults))
      → OnErr result (IsLeft before.outbox after.outbox before.offers after.offers before.faults after.faults) → OnErr result (StoppedAttempts known notifications before after)
  made_some (Ok lines) attempts left = tt
  made_some (Err e) attempts left = record { attempts = attempts; left = left }

-- ---- their lines

-- one line more
pub more_bytes : (lines : List HookLine) (i : ℕ) (line : HookLine) (old new : List ℕ) → i < length lines → line ≡ get_or lines i line
    → old ≡ flat_map hook_text (take i lines) → new ≡ old ++ hook_text line → new ≡ flat_map hook_text (take (i + 1) lines)
more_bytes lines i line old new below is before more =
    let front = take i lines in
    let taken : take (i + 1) lines ≡ front ++ line ∷ [] = rw add-one (take-suc lines i line below ∙ ap (λ (x : HookLine). front ++ x ∷ []) (sym is)) in
    more ∙ ap (λ (l : List ℕ). l ++ hook_text line) before ∙ ap (λ (l : List ℕ). flat_map hook_text front ++ l) (sym (flat_map_one line))
    ∙ sym (flat_map-append hook_text front (line ∷ [])) ∙ ap (flat_map hook_text) (sym taken)
  where
    flat_map_one : (x : HookLine) → flat_map hook_text (x ∷ []) ≡ hook_text x
    flat_map_one x = append-nil (hook_text x)

module _ (known : Type 0) (notifications : Notifications) (before after : PushState) (lines : List HookLine) (written written_now : Option (List ℕ)) (made : MadeAttempts known notifications before after lines) where
  -- they are not written
  pub unwritten : StopsAfterLines known notifications before after written written error.NoMemory
  unwritten = inl (record { lines = lines; made = made; part = (0, omega arith, Appends-nil written); untagged = inl refl })

  -- they are written
  pub wrote_lines : (bytes : List ℕ) (result : Result Unit WriteError) → bytes ≡ flat_map hook_text lines → AllByRecursion HasNoTag lines
      → OnOk result (Appends written written_now bytes) → OnOk result (WroteAttempts known notifications before after written written_now)
  wrote_lines bytes (Ok _) is untagged output = record { lines = lines; made = made; output = subst (Appends written written_now) is output; untagged = untagged }
  wrote_lines bytes (Err e) is untagged output = tt

  pub wrote_part : (bytes : List ℕ) (result : Result Unit WriteError) → bytes ≡ flat_map hook_text lines → AllByRecursion HasNoTag lines
      → OnErr result (AppendsPrefix written written_now bytes) → IfErr result (StopsAfterLines known notifications before after written written_now)
  wrote_part bytes (Ok _) is untagged part = tt
  wrote_part bytes (Err error.WriteFault) is untagged part = record { lines = lines; made = made; part = subst (AppendsPrefix written written_now) is part; untagged = inr untagged }
  wrote_part bytes (Err error.NoMemory) is untagged part =
      inl (record { lines = lines; made = made; part = subst (AppendsPrefix written written_now) is part; untagged = inr untagged })

-- ---- what stops a round

-- memory ran out, as it is handed on
pub out_of_memory : {X : Type 0} (P : WriteError → Type 0) (result : Result X WriteError) → IsErrAnd result (λ e. e ≡ error.NoMemory) → P error.NoMemory → IfErr result P
out_of_memory P (Ok x) is h = absurd is
out_of_memory P (Err e) is h = subst P (sym is) h

module _ {H : Type 0} (offers : H → Option (List Offer)) (faults : H → ℕ) (tree : DeskTrees) (written middle now : Option (List ℕ)) (round : WholeRound) (moment : Moment)
    (whole : Appends written middle (flat_map entry_text round.entries)) where
  abbrev AfterLines : OutboxState × H → OutboxState × H → WriteError → Type 0
  AfterLines held after = StopsAfterLines (StatesEveryLayer tree) moment.state.notifications (push_state held.0 (offers held.1) (faults held.1)) (push_state after.0 (offers after.1) (faults after.1)) middle now

  abbrev Stopped : OutboxState × H → OutboxState × H → WriteError → Type 0
  Stopped before after by = StopsPushing tree by (push_of offers faults (before, written)) round moment (push_of offers faults (after, now))

  stops_at : (held after : OutboxState × H) (by : WriteError) → AfterLines held after by → Stopped held after by
  stops_at held after error.WriteFault h = inr (record { between = middle; whole = whole; lines = h.lines; made = h.made; part = h.part; untagged = h.untagged })
  stops_at held after error.NoMemory (inl h) = inr (inl (record { between = middle; whole = whole; lines = h.lines; made = h.made; part = h.part; untagged = h.untagged }))
  stops_at held after error.NoMemory (inr (stopped, same)) =
      inr (inr (record { whole = subst (λ (bytes : Option (List ℕ)). Appends written bytes (flat_map entry_text round.entries)) (sym same) whole; stopped = stopped }))

  -- a round that was kept stopped after its lines
  pub stops_after : {X : Type 0} (before held after : OutboxState × H) (result : Result X WriteError) → held ≡ before → IfErr result (AfterLines held after) → IfErr result (Stopped before after)
  stops_after before held after (Ok x) same h = tt
  stops_after before held after (Err by) same h = subst (λ (b : OutboxState × H). Stopped b after by) same (stops_at held after by h)
