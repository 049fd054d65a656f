-- The ends of a service that pushes.
use Rattle.std.specs.Prelude.{◌≡◌, ⊤, ℕ, true, List, [], ◌∷◌, Option, Some, None, IfSome, IsErrAnd, Result, Ok, Err, refl}
use Rattle.std.specs.List.{flat_map}
use Rattle.std.proofs.Common.{subst}
use Rattle.cv_transcript.specs.Entry.{entry_text}
use Rattle.cv_core_machine.specs.Scans.{StatesEveryLayer, trees_of}
use Rattle.cv_hook.specs.Attempts.{OutboxState, new_outbox}
use Rattle.cv_hook.specs.declared.offer.Offer.{Offer}
use Rattle.cv_hub_seats.specs.Events.{DeskTrees}
use Rattle.cv_io.specs.declared.write.WriteError.{WriteError}
use Rattle.cv_serve_legal.specs.Replay.{Moment, beginning}
use Rattle.cv_serve_legal.specs.Rounds.{round_limits, rounds_of}
use Rattle.cv_serve_legal.specs.Whole.{WholeRound, entries_in}
use Rattle.cv_serve_legal.proofs.Whole.{all_rounds_legal}
use Rattle.cv_serve_round.specs.Kept.{AreKept}
use Rattle.cv_serve_round.specs.Written.{WithBytes}
use Rattle.cv_serve.specs.Done.{IsServedDone, WroteDone}
use Rattle.cv_serve.specs.Kept.{IsServedKept}
use Rattle.cv_serve.specs.Served.{IsServed}
use Rattle.cv_serve.specs.declared.end.ServeEnd.{ServeEnd}
use Rattle.cv_serve.specs.declared.end.ServeEnd.TheVariants as end
use Rattle.cv_serve.proofs.Ending.{wrote_nothing}
use Rattle.cv_serve_pushed.specs.Pushed.{IsPushed, PushEnds, PushWorld, pushed_by}
use Rattle.cv_serve_pushed.specs.Pushes.{Pushes, StopsPushing, push_of}
use Rattle.cv_serve_pushed.specs.code.Ended.{ended_by}
use Rattle.cv_serve_pushed.proofs.Mapping.{served_less, wrote_less}
use Rattle.cv_serve_pushed.proofs.RoundLemmas.{all_pushed}

-- memory ran out before anything
pub nothing_pushed : {D : Type 0} (tree : DeskTrees) (workers : ℕ) (listings faults : D → ℕ) (world : PushWorld D) → PushEnds tree workers listings faults world world end.NoMemory
nothing_pushed tree workers listings faults world = record {
  outbox = new_outbox;
  done = λ known is. absurd (cc is);
  wrote = wrote_nothing (StatesEveryLayer tree) (trees_of tree) workers beginning listings faults (Pushes tree) (StopsPushing tree) world.remaining world.remaining world.desks (pushed_by new_outbox world);
}

-- ---- a service that began

-- a keeper of nothing
abbrev pub Nothing : Unit {0} → WholeRound → Unit {0} → Type 0
Nothing before round after = ⊤

kept_none : (rounds : List WholeRound) → AreKept Nothing tt rounds tt
kept_none [] = refl
kept_none (round ∷ rounds) = (tt, tt, kept_none rounds)

module _ {D : Type 0} (tree : DeskTrees) (workers : ℕ) (listings faults : D → ℕ) (desks desks_now : List D) where
  -- the lines of the entries are what a service writes
  pub lines_served : {S : Type 0} (ends : S → WholeRound → Moment → S → Type 0) (x y : S) (input : List ℕ)
      → (h : IsServedDone (StatesEveryLayer tree) (trees_of tree) workers beginning listings faults ends input desks desks_now x y)
      → IsServedKept (trees_of tree) workers beginning listings faults Nothing input (Some []) (Some (flat_map entry_text (entries_in h.carried.rounds))) desks desks_now tt tt
  lines_served ends x y input h = record {
    served = record {
      output = flat_map entry_text (entries_in h.carried.rounds);
      appended = refl;
      state = h.carried.after.state;
      legal = record {
        entries = entries_in h.carried.rounds;
        lines = record { text = refl; tags = h.carried.tags };
        after = h.carried.after;
        legal = all_rounds_legal (trees_of tree) workers beginning (rounds_of round_limits input true) h.carried.rounds h.carried.after h.all;
        reached = refl;
      };
      counts = h.carried.counts;
    };
    rounds = h.carried.rounds;
    entries_are = refl;
    all = h.all;
    kept = kept_none h.carried.rounds;
  }

if_some : {X : Type 0} (P Q : X → Type 0) (o : Option X) → ((x : X) → P x → Q x) → IfSome o P → IfSome o Q
if_some P Q None more h = tt
if_some P Q (Some x) more h = more x h

module _ {D H : Type 0} (tree : DeskTrees) (workers : ℕ) (listings faults : D → ℕ) (offers : H → Option (List Offer)) (hook_faults : H → ℕ) (desks desks_now : List D)
    (remaining remaining_now written written_now : Option (List ℕ)) (hook hook_now : H) (outbox_now : OutboxState) where
  abbrev Ends : WithBytes (OutboxState × H) → WholeRound → Moment → WithBytes (OutboxState × H) → Type 0
  Ends x round moment y = Pushes tree (push_of offers hook_faults x) round moment (push_of offers hook_faults y)

  abbrev Stops : WriteError → WithBytes (OutboxState × H) → WholeRound → Moment → WithBytes (OutboxState × H) → Type 0
  Stops by x round moment y = StopsPushing tree by (push_of offers hook_faults x) round moment (push_of offers hook_faults y)

  abbrev before : PushWorld D
  before = record { remaining = remaining; written = written; offers = offers hook; faults = hook_faults hook; desks = desks }

  abbrev now : PushWorld D
  now = record { remaining = remaining_now; written = written_now; offers = offers hook_now; faults = hook_faults hook_now; desks = desks_now }

  abbrev DoneFrom : OutboxState → List ℕ → Type 0
  DoneFrom outbox input = IsServedDone (StatesEveryLayer tree) (trees_of tree) workers beginning listings faults Ends input desks desks_now ((outbox, hook), written) ((outbox_now, hook_now), written_now)

  abbrev WroteFrom : OutboxState → ServeEnd → Type 0
  WroteFrom outbox ended = WroteDone (StatesEveryLayer tree) (trees_of tree) workers beginning listings faults Ends Stops remaining remaining_now desks desks_now ((outbox, hook), written) ((outbox_now, hook_now), written_now) ended

  abbrev Completes : Type 0
  Completes = (input text : List ℕ) → IsServedKept (trees_of tree) workers beginning listings faults Nothing input (Some []) (Some text) desks desks_now tt tt
      → IsServed (trees_of tree) workers listings faults input (Some []) (Some text) desks desks_now

  is_pushed : Completes → (input : List ℕ) → DoneFrom new_outbox input → IsPushed tree workers listings faults input before now outbox_now
  is_pushed complete input h =
      let served : IsServedDone (StatesEveryLayer tree) (trees_of tree) workers beginning listings faults (Pushes tree) input desks desks_now (pushed_by new_outbox before) (pushed_by outbox_now now) =
      served_less (push_of offers hook_faults) (StatesEveryLayer tree) (trees_of tree) workers (Pushes tree) (StopsPushing tree) beginning listings faults desks desks_now ((new_outbox, hook), written) ((outbox_now, hook_now), written_now) input h in
      record {
        served = served;
        pushed = all_pushed tree workers beginning (pushed_by new_outbox before) served.carried.rounds served.carried.after (pushed_by outbox_now now) served.carried.done;
        transcript = complete input (flat_map entry_text (entries_in served.carried.rounds))
            (lines_served tree workers listings faults desks desks_now (Pushes tree) (pushed_by new_outbox before) (pushed_by outbox_now now) input served);
      }

  -- by what it did, from an outbox that took nothing
  pub ends_pushed : (ended : ServeEnd) (outbox : OutboxState) → outbox ≡ new_outbox → Completes → (StatesEveryLayer tree → ended ≡ end.Done → IfSome remaining (DoneFrom outbox))
      → WroteFrom outbox ended → PushEnds tree workers listings faults before now ended
  ends_pushed ended outbox first complete done wrote = record {
    outbox = outbox_now;
    done = λ known is. if_some (DoneFrom new_outbox) (λ bytes. IsPushed tree workers listings faults bytes before now outbox_now) remaining (is_pushed complete)
        (subst (λ (o : OutboxState). IfSome remaining (DoneFrom o)) first (done known is));
    wrote = wrote_less (push_of offers hook_faults) (StatesEveryLayer tree) (trees_of tree) workers (Pushes tree) (StopsPushing tree) beginning listings faults desks desks_now ((new_outbox, hook), written) ((outbox_now, hook_now), written_now)
        remaining remaining_now ended (subst (λ (o : OutboxState). WroteFrom o ended) first wrote);
  }

-- ---- from one function to the next

-- memory ran out, as it is handed on
pub ended_first : {E : Type 0} (Q : E → Type 0) (P : ServeEnd → Type 0) (r : Result ServeEnd E) → IsErrAnd r Q → P end.NoMemory → P (ended_by r)
ended_first Q P (Ok ended) from h = absurd from
ended_first Q P (Err e) from h = h
