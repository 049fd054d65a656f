-- What a service did that pushes (defined by this project): what a service does, and after the lines of each round the attempts of a hook.
-- The output without the lines of the attempts is what a service writes.
use Rattle.std.specs.Prelude.{◌≡◌, ℕ, ◌^◌, List, [], Option, Some, IfSome}
use Rattle.std.specs.Io.KnownBytes.{IsAtEnd}
use Rattle.std.specs.List.{flat_map}
use Rattle.cv_transcript.specs.Entry.{entry_text}
use Rattle.cv_core_machine.specs.Scans.{StatesEveryLayer, trees_of}
use Rattle.cv_hook.specs.Attempts.{OutboxState, new_outbox}
use Rattle.cv_hook.specs.declared.offer.Offer.{Offer}
use Rattle.cv_hub_seats.specs.Events.{DeskTrees}
use Rattle.cv_scan_input.specs.Taken.{IsTaken, IsTakenWithin}
use Rattle.cv_serve_legal.specs.Replay.{beginning}
use Rattle.cv_serve_legal.specs.Whole.{entries_in}
use Rattle.cv_serve_round.specs.Written.{WithBytes}
use Rattle.cv_serve.specs.Done.{IsServedDone, WroteDone}
use Rattle.cv_serve.specs.Served.{FitsInput, IsServed, TakesUpTo}
use Rattle.cv_serve.specs.declared.end.ServeEnd.{ServeEnd}
use Rattle.cv_serve.specs.declared.end.ServeEnd.TheVariants as end
use Rattle.cv_serve_pushed.specs.Pushes.{PushState, Pushes, StopsPushing}
use Rattle.cv_serve_pushed.specs.Rounds.{ArePushed}

-- what a push reads, writes and counts: the input that remains, the output, the hook's offers and the count of its faults, and the desks of
-- the workers
pub record PushWorld (D : Type 0) : Type 0 where
  pub remaining : Option (List ℕ)
  pub written : Option (List ℕ)
  pub offers : Option (List Offer)
  pub faults : ℕ
  pub desks : List D

-- what a push has with this outbox, with the bytes written
abbrev pub pushed_by : {D : Type 0} → OutboxState → PushWorld D → WithBytes PushState
pushed_by outbox world = (record { outbox = outbox; offers = world.offers; faults = world.faults }, world.written)

-- The input was served to its end, and the attempts of each round followed its lines: the output has the lines of the rounds, and after each
-- round those of its attempts. Without these it is a legal transcript of the input, and if no desk failed and no worker ran out of memory,
-- it is complete
pub record IsPushed {D : Type 0} (tree : DeskTrees) (workers : ℕ) (listings faults : D → ℕ) (input : List ℕ) (before now : PushWorld D) (outbox : OutboxState) : Type 0 where
  pub served : IsServedDone (StatesEveryLayer tree) (trees_of tree) workers beginning listings faults (Pushes tree) input before.desks now.desks (pushed_by new_outbox before) (pushed_by outbox now)
  pub pushed : ArePushed tree workers beginning (pushed_by new_outbox before) served.carried.rounds served.carried.after (pushed_by outbox now)
  pub transcript : IsServed (trees_of tree) workers listings faults input (Some []) (Some (flat_map entry_text (entries_in served.carried.rounds))) before.desks now.desks

-- what each end says. Before the first round nothing was taken, and each round goes on with the outbox of the one before it
pub record PushEnds {D : Type 0} (tree : DeskTrees) (workers : ℕ) (listings faults : D → ℕ) (before now : PushWorld D) (ended : ServeEnd) : Type 0 where
  pub outbox : OutboxState
  pub done : StatesEveryLayer tree → ended ≡ end.Done → IfSome before.remaining (λ bytes. IsPushed tree workers listings faults bytes before now outbox)
  pub wrote : WroteDone (StatesEveryLayer tree) (trees_of tree) workers beginning listings faults (Pushes tree) (StopsPushing tree) before.remaining now.remaining
      before.desks now.desks (pushed_by new_outbox before) (pushed_by outbox now) ended

-- what an end says of the bytes that were taken of the input, as that of a service does
pub record ReadsInput (before now : Option (List ℕ)) (ended : ServeEnd) : Type 0 where
  pub to_end : ended ≡ end.Done → IsAtEnd now
  pub fits : FitsInput before ended
  pub front : TakesUpTo before now ended
  pub limit : IsTakenWithin (2 ^ 36) before now
  pub taken : ended ≡ end.InputTooLong → IsTaken (2 ^ 36) before now
