-- The definitions, on small transcripts and states.
use Rattle.std.specs.Prelude.{◌≡◌, ℕ, true, false, List, [], ◌∷◌, ◌++◌, codes, None, refl}
use Rattle.std.specs.List.{list_any}
use Rattle.std.proofs.Common.{ap}
use Rattle.cv_base.specs.declared.manifest.Manifest.{Manifest}
use Rattle.cv_core_records.specs.declared.event.Act.TheVariants as name
use Rattle.cv_core_records.specs.declared.event.By.TheVariants as by
use Rattle.cv_core_records.specs.declared.read.Answer.TheVariants as answer
use Rattle.cv_core_records.specs.declared.read.ReadEntry.{ReadEntry}
use Rattle.cv_core_records.specs.declared.read.ReportOutcome.TheVariants as report
use Rattle.cv_core_records.specs.declared.reply.Reply.{Reply}
use Rattle.cv_core_records.specs.declared.reply.Reply.TheVariants as reply
use Rattle.cv_request.specs.declared.error.RequestError.{RequestError}
use Rattle.cv_transcript.specs.declared.entry.Entry.{Entry}
use Rattle.cv_transcript.specs.declared.entry.Entry.TheVariants as entry
use Rattle.cv_core_machine.specs.History.{state_after}
use Rattle.cv_core_machine.specs.State.{State}
use Rattle.cv_core_machine.specs.declared.event.MachineEvent.{MachineEvent}
use Rattle.cv_core_machine.specs.declared.event.MachineEvent.TheVariants as act
use Rattle.cv_serve_legal.specs.Replay.{beginning}
use Rattle.cv_serve_legal.specs.Complete.{AreAllIndexed, ArePendingRecent, HasNoFault, IsPendingRecent, registers}

-- an image, and its only layer
abbrev image : List ℕ
image = codes "i"

abbrev layer : List ℕ
layer = codes "l"

-- it is registered, with this reply
abbrev register : Reply → Entry
register said = entry.Event (record { number = 1; by = by.Lane 0 1; act = name.Register image; reply = said })

-- a report of it is pending
abbrev read : ReadEntry
read = record { front = 1; lane = 0; line = 2; answer = answer.Report image (report.Pending layer) }

-- an image is registered by the reply Registered, and by no other
one_reply : (registers image (register reply.Registered) ≡ true) × (registers image (register reply.Already) ≡ false)
    × (registers image (register reply.TooManyImages) ≡ false)
one_reply = (refl, refl, refl)

-- a report is not pending before the image is registered
too_early : IsPendingRecent [] (entry.Read read ∷ register reply.Registered ∷ []) → ⊥
too_early h = absurd (cc (h [] (register reply.Registered ∷ []) read image layer refl refl))

-- nor two rounds later
too_late : ArePendingRecent [] ((register reply.Registered ∷ []) ∷ [] ∷ (entry.Read read ∷ []) ∷ []) → ⊥
too_late h = absurd (cc (h.1.1.0 [] [] read image layer refl refl))

no_read : (front back : List Entry) (other : ReadEntry) → [] ≡ front ++ entry.Read other ∷ back → ⊥
no_read [] back other is = absurd (cc is)
no_read (first ∷ front) back other is = absurd (cc is)

registers_alone : IsPendingRecent [] (register reply.Registered ∷ [])
registers_alone [] back other image layer is says = absurd (cc is)
registers_alone (first ∷ front) back other image layer is says = absurd (no_read front back other (cc is))

-- in the next round it may be
read_next : IsPendingRecent (register reply.Registered ∷ []) (entry.Read read ∷ [])
read_next [] back other one waits is says = ap (λ k. list_any (registers k) (register reply.Registered ∷ [])) same_image where
  same_image : one ≡ image
  same_image = cc (is, says)
read_next (first ∷ front) back other one waits is says = absurd (no_read front back other (cc is))

in_time : ArePendingRecent [] ((register reply.Registered ∷ []) ∷ (entry.Read read ∷ []) ∷ [])
in_time = (registers_alone, (read_next, tt))

-- ---- layers

-- the state after these events
abbrev after : List MachineEvent → State
after acts = state_after (λ digest. None) beginning.state acts

abbrev manifest : Manifest
manifest = record { hash = image; layers = layer ∷ []; seals = None ∷ [] }

-- a layer that is registered is not Indexed, nor is one that is claimed
waits : (AreAllIndexed (after (act.Register manifest ∷ [])) → ⊥) × (AreAllIndexed (after (act.Register manifest ∷ act.Claim layer 0 ∷ [])) → ⊥)
waits = (λ h. absurd (cc h.0.0), λ h. absurd (cc h.0.0))

-- it is once it was indexed, and not after a fault
indexed : AreAllIndexed (after (act.Register manifest ∷ act.Claim layer 0 ∷ act.Indexed layer 0 ∷ []))
indexed = ((refl, tt), tt)

given_back : AreAllIndexed (after (act.Register manifest ∷ act.Claim layer 0 ∷ act.Fault layer 0 ∷ [])) → ⊥
given_back h = absurd (cc h.0.0)

-- a claim is no fault, and what a worker gives back is one, whatever is replied
faults : HasNoFault (entry.Event (record { number = 2; by = by.Worker 0; act = name.Claim layer; reply = reply.Claimed }) ∷ [])
    × (HasNoFault (entry.Event (record { number = 2; by = by.Worker 0; act = name.Memory layer; reply = reply.Discarded }) ∷ []) → ⊥)
faults = (refl, λ h. absurd (cc h))

-- a line that says that memory ran out is no fault, as it changes nothing
out_of_memory : (line : ℕ) (error : RequestError)
    → HasNoFault (entry.Refused line error ∷ entry.Read (record { front = 0; lane = 0; line = 1; answer = answer.NoMemory }) ∷ [])
out_of_memory line error = refl
