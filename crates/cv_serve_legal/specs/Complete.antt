-- What a service has done whose workers give no layer back (defined by this project): which layers are Indexed at its end, and of
-- which images a report may be pending.
use Rattle.std.specs.Prelude.{◌≡◌, ⊤, ℕ, ◌⊎◌, Bool, true, false, List, [], ◌∷◌, ◌++◌, Some}
use Rattle.std.specs.List.{AllByRecursion, flat_map, list_any}
use Rattle.cv_base.specs.Texts.{same}
use Rattle.cv_core_records.specs.declared.event.Act.{Act}
use Rattle.cv_core_records.specs.declared.event.Act.TheVariants as name
use Rattle.cv_core_records.specs.declared.read.Answer.TheVariants as answer
use Rattle.cv_core_records.specs.declared.read.ReadEntry.{ReadEntry}
use Rattle.cv_core_records.specs.declared.read.ReportOutcome.TheVariants as report
use Rattle.cv_core_records.specs.declared.reply.Reply.{Reply}
use Rattle.cv_core_records.specs.declared.reply.Reply.TheVariants as reply
use Rattle.cv_transcript.specs.declared.entry.Entry.{Entry}
use Rattle.cv_transcript.specs.declared.entry.Entry.TheVariants as entry
use Rattle.cv_core_machine.specs.Scans.{Trees}
use Rattle.cv_core_machine.specs.State.{State, value_at}
use Rattle.cv_core_machine.specs.declared.image.Image.{Image}
use Rattle.cv_core_machine.specs.declared.status.Status.TheVariants as status
use Rattle.cv_serve_legal.specs.Replay.{Moment}
use Rattle.cv_serve_legal.specs.Round.{IsLegalRound}
use Rattle.cv_serve_legal.specs.Rounds.{Round}

-- ---- faults

-- a worker gives a layer back
abbrev pub gives_back : Act → Bool
gives_back (name.Fault layer) = true
gives_back (name.Memory layer) = true
gives_back act = false

-- an entry is a `fault` or a `memory`
abbrev pub is_fault : Entry → Bool
is_fault (entry.Refused line error) = false
is_fault (entry.Event event) = gives_back event.act
is_fault (entry.Read read) = false

-- none of these entries is a `fault` or a `memory`
abbrev pub HasNoFault : List Entry → Type 0
HasNoFault entries = list_any is_fault entries ≡ false

-- ---- layers

-- each layer of each registered image is Indexed
abbrev pub AreAllIndexed : State → Type 0
AreAllIndexed state =
    AllByRecursion (λ (image : List ℕ × Image). AllByRecursion (λ layer. value_at state.layers layer ≡ Some status.Indexed) image.1.layers) state.images

-- ---- pending reports

-- an event registers this image
abbrev pub registers_by : List ℕ → Act → Reply → Bool
registers_by image (name.Register other) reply.Registered = same other image
registers_by image act answer = false

-- an entry registers this image
abbrev pub registers : List ℕ → Entry → Bool
registers image (entry.Refused line error) = false
registers image (entry.Event event) = registers_by image event.act event.reply
registers image (entry.Read read) = false

-- one of these entries registers the image
abbrev pub IsRegisteredIn : List ℕ → List Entry → Type 0
IsRegisteredIn image entries = list_any (registers image) entries ≡ true

-- a report among the entries of a round is pending only for an image that is registered before it, in this round or among the
-- entries of the earlier one
abbrev pub IsPendingRecent : List Entry → List Entry → Type 0
IsPendingRecent earlier entries =
    (front back : List Entry) (read : ReadEntry) (image layer : List ℕ) → entries ≡ front ++ entry.Read read ∷ back
    → read.answer ≡ answer.Report image (report.Pending layer) → IsRegisteredIn image (earlier ++ front)

-- the same of each round, by the entries of rounds, one after the other, and those of the round before them
abbrev pub ArePendingRecent : List Entry → List (List Entry) → Type 0
ArePendingRecent earlier [] = ⊤
ArePendingRecent earlier (entries ∷ later) = IsPendingRecent earlier entries × ArePendingRecent entries later

-- ---- rounds

-- these are the entries of each of these rounds, from one moment to another
abbrev pub AreRoundEntries : Trees → ℕ → Moment → List Round → List (List Entry) → Moment → Type 0
AreRoundEntries trees workers before [] [] after = after ≡ before
AreRoundEntries trees workers before [] (entries ∷ later) after = ⊥
AreRoundEntries trees workers before (round ∷ rounds) [] after = ⊥
AreRoundEntries trees workers before (round ∷ rounds) (entries ∷ later) after =
    (between : Moment) × IsLegalRound trees workers before round entries between × AreRoundEntries trees workers between rounds later after

-- entries are divided into those of each of these rounds, and those of a further one without lines, if there is one
pub record AreDivided (trees : Trees) (workers : ℕ) (before : Moment) (rounds : List Round) (entries : List Entry) (after : Moment) : Type 0 where
  pub further : List Round
  pub one : (further ≡ []) ⊎ (further ≡ [] ∷ [])
  pub parts : List (List Entry)
  pub joined : entries ≡ flat_map (λ part. part) parts
  pub legal : AreRoundEntries trees workers before (rounds ++ further) parts after
