-- The entries of one round (defined by this project).
use Rattle.std.specs.Prelude.{◌≡◌, ⊤, ℕ, List, [], ◌∷◌, ◌++◌, None}
use Rattle.std.specs.List.{AllByRecursion, AllZip}
use Rattle.cv_core_records.specs.declared.read.ReadEntry.{ReadEntry}
use Rattle.cv_transcript.specs.Order.{PrecedesByLane, events_of}
use Rattle.cv_transcript.specs.declared.entry.Entry.{Entry}
use Rattle.cv_transcript.specs.declared.entry.Entry.TheVariants as entry
use Rattle.cv_core_machine.specs.Layers.{queued}
use Rattle.cv_core_machine.specs.Scans.{Trees}
use Rattle.cv_serve_legal.specs.Parts.{claims_of, events_by, lines_answered, times}
use Rattle.cv_serve_legal.specs.Replay.{Moment, Replays}
use Rattle.cv_serve_legal.specs.Rounds.{Round}
use Rattle.cv_serve_legal.specs.ParsedLine.{IsTaken, lines_requested, refusals, requests}
use Rattle.cv_serve_legal.specs.declared.parsed_line.ParsedLine.{ParsedLine}
use Rattle.cv_serve_legal.specs.Turns.{ClaimsBelow, Works}

-- of two reads with one front the one of the lower lane stands first, and of one lane that of the lower line
abbrev pub ReadsBefore : ReadEntry → ReadEntry → Type 0
ReadsBefore first second = first.front ≡ second.front → PrecedesByLane first second

-- one entry stands before another
abbrev pub StandsBefore : Entry → Entry → Type 0
StandsBefore (entry.Read first) (entry.Read second) = ReadsBefore first second
StandsBefore first second = ⊤

-- each entry stands before all after it
abbrev pub AreReadsOrdered : List Entry → Type 0
AreReadsOrdered [] = ⊤
AreReadsOrdered (first ∷ later) = AllByRecursion (StandsBefore first) later × AreReadsOrdered later

-- the entries of a round with these lines, from the moment before it to the one after it, with this number of workers
pub record IsLegalRound (trees : Trees) (workers : ℕ) (before : Moment) (lines : Round) (entries : List Entry) (after : Moment) : Type 0 where
  -- what becomes of each line
  pub taken : List ParsedLine
  pub answers : AllZip IsTaken lines taken
  -- the refused lines stand first, in input order, and then all others
  pub others : List Entry
  pub parts : entries ≡ refusals taken ++ others
  -- the others are one history of the machine
  pub replays : Replays trees (requests taken) before others after
  pub ordered : AreReadsOrdered others
  -- each line that is not refused has one entry, and those of a lane stand in input order. This holds for every lane, also for
  -- those that no request has, so there are no further entries of lanes
  pub lanes : (lane : ℕ) → lines_answered lane others ≡ lines_requested lane (requests taken)
  -- each layer that is Queued as the round begins has one claim line, and no other layer has one
  pub claims : (layer : List ℕ) → times layer (claims_of (events_of others)) ≡ times layer (queued before.state.layers)
  pub claimers : AllByRecursion (λ event. ClaimsBelow workers event.by event.act) (events_of others)
  -- each worker ends what it claimed before it claims again, and within the round
  pub works : (worker : ℕ) → Works None (events_by worker (events_of others)) None
