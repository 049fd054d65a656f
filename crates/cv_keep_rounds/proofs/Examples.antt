-- Which records are kept of rounds, by examples.
use Rattle.std.specs.Prelude.{ℕ, List, [], ◌∷◌, replicate, refl}
use Rattle.std.proofs.Common.{arith, inl, inr}
use Rattle.cv_core_records.specs.declared.event.Act.TheVariants as act
use Rattle.cv_core_records.specs.declared.event.By.TheVariants as by
use Rattle.cv_core_records.specs.declared.read.Answer.TheVariants as answer
use Rattle.cv_core_records.specs.declared.reply.Reply.TheVariants as reply
use Rattle.cv_keep_record.specs.Record.{line_event, work_event}
use Rattle.cv_keep_record.specs.declared.event.WorkKind.TheVariants.{Claim}
use Rattle.cv_serve_dealing.specs.Noted.{noted_line}
use Rattle.cv_serve_legal.specs.Whole.{WholeRound, whole_round}
use Rattle.cv_transcript.specs.declared.entry.Entry.{Entry}
use Rattle.cv_transcript.specs.declared.entry.Entry.TheVariants as entry
use Rattle.cv_keep_rounds.specs.Rounds.{AreRecordsOf, IsRecordOf}

abbrev layer : List ℕ
layer = replicate 32 7

-- line 6 is `ho`, and line 7 is `hi`
abbrev lines : List Entry → WholeRound
lines entries = whole_round (noted_line 6 (104 ∷ 111 ∷ []) ∷ noted_line 7 (104 ∷ 105 ∷ []) ∷ []) entries

abbrev read : Entry
read = entry.Read (record { front = 258; lane = 0; line = 6; answer = answer.NoMemory })

-- line 7 of lane 1 is event 258, line 6 a read, and a claim of worker 2 event 259
abbrev round : WholeRound
round = lines (
    entry.Event (record { number = 258; by = by.Lane 1 7; act = act.Ack 3; reply = reply.Acked })
    ∷ read
    ∷ entry.Event (record { number = 259; by = by.Worker 2; act = act.Claim layer; reply = reply.Claimed })
    ∷ []
    )

-- its record has event 258 with the text of line 7, and then event 259
both : IsRecordOf round (0 ∷ 0 ∷ 0 ∷ 0 ∷ 0 ∷ 0 ∷ 1 ∷ 2 ∷ 0 ∷ 1 ∷ 0 ∷ 0 ∷ 0 ∷ 0 ∷ 0 ∷ 0 ∷ 0 ∷ 7 ∷ 0 ∷ 0 ∷ 0 ∷ 2 ∷ 104 ∷ 105
    ∷ 0 ∷ 0 ∷ 0 ∷ 0 ∷ 0 ∷ 0 ∷ 1 ∷ 3 ∷ 1 ∷ 0 ∷ 0 ∷ 0 ∷ 2 ∷ 0 ∷ layer)
both = record {
  events = line_event 258 1 7 (104 ∷ 105 ∷ []) ∷ work_event 259 2 Claim layer ∷ [];
  each = (record { number = refl; by = (104 ∷ 105 ∷ [], inl (1, omega arith, refl), refl) }, (record { number = refl; by = refl }, tt));
  spelled = record {
    some = omega arith;
    fit = (record { number = omega arith; by = (omega arith, omega arith, omega arith) }, (record { number = omega arith; by = (omega arith, refl) }, tt));
    spelled = refl;
  };
}

-- a round of reads has no record
none : AreRecordsOf (lines (read ∷ [])) []
none = inr (refl, refl)
