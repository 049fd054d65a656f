use Rattle.cv_transcript.proofs.Plain.{entry_plain}
use Rattle.cv_transcript.proofs.Tags.{on_ok, tag_read}
use Rattle.cv_transcript.proofs.entry.entry_line.Goals as goal

pub json_of-requires : goal.json_of-requires
json_of-requires c = rw c.in_ok-value.ensures (entry_plain c.args.entry.now).0

pub returns-clause-tag : goal.returns-clause-tag
returns-clause-tag c = on_ok c.ended.result _ (tag_read _ c.args.entry.now c.in_ok-value.ensures c.in_ok-json_of.ensures.reads_back)
