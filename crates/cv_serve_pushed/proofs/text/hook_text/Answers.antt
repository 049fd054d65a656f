use Rattle.cv_transcript.proofs.Tags.{on_ok}
use Rattle.cv_serve_pushed.proofs.TextLemmas.{untagged_read}
use Rattle.cv_serve_pushed.proofs.text.hook_text.Goals as goal

pub returns-clause-untagged : goal.returns-clause-untagged
returns-clause-untagged c = on_ok c.ended.result _ (untagged_read _ c.args.line.now c.in_ok-value.ensures c.in_ok-json_of.ensures.reads_back)
