use Rattle.cv_transcript.proofs.Tags.{tag_of_entry}
use Rattle.cv_transcript.proofs.tag.tag_laws.Goals as goal

pub returns : goal.returns
returns c = tag_of_entry
