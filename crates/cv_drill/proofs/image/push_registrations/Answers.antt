use Rattle.std.proofs.Common.{ap, string_bytes}
use Rattle.cv_drill.specs.Images.{register_data}
use Rattle.cv_drill.specs.Lines.{json_text}
use Rattle.cv_drill.proofs.Lists.{line_pushed}
use Rattle.cv_drill.proofs.image.push_registrations.Goals as goal

pub loop-index-preserved : goal.loop-index-preserved
loop-index-preserved c =
    line_pushed (λ i. json_text (register_data c.args.offset i)) c.loop-index.index (string_bytes c.args.text.now) _ _ _
    c.loop-index.invariant (ap json_text c.in_ok-request.ensures) c.in_ok-push_value.ensures
