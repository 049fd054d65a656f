use Rattle.cv_desk_drill.specs.code.HostileLaws.{more_files}
use Rattle.cv_desk_drill.proofs.hostile.file_layer.Goals as goal

pub loop-number-preserved : goal.loop-number-preserved
loop-number-preserved c =
    rw (c.in_ok-push_file.ensures, c.as_str.ensures.value, c.in_ok-name.ensures, c.new.ensures.bytes, c.loop-number.invariant) (more_files _)
