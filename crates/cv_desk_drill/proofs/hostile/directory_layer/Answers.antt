use Rattle.cv_desk_drill.specs.code.HostileLaws.{more_directories}
use Rattle.cv_desk_drill.proofs.hostile.directory_layer.Goals as goal

pub loop-depth-preserved : goal.loop-depth-preserved
loop-depth-preserved c =
    rw (c.in_ok-push_directory.ensures, c.as_str.ensures.value, c.in_ok-text.ensures, c.loop-depth.invariant) (more_directories _)
