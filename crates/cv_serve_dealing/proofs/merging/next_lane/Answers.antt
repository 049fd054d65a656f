use Rattle.cv_serve_dealing.proofs.MergeLemmas.{found_first}
use Rattle.cv_serve_dealing.proofs.merging.next_lane.Goals as goal

pub loop-lane-init : goal.loop-lane-init
loop-lane-init c = record { value = found_first _; within = tt }
