use Rattle.cv_path.proofs.PathFronts.{order_front}
use Rattle.cv_path.proofs.path.RelPath.compare_front.Goals as goal

pub returns-else-depth-eq0 : goal.returns-else-depth-eq0
returns-else-depth-eq0 c =
    rw (c.front_order.ensures, c.as_bytes-text.ensures.value, c.as_bytes.ensures.value)
    (order_front c.args.depth c.text.result.now c.text-else-depth-eq0.result.now c.args.self.now c.args.other.now c.if-depth-eq0.false c.text.ensures.parts c.text-else-depth-eq0.ensures.parts c.text.ensures.accepted c.text-else-depth-eq0.ensures.accepted)
