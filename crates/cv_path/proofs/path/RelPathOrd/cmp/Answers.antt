use Rattle.cv_path.proofs.PathFronts.{order_paths}
use Rattle.cv_path.proofs.path.RelPathOrd.cmp.Goals as goal

pub returns : goal.returns
returns c =
    rw (c.text_order.ensures, c.as_bytes.ensures.value, c.as_bytes-2.ensures.value)
    (order_paths c.text.result.now c.text-2.result.now c.args.self.now c.args.other.now c.text.ensures.parts c.text-2.ensures.parts c.text.ensures.accepted c.text-2.ensures.accepted)
