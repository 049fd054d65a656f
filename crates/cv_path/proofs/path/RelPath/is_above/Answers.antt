use Rattle.cv_path.proofs.PathLemmas.{above_components}
use Rattle.cv_path.proofs.path.RelPath.is_above.Goals as goal

pub returns : goal.returns
returns c =
    rw (c.is_above_text.ensures, c.as_bytes.ensures.value, c.as_bytes-2.ensures.value, ← c.text.ensures.parts, ← c.text-2.ensures.parts)
    (above_components c.text.result.now c.text-2.result.now)
