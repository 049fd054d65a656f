use Rattle.std.proofs.Common.{◌≡◌, string_bytes}
use Rattle.std.specs.BTreeMap.{get}
use Rattle.std.specs.Cmp.Lexicographic.{slice_cmp}
use Rattle.std.specs.List.{filter_map}
use Rattle.std.specs.Ordering.{nat_cmp}
use Rattle.cv_base.specs.Digest.{digest_text}
use Rattle.cv_drill.specs.Images.{image}
use Rattle.cv_drill.specs.Lines.{lines_text, numbers}
use Rattle.cv_drill.proofs.report.lines_by_image.Given as goal

-- the text has the lines of the images so far
abbrev pub invariant-loop-index : goal.invariant-loop-index
invariant-loop-index l = string_bytes l.text ≡ lines_text (filter_map (λ i. get (slice_cmp nat_cmp) l.reports (digest_text (image i))) (numbers l.index))
