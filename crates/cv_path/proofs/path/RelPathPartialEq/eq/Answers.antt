use Rattle.std.proofs.Common.{sym}
use Rattle.std.specs.Cmp.Lexicographic.{slice_cmp, lists_ties, texts_ties}
use Rattle.std.specs.Ordering.{nat_cmp}
use Rattle.cv_path.proofs.path.RelPathPartialEq.eq.Goals as goal

pub returns : goal.returns
returns c = rw (c.is_eq.ensures, c.cmp.ensures) (sym (lists_ties (slice_cmp nat_cmp) texts_ties c.args.self.now c.args.other.now))
