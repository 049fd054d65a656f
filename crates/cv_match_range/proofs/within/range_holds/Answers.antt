use Rattle.cv_match_range.proofs.within.range_holds.Goals as goal

pub returns-in-Some : goal.returns-in-Some
returns-in-Some g c = rw c.in-Some.is (rw c.as_slice.ensures at c.holds.ensures)
