use Rattle.std.specs.List.Sorted.{IsStrictlySortedBy}
use Rattle.test_common.proofs.tests.tree.values_are_made_anew_at_a_name.Goals as goal

-- one name is in order
pub remake_at-requires : goal.remake_at-requires
unfolding IsStrictlySortedBy
remake_at-requires g c = record { ascending = (tt, tt) }
