use Rattle.std.specs.Prelude.{refl}
use Rattle.std.specs.List.Sorted.{IsStrictlySortedBy}
use Rattle.test_common.proofs.tests.tree.values_are_made_anew_at_chosen_keys.Goals as goal

-- the four keys ascend
pub remake_at-requires : goal.remake_at-requires
unfolding IsStrictlySortedBy
remake_at-requires g c = record { ascending = ((refl, (refl, (refl, tt))), ((refl, (refl, tt)), ((refl, tt), (tt, tt)))) }
