use Rattle.std.specs.Prelude.{◌≡◌, ◌+◌, max}
use Rattle.std.proofs.Common.{arith}
use Rattle.cv_tree.proofs.HeightLemmas.{fork_height}
use Rattle.cv_tree.proofs.branch.Branch.of.Goals as goal

pub invariant_of-result : goal.invariant_of-result
invariant_of-result g c =
    let known : c.in_ok-height.height ≡ max c.args.left.height c.args.right.height + 1 = omega (arith, c.in_ok-height.ensures, c.height.ensures.value, c.height-2.ensures.value) in
    rw c.in_ok-new.ensures.ok (record {
      known = known;
      balanced = c.requires.balanced;
      counted = fork_height _ _ _ c.args.left.entries c.args.right.entries (c.args.key, c.args.value) known c.height.ensures.bounds c.height-2.ensures.bounds c.requires.balanced;
    })
