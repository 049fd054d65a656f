use Rattle.std.proofs.Common.{rules, ◌∙◌}
use Rattle.cv_path.proofs.PathEnds.{beside_long, beside_ok, beside_path}
use Rattle.cv_path.proofs.path.RelPath.with_file_name.Goals as goal

pub returns-then-is_too_long : goal.returns-then-is_too_long
returns-then-is_too_long c =
    beside_long c.parent_text.result.now c.args.name.now c.args.self.now c.as_str.result.now c.parent_text.ensures.parts (search rules) (c.as_str.ensures.value ∙ c.in_ok-text.ensures) (search rules)

pub invariant_of-result : goal.invariant_of-result
invariant_of-result c =
    rw c.in_ok-of.ensures
    (beside_path c.parent_text.result.now c.args.name.now c.args.self.now c.as_str-2.result.now c.parent_text.ensures.parts c.parent_text.ensures.accepted (search rules) (c.as_str-2.ensures.value ∙ c.in_ok-text.ensures) (search rules))

pub returns : goal.returns
returns c =
    rw c.in_ok-of.ensures
    (beside_ok c.parent_text.result.now c.args.name.now c.args.self.now c.as_str-2.result.now c.parent_text.ensures.parts (search rules) (c.as_str-2.ensures.value ∙ c.in_ok-text.ensures) (search rules))
