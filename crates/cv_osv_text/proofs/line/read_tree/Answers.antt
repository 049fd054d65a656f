-- A line is JSON if it is a text, that text is a tree, and the tree's numbers are in range.
use Rattle.std.proofs.Common.{sym}
use Rattle.json.specs.Value.{value_view}
use Rattle.cv_seq.proofs.Utf8.{none_found, text_found}
use Rattle.cv_osv_text.proofs.Data.{json_bytes, json_found, json_number, tree_found}
use Rattle.cv_osv_text.proofs.line.read_tree.Goals as goal

pub returns-in_default : goal.returns-in_default
returns-in_default c = json_bytes c.args.line.now (none_found c.args.line.now c.in_default.ensures.cases.0)

pub returns-then-has_bad_number : goal.returns-then-has_bad_number
returns-then-has_bad_number c =
    json_number c.args.line.now (value_view c.in_ok-tree.tree) (text_found c.args.line.now c.in-Ok.ensures.cases.1)
    (tree_found c.args.line.now c.in-Ok.text.now (value_view c.in_ok-tree.tree) c.in-Ok.ensures.cases.0 c.in_ok-tree.ensures) (sym c.if-has_bad_number.ensures)

pub returns : goal.returns
returns c =
    json_found c.args.line.now (value_view c.in_ok-tree.tree) (text_found c.args.line.now c.in-Ok.ensures.cases.1)
    (tree_found c.args.line.now c.in-Ok.text.now (value_view c.in_ok-tree.tree) c.in-Ok.ensures.cases.0 c.in_ok-tree.ensures) (sym c.if-has_bad_number.ensures)
