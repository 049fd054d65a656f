-- A member of a tree is that of its value.
use Rattle.json.specs.Value.{value_view}
use Rattle.cv_osv_text.proofs.Data.{member_found}
use Rattle.cv_osv_text.proofs.node.ValueNodeSharedTexts.member.Goals as goal

pub returns : goal.returns
returns c = member_found c.args.name.now (value_view c.args.self.now) c.get.result c.get.ensures
