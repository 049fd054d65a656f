-- Threads may share a core, a plan and a board, if they may share the desk. Each part has a lemma: a search over a whole type gives up.
use denote.RattleType.{RattleType}
use denote.Param.Send.{IsSend, IsSync, sendable}
use denote.Param.SendFields.{declared_send, declared_sync}
use Rattle.std.proofs.Crossing.{crosses}
use Rattle.std.specs.declared.cmp.Ord as order
use Rattle.std.specs.declared.cmp.PartialEq as equality
use Rattle.std.specs.declared.cmp.PartialOrd as partial_order
use Rattle.cv_seq.proofs.seq.Seq.TheSendSync as seq
use Rattle.cv_seq.proofs.text.Text.TheSendSync as text
use Rattle.cv_base.proofs.digest.Digest.TheSendSync as digest
use Rattle.cv_tree.proofs.branch.Branch.TheLaws.TheKnot as nodes
use Rattle.cv_tree.proofs.share.Shared.TheSendSync as shared
use Rattle.cv_tree.specs.contracts.branch.Branch as branch
use Rattle.cv_tree.specs.contracts.tree.Tree as tree
use Rattle.cv_advdb.proofs.Crossing.{feeds_send, feeds_sync}
use Rattle.cv_desk.specs.declared.desk.Desk as desk
use Rattle.cv_facts.proofs.facts.LayerFacts.TheSendSync as facts
use Rattle.cv_core_outcome.proofs.outcome.Outcome.TheSendSync as outcome
use Rattle.cv_notice.proofs.notices.Notices.TheSendSync as notices
use Rattle.cv_core_records.proofs.reply.Reply.TheSendSync as reply
use Rattle.cv_core_machine.proofs.image.Image.TheSendSync as image
use Rattle.cv_core_registry.proofs.layer_status.LayerStatus.TheSendSync as layer_status
use Rattle.cv_core_registry.specs.contracts.layer_table.LayerTable as layer_table
use Rattle.cv_core_registry.specs.contracts.registry.Registry as registry
use Rattle.cv_core_inventory.specs.contracts.facts.Facts as known
use Rattle.cv_core_inventory.specs.contracts.knowledge.Knowledge as knowledge
use Rattle.cv_core_inventory.specs.contracts.inventory.Inventory as inventory
use Rattle.cv_core.specs.contracts.board.Board as board
use Rattle.cv_core.specs.contracts.machine.Core as core
use Rattle.cv_core.specs.contracts.plan.Planned as planned

-- a tree's nodes are shared, so each law asks both of the keys and of the values
module _ (K V : RattleType) where
  branch_send : IsSend K → IsSync K → IsSend V → IsSync V → IsSend (branch.the_row K V)
  branch_send ks ky vs vy = search (nodes.crosses, crosses, sendable) depth 60 fits 20000

  branch_sync : IsSend K → IsSync K → IsSend V → IsSync V → IsSync (branch.the_row K V)
  branch_sync ks ky vs vy = search (nodes.crosses, crosses, sendable) depth 60 fits 20000

  module _ (o : order.Ghosts K.Denot) (e : equality.Ghosts K.Denot) (p : partial_order.Ghosts K.Denot) where
    pub tree_send : IsSend K → IsSync K → IsSend V → IsSync V → IsSend (tree.the_row K V o e p)
    tree_send ks ky vs vy = search (branch_send, sendable, declared_send) depth 30 fits 5000

    pub tree_sync : IsSend K → IsSync K → IsSend V → IsSync V → IsSync (tree.the_row K V o e p)
    tree_sync ks ky vs vy = search (branch_sync, sendable, declared_sync) depth 30 fits 5000

-- what a core is made of, down to the types of the crates below
ruleset small = (
  tree_send,
  tree_sync,
  shared.the_send,
  shared.the_sync,
  seq.the_send,
  seq.the_sync,
  text.the_send,
  text.the_sync,
  digest.the_send,
  digest.the_sync,
)

-- the layers with their status
layers_send : IsSend layer_table.the_row
layers_send = search (layer_status.the_send, layer_status.the_sync, small, sendable, declared_send) depth 30 fits 5000

layers_sync : IsSync layer_table.the_row
layers_sync = search (layer_status.the_send, layer_status.the_sync, small, sendable, declared_sync) depth 30 fits 5000

-- the images with their layers and seals
registry_send : IsSend registry.the_row
registry_send = search (image.the_send, image.the_sync, layers_send, small, sendable, declared_send) depth 30 fits 5000

registry_sync : IsSync registry.the_row
registry_sync = search (image.the_send, image.the_sync, layers_sync, small, sendable, declared_sync) depth 30 fits 5000

-- the core, and what it gives
ruleset parts = (feeds_send, feeds_sync, outcome.the_send, outcome.the_sync, notices.the_send, notices.the_sync, facts.the_send, facts.the_sync, small)

module _ (D : RattleType) (g : desk.Ghosts D.Denot) where
  known_send : IsSend D → IsSync D → IsSend (known.the_row D g)
  known_send s y = search (parts, sendable, declared_send) depth 30 fits 5000

  known_sync : IsSend D → IsSync D → IsSync (known.the_row D g)
  known_sync s y = search (parts, sendable, declared_sync) depth 30 fits 5000

  knowledge_send : IsSend D → IsSync D → IsSend (knowledge.the_row D g)
  knowledge_send s y = search (known_send, parts, sendable, declared_send) depth 30 fits 5000

  knowledge_sync : IsSend D → IsSync D → IsSync (knowledge.the_row D g)
  knowledge_sync s y = search (known_sync, parts, sendable, declared_sync) depth 30 fits 5000

  inventory_send : IsSend D → IsSync D → IsSend (inventory.the_row D g)
  inventory_send s y = search (registry_send, knowledge_send, sendable, declared_send) depth 30 fits 5000

  inventory_sync : IsSend D → IsSync D → IsSync (inventory.the_row D g)
  inventory_sync s y = search (registry_sync, knowledge_sync, sendable, declared_sync) depth 30 fits 5000

  pub core_send : IsSend D → IsSync D → IsSend (core.the_row D g)
  core_send s y = search (inventory_send, parts, sendable, declared_send) depth 30 fits 5000

  pub core_sync : IsSend D → IsSync D → IsSync (core.the_row D g)
  core_sync s y = search (inventory_sync, parts, sendable, declared_sync) depth 30 fits 5000

  pub planned_send : IsSend D → IsSync D → IsSend (planned.the_row D g)
  planned_send s y = search (core_send, reply.the_send, sendable, declared_send) depth 30 fits 5000

  pub planned_sync : IsSend D → IsSync D → IsSync (planned.the_row D g)
  planned_sync s y = search (core_sync, reply.the_sync, sendable, declared_sync) depth 30 fits 5000

pub board_send : IsSend board.the_row
board_send = search (parts, sendable, declared_send) depth 30 fits 5000

pub board_sync : IsSync board.the_row
board_sync = search (parts, sendable, declared_sync) depth 30 fits 5000
