use Rattle.std.proofs.Common.{◌≡◌, ◌≤◌, ◌+◌, drop}
use Rattle.std.specs.List.{sum_by}
use Rattle.cv_core_outcome.specs.Outcome.{outcome_at}
use Rattle.cv_core_inventory.specs.code.Changes.{all_renewed, renew_pairs}
use Rattle.cv_core_inventory.proofs.knowledge.Knowledge.all_renewed.Given as goal

-- the outcomes so far, with those of the remaining images recomputed, are those with all recomputed, and the tries so far, with those
-- of the remaining images, are no more than those of all
abbrev pub invariant-loop-image : goal.invariant-loop-image
invariant-loop-image g l =
    (all_renewed (outcome_at l.facts l.self.feeds.feeds) l.registry.images l.layer l.self.outcomes l.outcomes (drop l.image-index l.images)
    ≡ all_renewed (outcome_at l.facts l.self.feeds.feeds) l.registry.images l.layer l.self.outcomes l.self.outcomes l.images)
    × (l.steps + sum_by (renew_pairs (outcome_at l.facts l.self.feeds.feeds) l.self.feeds.feeds l.registry.images l.layer l.self.outcomes) (drop l.image-index l.images)
    ≤ l.fn.steps + sum_by (renew_pairs (outcome_at l.facts l.self.feeds.feeds) l.self.feeds.feeds l.registry.images l.layer l.self.outcomes) l.images)
