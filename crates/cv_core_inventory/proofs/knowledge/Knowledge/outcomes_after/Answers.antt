use Rattle.std.proofs.Common.{ℕ, List, ◌++◌, ◌+◌, ◌≤◌, ap, subst, ◌∙◌}
use Rattle.std.specs.List.{flat_map, list_any}
use Rattle.cv_base.specs.InOrder.{in_order}
use Rattle.cv_base.specs.declared.finding.Row.{Row}
use Rattle.cv_base.specs.declared.«package».PackageName.{PackageName}
use Rattle.cv_match.specs.Findings.{text_cmp}
use Rattle.cv_core_machine.specs.State.{value_at}
use Rattle.cv_core_outcome.specs.Update.{rematch_pairs, rematched_by, rows_by}
use Rattle.cv_core_registry.specs.Registrations.{users_of}
use Rattle.cv_tree.specs.Entries.{added_at, cost_at, costs_of, made_at, remade_entries, rows_of}
use Rattle.cv_core_inventory.specs.Knowledge.{KnowledgeView}
use Rattle.cv_core_inventory.specs.code.Names.{has_name}
use Rattle.cv_core_inventory.proofs.NamedLemmas.{order_sorted}
use Rattle.cv_core_inventory.proofs.TouchedLemmas.{added_known, costs_within, made_known}
use Rattle.cv_core_inventory.proofs.knowledge.Knowledge.outcomes_after.Goals as goal

pub remake_at-requires : goal.remake_at-requires
remake_at-requires g c = record { ascending = order_sorted c.deref-2.result.now (flat_map (users_of c.args.registry.now.images) c.deref.result.now) (c.deref-2.ensures.value ∙ c.in_ok-images.ensures) }

pub returns-clause-value : goal.returns-clause-value
returns-clause-value g c =
    let images = c.args.registry.now.images in let laws = c.update_laws.ensures in
    made_known c.names_law.ensures.unlisted laws.again laws.again_rows laws.untouched (record { facts = c.self.inside.facts; outcomes = c.self.inside.outcomes; feeds = c.self.inside.feeds }) c.args.self.now images c.args.feeds.now.feeds
    c.args.touched.now.keys c.in_ok-layers.layers.items c.deref-2.result.now c.self.view_is c.regular_law.ensures.images c.requires.untouched
    (λ layer. c.in_ok-layers.ensures.named layer
    ∙ ap (λ (ks : List PackageName). list_any (λ (key : PackageName). has_name (value_at c.self.inside.facts layer) key.name) ks) c.as_slice-keys.ensures)
    c.requires.made (c.deref-2.ensures.value ∙ c.in_ok-images.ensures ∙ ap (λ (ls : List (List ℕ)). in_order text_cmp (flat_map (users_of images) ls)) c.deref.ensures.value)
    c.in_ok-outcomes.outcomes
    (c.in_ok-outcomes.ensures.value
    ∙ (λ i. remade_entries (made_at text_cmp c.deref-2.result.now (λ _. rematched_by (c.new-maker.ensures.touched i).keys (c.new-maker.ensures.feeds i).feeds)) c.self.inside.outcomes))

pub returns-clause-rows : goal.returns-clause-rows
returns-clause-rows g c =
    let images = c.args.registry.now.images in let laws = c.update_laws.ensures in
    added_known c.names_law.ensures.unlisted laws.again laws.again_rows laws.untouched (record { facts = c.self.inside.facts; outcomes = c.self.inside.outcomes; feeds = c.self.inside.feeds }) c.args.self.now images c.args.feeds.now.feeds
    c.args.touched.now.keys c.in_ok-layers.layers.items c.deref-2.result.now c.self.view_is c.regular_law.ensures.images c.requires.untouched
    (λ layer. c.in_ok-layers.ensures.named layer
    ∙ ap (λ (ks : List PackageName). list_any (λ (key : PackageName). has_name (value_at c.self.inside.facts layer) key.name) ks) c.as_slice-keys.ensures)
    c.requires.made (c.deref-2.ensures.value ∙ c.in_ok-images.ensures ∙ ap (λ (ls : List (List ℕ)). in_order text_cmp (flat_map (users_of images) ls)) c.deref.ensures.value)
    c.args.rows.now.items c.remake_at.new.rows.items
    (c.in_ok-outcomes.ensures.rows
    ∙ ap (λ (added : List Row). c.args.rows.now.items ++ added)
    (λ i. rows_of (added_at text_cmp c.deref-2.result.now (rows_by (c.new-maker.ensures.touched i).keys (c.new-maker.ensures.feeds i).feeds)) c.self.inside.outcomes))

pub returns-in_err-outcomes-clause-counted : goal.returns-in_err-outcomes-clause-counted
returns-in_err-outcomes-clause-counted g c =
    subst (λ (k : KnowledgeView). c.remake_at.new.tally ≤ c.args.steps.now + costs_of (λ _. rematch_pairs c.args.touched.now.keys c.args.feeds.now.feeds) k.outcomes) c.self.view_is
    (costs_within c.deref-2.result.now (λ _. rematch_pairs c.args.touched.now.keys c.args.feeds.now.feeds) c.self.inside.outcomes c.args.steps.now c.remake_at.new.tally
    (subst (λ (n : ℕ). c.remake_at.new.tally ≤ c.args.steps.now + n)
    (λ i. costs_of (cost_at text_cmp c.deref-2.result.now (λ _. rematch_pairs (c.new-maker.ensures.touched i).keys (c.new-maker.ensures.feeds i).feeds)) c.self.inside.outcomes)
    c.remake_at.ensures.counted))

pub returns-clause-counted : goal.returns-clause-counted
returns-clause-counted g c =
    subst (λ (k : KnowledgeView). c.remake_at.new.tally ≤ c.args.steps.now + costs_of (λ _. rematch_pairs c.args.touched.now.keys c.args.feeds.now.feeds) k.outcomes) c.self.view_is
    (costs_within c.deref-2.result.now (λ _. rematch_pairs c.args.touched.now.keys c.args.feeds.now.feeds) c.self.inside.outcomes c.args.steps.now c.remake_at.new.tally
    (subst (λ (n : ℕ). c.remake_at.new.tally ≤ c.args.steps.now + n)
    (λ i. costs_of (cost_at text_cmp c.deref-2.result.now (λ _. rematch_pairs (c.new-maker.ensures.touched i).keys (c.new-maker.ensures.feeds i).feeds)) c.self.inside.outcomes)
    c.remake_at.ensures.counted))
