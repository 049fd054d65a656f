-- Reports and boards of a core are those of its state.
use Rattle.std.specs.Prelude.{◌≡◌, ℕ, List, Option, Some, None, refl}
use Rattle.std.specs.Option.{option_map}
use Rattle.std.proofs.Common.{ap, subst, sym, ◌∙◌}
use Rattle.cv_desk.specs.Stored.{Stored}
use Rattle.cv_match.specs.Findings.{text_cmp}
use Rattle.cv_core_records.specs.declared.read.ReportOutcome.{ReportOutcome}
use Rattle.cv_core_machine.specs.Answer.{report_of, waiting_for, waiting_in}
use Rattle.cv_core_machine.specs.Board.{BoardView, board_of}
use Rattle.cv_core_machine.specs.Layers.{first_pending}
use Rattle.cv_core_machine.specs.Scans.{Trees}
use Rattle.cv_core_machine.specs.State.{Feeds, Layers, Notifications, State, value_at}
use Rattle.cv_core_machine.specs.declared.image.Image.{Image}
use Rattle.cv_core_outcome.specs.Facts.{pending_layer}
use Rattle.cv_core_outcome.specs.Outcome.{FactTable, outcome_at}
use Rattle.cv_core_outcome.specs.Truth.{AreFactsOf, report_with}
use Rattle.cv_core_outcome.specs.declared.outcome.Outcome.{Outcome}
use Rattle.cv_core_outcome.specs.declared.outcome.Outcome.TheVariants.{Bad, Good, Pending}
use Rattle.cv_core_outcome.proofs.TruthLemmas.{waiting_is}
use Rattle.cv_tree.specs.Entries.{map_values}
use Rattle.cv_tree.proofs.ValueLemmas.{mapped_at}
use Rattle.cv_core_inventory.specs.Knowledge.{AreOutcomesOf, IsOutcomeOf, Outcomes, report_by}
use Rattle.cv_core_inventory.specs.Holdings.{Holdings, holding}
use Rattle.cv_core.specs.Boards.{ShowsWaiting, board_view}
use Rattle.cv_core.specs.Core.{CoreView}
use Rattle.cv_core.proofs.BoardLemmas.{board_report}

-- the report of an image
pub report_core : (trees : Trees) (core : CoreView) (h : Holdings) (generation : ℕ) (image : List ℕ) (found : Option Outcome) (shows : ReportOutcome)
    → holding core.state h ≡ core.state → generation ≡ core.state.generation
    → ((state : State) → report_by state.generation found ≡ report_of trees (holding state h) image) → shows ≡ report_by generation found
    → shows ≡ report_of trees core.state image
report_core trees core h generation image found shows same last known is =
    is ∙ ap (λ n. report_by n found) last ∙ known core.state ∙ ap (λ (s : State). report_of trees s image) same

abbrev with_parts : List (List ℕ × ReportOutcome) → Notifications → BoardView
with_parts reports notices = record { reports = reports; notifications = notices }

-- the board
pub board_core : (trees : Trees) (core : CoreView) (h : Holdings) (generation : ℕ) (outcomes : Outcomes) (notices : Notifications) (board : BoardView)
    → holding core.state h ≡ core.state → generation ≡ core.state.generation → notices ≡ core.state.notifications
    → ((state : State) → map_values (report_with state.generation) outcomes ≡ (board_of trees (holding state h)).reports) → board ≡ board_view outcomes notices generation
    → board ≡ board_of trees core.state
board_core trees core h generation outcomes notices board same last shared known is =
    is ∙ ap (λ n. board_view outcomes notices n) last
    ∙ ap (λ (reports : List (List ℕ × ReportOutcome)). with_parts reports notices) (known core.state ∙ ap (λ (s : State). (board_of trees s).reports) same)
    ∙ ap (with_parts (board_of trees core.state).reports) shared

-- Images that are not registered, or wait for a layer.

waiting_by : (generation : ℕ) (found : Option Outcome) → waiting_in (report_by generation found) ≡ option_map pending_layer found
waiting_by generation None = refl
waiting_by generation (Some (Pending layer)) = refl
waiting_by generation (Some (Bad fault)) = refl
waiting_by generation (Some (Good found matches)) = refl

waiting_same : (tree : List ℕ → Option (Option (List Stored))) (table : Layers) (facts : FactTable) (feeds : Feeds) (found : Option Image) → AreFactsOf tree table facts
    → option_map pending_layer (option_map (outcome_at facts feeds) found) ≡ option_map (λ (kept : Image). first_pending table kept.layers) found
waiting_same tree table facts feeds None are = refl
waiting_same tree table facts feeds (Some image) are = ap Some (waiting_is tree table facts feeds image are)

-- the layer that a report names as pending
pub waiting_core : (tree : List ℕ → Option (Option (List Stored))) (core : CoreView) (h : Holdings) (generation : ℕ) (image : List ℕ) (found : Option Outcome) (shows : ReportOutcome)
    → holding core.state h ≡ core.state → IsOutcomeOf tree h image found → shows ≡ report_by generation found → waiting_in shows ≡ waiting_for core.state image
waiting_core tree core h generation image found shows same known is =
    ap waiting_in is ∙ waiting_by generation found ∙ ap (option_map pending_layer) known.made
    ∙ waiting_same tree h.layers known.facts h.feeds (value_at h.images image) known.right
    ∙ ap (λ (s : State). waiting_for s image) same

one_outcome : (tree : List ℕ → Option (Option (List Stored))) (h : Holdings) (outcomes : Outcomes) (image : List ℕ) → AreOutcomesOf tree h outcomes
    → IsOutcomeOf tree h image (value_at outcomes image)
one_outcome tree h outcomes image known = record {
  facts = known.facts;
  right = known.right;
  made = ap (λ (o : Outcomes). value_at o image) known.made ∙ mapped_at text_cmp (outcome_at known.facts h.feeds) h.images image;
}

-- and those that a board names
pub board_waiting : (tree : List ℕ → Option (Option (List Stored))) (core : CoreView) (h : Holdings) (generation : ℕ) (outcomes : Outcomes) (notices : Notifications) (board : BoardView)
    → holding core.state h ≡ core.state → notices ≡ core.state.notifications → AreOutcomesOf tree h outcomes → board ≡ board_view outcomes notices generation
    → ShowsWaiting core.state board
board_waiting tree core h generation outcomes notices board same shared known is = subst (λ (b : BoardView). ShowsWaiting core.state b) (sym is) (record {
  waiting = λ image.
      waiting_core tree core h generation image (value_at outcomes image) _ same (one_outcome tree h outcomes image known)
      (sym (board_report outcomes generation image (value_at outcomes image) refl));
  notifications = shared;
})
