-- A board answers as its state does.
use Rattle.std.specs.Prelude.{◌≡◌, ℕ, Bool, true, false, cond, List, [], ◌∷◌, map, Option, Some, None, Ok, Err, unwrap_or, refl}
use Rattle.std.specs.BTreeMap.{is_at}
use Rattle.std.specs.Option.{option_map}
use Rattle.std.proofs.Common.{ap, ◌∙◌}
use Rattle.cv_match.specs.Findings.{text_cmp}
use Rattle.cv_core_records.specs.declared.read.Answer.TheVariants as answer
use Rattle.cv_core_records.specs.declared.read.ReportOutcome.TheVariants as report
use Rattle.cv_scan.specs.Scan.{Scanned}
use Rattle.cv_core_machine.specs.Answer.{Heads, Page, Read, Report, answer_to, pending_report, report_at, waiting_in}
use Rattle.cv_core_machine.specs.Board.{board_answer, board_of}
use Rattle.cv_core_machine.specs.Layers.{first_pending}
use Rattle.cv_core_machine.specs.Scans.{Trees, image_scan}
use Rattle.cv_core_machine.specs.State.{State, value_at}
use Rattle.cv_core_machine.specs.declared.image.Image.{Image}

-- what is found where each value became another one
found_mapped : {V W : Type 0} (f : V → W) (entries : List (List ℕ × V)) (key : List ℕ)
    → value_at (map (λ (e : List ℕ × V). (e.0, f e.1)) entries) key ≡ option_map f (value_at entries key)
found_mapped f [] key = refl
found_mapped {V} {W} f (e ∷ es) key = by_test (is_at (text_cmp key) e.0) (found_mapped f es key) where
  by_test : (b : Bool) → value_at (map (λ (e : List ℕ × V). (e.0, f e.1)) es) key ≡ option_map f (value_at es key)
      → cond b (Some (f e.1)) (value_at (map (λ (e : List ℕ × V). (e.0, f e.1)) es) key) ≡ option_map f (cond b (Some e.1) (value_at es key))
  by_test true rest = refl
  by_test false rest = rest

report_found : (trees : Trees) (state : State) (found : Option Image)
    → unwrap_or (option_map (λ (image : Image). report_at (Some image) trees state) found) report.NotRegistered ≡ report_at found trees state
report_found trees state None = refl
report_found trees state (Some image) = refl

by_pending : (first : Option (List ℕ)) (generation : ℕ) (scanned : Scanned) → waiting_in (pending_report first generation scanned) ≡ Some first
by_pending (Some layer) generation scanned = refl
by_pending None generation (Ok findings) = refl
by_pending None generation (Err bad) = refl

-- what a report says of the layer for which an image waits
pub waiting_found : (trees : Trees) (state : State) (found : Option Image)
    → waiting_in (report_at found trees state) ≡ option_map (λ (kept : Image). first_pending state.layers kept.layers) found
waiting_found trees state None = refl
waiting_found trees state (Some image) = by_pending (first_pending state.layers image.layers) state.generation (image_scan trees state.feeds image)

pub same_answers : (trees : Trees) (state : State) (read : Read) → board_answer (board_of trees state) read ≡ answer_to trees state read
same_answers trees state (Report image) =
    ap (λ outcome. answer.Report image outcome)
    (ap (λ found. unwrap_or found report.NotRegistered) (found_mapped (λ (kept : Image). report_at (Some kept) trees state) state.images image)
    ∙ report_found trees state (value_at state.images image))
same_answers trees state (Page notification size number) = refl
same_answers trees state Heads = refl
