-- The rows that an update notifies of (defined by this project): what it changes in the findings of the registered images.
use Rattle.std.specs.Prelude.{ℕ, List, [], filter, Ok, Err}
use Rattle.std.specs.List.{flat_map}
use Rattle.cv_base.specs.declared.finding.Row.{Row}
use Rattle.cv_findings.specs.Rows.{rows_of as image_rows}
use Rattle.cv_scan.specs.Scan.{Scanned}
use Rattle.cv_core_machine.specs.Layers.{is_indexed}
use Rattle.cv_core_machine.specs.Scans.{Trees, image_scan}
use Rattle.cv_core_machine.specs.State.{Feeds, State}
use Rattle.cv_core_machine.specs.declared.image.Image.{Image}

-- the rows of one image, by its scans before and after. An image that cannot be scanned has none
abbrev pub scan_rows : List ℕ → Scanned → Scanned → List Row
scan_rows image (Ok before) (Ok after) = image_rows image before after
scan_rows image (Ok before) (Err bad) = []
scan_rows image (Err bad) after = []

-- the rows of all registered images whose layers are all Indexed, in ascending order of their hashes, where these feeds
-- take the place of those of the state
abbrev pub rows_of : Trees → State → Feeds → List Row
rows_of trees state feeds =
    flat_map (λ (image : List ℕ × Image). scan_rows image.0 (image_scan trees state.feeds image.1) (image_scan trees feeds image.1)) (filter (λ (image : List ℕ × Image). is_indexed state.layers image.1.layers) state.images)
