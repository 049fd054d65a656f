-- What holds of every request that is read (defined by this project).
use Rattle.std.specs.Prelude.{◌≡◌, ◌≤◌, ⊤, length}
use Rattle.cv_base.specs.declared.limits.TheConstants.{MAX_ADVISORIES, MAX_LAYERS}
use Rattle.cv_osv.specs.Records.{HasDistinctIds}
use Rattle.cv_request.specs.declared.limits.TheConstants.{MAX_PAGE_ROWS}
use Rattle.cv_request.specs.declared.request.Act.{Act}
use Rattle.cv_request.specs.declared.request.Act.TheVariants as act

-- an image has 1 to 128 layers and for each a stated seal or none, an update or a patch of a feed at most 200,000 records with
-- distinct ids, and a page 1 to 1,000 rows; pages are numbered from 1
abbrev pub IsWithinLimits : Act → Type 0
IsWithinLimits (act.Register manifest) =
    (1 ≤ length manifest.layers) × (length manifest.layers ≤ MAX_LAYERS) × (length manifest.seals ≡ length manifest.layers)
IsWithinLimits (act.DropImage image) = ⊤
IsWithinLimits (act.Update feed records) = HasDistinctIds records × (length records ≤ MAX_ADVISORIES)
IsWithinLimits (act.Patch feed base records remove) = HasDistinctIds records × (length records ≤ MAX_ADVISORIES)
IsWithinLimits (act.Report image) = ⊤
IsWithinLimits (act.Page number size page) = (1 ≤ size) × (size ≤ MAX_PAGE_ROWS) × (1 ≤ page)
IsWithinLimits act.List = ⊤
IsWithinLimits (act.Ack number) = ⊤
