-- The scan of an image from scratch (defined by this project): the findings of its packages, or why it has none.
use Rattle.std.specs.Prelude.{ℕ, List, Option, Result, Ok, Err}
use Rattle.cv_base.specs.declared.advisory.Advisory.{Advisory}
use Rattle.cv_base.specs.declared.finding.Finding.{Finding}
use Rattle.cv_base.specs.declared.package.Package.{Package}
use Rattle.cv_base.specs.declared.tree.TreeEntry.{TreeEntry}
use Rattle.cv_desk.specs.Stored.{Stored}
use Rattle.cv_match.specs.Findings.{findings}
use Rattle.cv_overlay.specs.declared.fault.ImageFault.{ImageFault}
use Rattle.cv_packages.specs.Packages.{packages}
use Rattle.cv_packages.specs.declared.error.FileFault.{FileFault}
use Rattle.cv_scan.specs.Image.{image_packages}

-- the outcome of a scan: the findings, or why the image has none. A layer is named by its index, from 0
abbrev pub Scanned : Type 0
Scanned = Result (List Finding) ImageFault

-- the findings of packages with the records of feeds, or the refusal in their place
abbrev pub with_findings : {E : Type 0} → List (List ℕ × List Advisory) → Result (List Package) E → Result (List Finding) E
with_findings feeds (Ok found) = Ok (findings found feeds)
with_findings feeds (Err refused) = Err refused

-- the findings of the packages of a root, or the refusal of its first package file that is refused
abbrev pub root_findings : List TreeEntry → List (List ℕ × List Advisory) → Result (List Finding) FileFault
root_findings entries feeds = with_findings feeds (packages entries)

-- the scan of an image: takes what is stored of each of its layers, if it is there, the base first, the seal that is stated
-- for each, if one is, and the feeds, each by its name with its records
unfoldable pub scan : List (Option (List Stored)) → List (Option (List ℕ)) → List (List ℕ × List Advisory) → Scanned
scan layers seals feeds = with_findings feeds (image_packages layers seals)
