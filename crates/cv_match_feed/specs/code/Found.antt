-- Unsorted findings: package by package, and record by record.
use Rattle.std.specs.Prelude.{ℕ, List}
use Rattle.std.specs.List.{flat_map}
use Rattle.cv_base.specs.declared.advisory.Advisory.{Advisory}
use Rattle.cv_base.specs.declared.finding.Finding.{Finding}
use Rattle.cv_base.specs.declared.package.Package.{Package}
use Rattle.cv_match.specs.Findings.{found}

-- the findings of a package with records, in their order
abbrev pub found_by : List ℕ → List Advisory → Package → List Finding
found_by feed advisories p = flat_map (found p feed) advisories

-- and of each package
abbrev pub found_all : List ℕ → List Advisory → List Package → List Finding
found_all feed advisories packages = flat_map (found_by feed advisories) packages
