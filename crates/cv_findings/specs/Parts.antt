-- The findings of one package among those of an image (defined by this project).
use Rattle.std.specs.Prelude.{Bool, List, filter}
use Rattle.std.specs.List.{list_any}
use Rattle.std.specs.Ordering.{is_eq}
use Rattle.cv_base.specs.declared.«package».Package.{Package}
use Rattle.cv_base.specs.declared.finding.Finding.{Finding}
use Rattle.cv_match.specs.Findings.{package_cmp}

-- a finding is about the package, which is equal in every field
abbrev pub is_finding_of : Package → Finding → Bool
is_finding_of p f = is_eq (package_cmp p f.«package»)

-- these packages have the package
abbrev pub has_package : Package → List Package → Bool
has_package p packages = list_any (λ other. is_eq (package_cmp p other)) packages

-- the findings of the package, among others
abbrev pub part_of : Package → List Finding → List Finding
part_of p findings = filter (is_finding_of p) findings
