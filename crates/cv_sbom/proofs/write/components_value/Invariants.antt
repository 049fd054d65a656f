use Rattle.std.proofs.Common.{◌≡◌, map, take}
use Rattle.std.specs.List.{AllByRecursion}
use Rattle.serde_json.specs.View.{view}
use Rattle.cv_sbom.specs.ListText.{component_data}
use Rattle.cv_sbom.specs.Listable.{HasPath}
use Rattle.cv_sbom.proofs.write.components_value.Given as goal

-- the values so far are those of the packages so far, which have paths
abbrev pub invariant-loop-package : goal.invariant-loop-package
invariant-loop-package l = record {
  values : map view l.items.items ≡ map component_data (take l.package-index l.packages);
  paths : AllByRecursion HasPath (take l.package-index l.packages);
}
