-- The texts of a component, as the code refers to them.
use Rattle.cv_sbom.specs.Component.{Texts}
use Rattle.cv_sbom.specs.declared.component.ComponentTexts.{ComponentTexts}

-- the texts that are referred to
abbrev pub texts_in : ComponentTexts → Texts
texts_in t = record {
  name = t.name.now;
  version = t.version.now;
  arch = t.arch.now;
  ecosystem = t.ecosystem.now;
  kind = t.kind.now;
  path = t.path.now;
  source = t.source.now;
  source_version = t.source_version.now;
}
