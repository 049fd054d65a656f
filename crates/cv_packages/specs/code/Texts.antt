-- The texts of a package, as the code refers to them.
use Rattle.std.specs.Prelude.{ℕ, List, [], Option, Some, None}
use Rattle.std.specs.Borrow.{Bor}
use Rattle.cv_packages.specs.Texts.{Texts}
use Rattle.cv_packages.specs.declared.package.PackageTexts.{PackageTexts}

-- the text of an architecture, which may be absent
abbrev pub arch_text : Option (Bor (List ℕ)) → List ℕ
arch_text None = []
arch_text (Some arch) = arch.now

-- the texts that are referred to
abbrev pub texts_in : PackageTexts → Texts
texts_in t = record { name = t.name.now; version = t.version.now; source = t.source.now; source_version = t.source_version.now; arch = arch_text t.arch }
