-- What contracts see of a prepared record: the kind of package that it was prepared for, and the record.
use Rattle.cv_base.specs.declared.advisory.Advisory.{Advisory}
use Rattle.cv_base.specs.declared.«package».PackageKind.{PackageKind}

-- a kind of package and a record
pub record Prepared : Type 0 where
  pub kind : PackageKind
  pub advisory : Advisory

-- a record, prepared for a kind of package
abbrev pub prepared_for : PackageKind → Advisory → Prepared
prepared_for kind a = record { kind = kind; advisory = a }
