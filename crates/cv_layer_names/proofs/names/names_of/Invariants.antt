use Rattle.std.proofs.Common.{◌≡◌, map, take}
use Rattle.cv_layer_names.proofs.names.names_of.Given as goal

abbrev pub invariant-loop-package : goal.invariant-loop-package
invariant-loop-package g l = l.names.items ≡ map g.P.NamedPackage.name_of (take l.package-index l.found)
