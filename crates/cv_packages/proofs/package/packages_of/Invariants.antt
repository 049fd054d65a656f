use Rattle.std.proofs.Common.{◌≡◌, map, take}
use Rattle.std.specs.Option.{option_map}
use Rattle.cv_osrel.specs.Ecosystem.{eco}
use Rattle.cv_packages.specs.Texts.{package_with}
use Rattle.cv_packages.proofs.package.packages_of.Given as goal

abbrev pub invariant-loop-package : goal.invariant-loop-package
invariant-loop-package g l =
    l.out.items ≡ map (λ p. package_with g.P.KindPackage.kind l.path (eco (option_map (λ name. name.now) l.os) g.P.KindPackage.kind) (g.P.KindPackage.texts_of p)) (take l.package-index l.found)
