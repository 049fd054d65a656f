-- Arguments that are taken, and what is read of them, and arguments that are not.
use Rattle.std.proofs.Common.{◌≡◌, true, false, [], ◌∷◌, codes, refl}
use Rattle.std.specs.Prelude.{Some, None}
use Rattle.clap.proofs.OnLiterals.{clap_on_literals}
use Rattle.cv_command_arguments.specs.Forms.{bare_app, comparison_of, drill_app, name_of, order_app, packages_named, seed_of, serve_app, takes_none, workers_of}
use Rattle.cv_command_arguments.specs.Simple.{rows_by}
use Rattle.cv_command_arguments.specs.Values.{is_option, values_of}
use Rattle.cv_command_arguments.specs.declared.order.Packages.TheVariants.{Deb, Apk, Semver, Pypi}

-- a scan has no arguments, and neither have the commands of lists of components
scans : (takes_none (codes "scan") [] ≡ true) × (takes_none (codes "scan") (codes "--" ∷ []) ≡ true) × (takes_none (codes "scan") (codes "walk" ∷ []) ≡ false)
    × (takes_none (codes "scan") (codes "--help" ∷ []) ≡ false) × (takes_none (codes "sbom") [] ≡ true) × (takes_none (codes "scan-list") (codes "x" ∷ []) ≡ false)
unfolding bare_app rows_by clap_on_literals
scans = (refl, refl, refl, refl, refl, refl)

-- the number of workers stands in an argument of its own, or in that of the option
services : (workers_of [] ≡ Some None) × (workers_of (codes "--workers" ∷ codes "2" ∷ []) ≡ Some (Some 2))
    × (workers_of (codes "--workers=8" ∷ []) ≡ Some (Some 8)) × (workers_of (codes "--workers" ∷ codes "+04" ∷ codes "--" ∷ []) ≡ Some (Some 4))
unfolding serve_app rows_by clap_on_literals
services = (refl, refl, refl, refl)

-- it is from 1 to 8, and stands once
no_services : (workers_of (codes "--workers" ∷ codes "0" ∷ []) ≡ None) × (workers_of (codes "--workers=9" ∷ []) ≡ None) × (workers_of (codes "--workers" ∷ []) ≡ None)
    × (workers_of (codes "--workers=1" ∷ codes "--workers=1" ∷ []) ≡ None) × (workers_of (codes "-h" ∷ []) ≡ None) × (workers_of (codes "2" ∷ []) ≡ None)
unfolding serve_app rows_by clap_on_literals
no_services = (refl, refl, refl, refl, refl, refl)

-- the seed of a drill has 32 bits
drills : (seed_of (codes "7" ∷ []) ≡ Some 7) × (seed_of (codes "--" ∷ codes "4294967295" ∷ []) ≡ Some 4294967295) × (seed_of (codes "4294967296" ∷ []) ≡ None)
    × (seed_of (codes "-1" ∷ []) ≡ None) × (seed_of [] ≡ None) × (seed_of (codes "7" ∷ codes "7" ∷ []) ≡ None)
unfolding drill_app rows_by clap_on_literals
drills = (refl, refl, refl, refl, refl, refl)

-- two versions are compared, neither more nor fewer
orders : (comparison_of (codes "deb" ∷ codes "1" ∷ codes "2~a" ∷ []) ≡ Some (record { packages = Deb; first = codes "1"; second = codes "2~a" }))
    × (comparison_of (codes "apk" ∷ codes "--" ∷ codes "-1" ∷ codes "-" ∷ []) ≡ Some (record { packages = Apk; first = codes "-1"; second = codes "-" }))
    × (comparison_of (codes "--" ∷ codes "semver" ∷ [] ∷ codes "2" ∷ []) ≡ Some (record { packages = Semver; first = []; second = codes "2" }))
    × (comparison_of (codes "pypi" ∷ codes "1.0a1" ∷ codes "1!0" ∷ []) ≡ Some (record { packages = Pypi; first = codes "1.0a1"; second = codes "1!0" }))
    × (comparison_of (codes "deb" ∷ codes "1" ∷ []) ≡ None) × (comparison_of (codes "deb" ∷ codes "1" ∷ codes "2" ∷ codes "3" ∷ []) ≡ None)
unfolding order_app rows_by clap_on_literals
orders = (refl, refl, refl, refl, refl, refl)

-- the packages have one of the four names
no_orders : (comparison_of (codes "rpm" ∷ codes "1" ∷ codes "2" ∷ []) ≡ None) × (comparison_of ([] ∷ codes "1" ∷ codes "2" ∷ []) ≡ None)
    × (comparison_of (codes "Deb" ∷ codes "1" ∷ codes "2" ∷ []) ≡ None) × (comparison_of (codes "debian" ∷ codes "1" ∷ codes "2" ∷ []) ≡ None)
    × (comparison_of (codes "deb" ∷ codes "-1" ∷ codes "2" ∷ []) ≡ None) × (comparison_of (codes "python" ∷ codes "1" ∷ codes "2" ∷ []) ≡ None)
unfolding order_app rows_by clap_on_literals
no_orders = (refl, refl, refl, refl, refl, refl)

-- each name is that of its packages
names : (packages_named (name_of Deb) ≡ Some Deb) × (packages_named (name_of Apk) ≡ Some Apk) × (packages_named (name_of Semver) ≡ Some Semver)
    × (packages_named (name_of Pypi) ≡ Some Pypi)
names = (refl, refl, refl, refl)

-- an option begins with a hyphen, and has more than that
options : (is_option (codes "-") ≡ false) × (is_option (codes "--") ≡ false) × (is_option [] ≡ false) × (is_option (codes "1-") ≡ false)
    × (is_option (codes "-1") ≡ true) × (is_option (codes "--workers") ≡ true) × (is_option (codes "--=") ≡ true)
unfolding clap_on_literals
options = (refl, refl, refl, refl, refl, refl, refl)

-- what `--` ends
values : (values_of (codes "a" ∷ codes "--" ∷ codes "-b" ∷ codes "--" ∷ []) ≡ Some (codes "a" ∷ codes "-b" ∷ codes "--" ∷ []))
    × (values_of (codes "a" ∷ codes "-b" ∷ codes "--" ∷ []) ≡ None)
unfolding values_of clap_on_literals
values = (refl, refl)
