-- The names of a small layer, computed.
use Rattle.std.specs.Prelude.{◌≡◌, ℕ, true, false, List, [], ◌∷◌, codes, Some, refl}
use Rattle.cv_base.specs.Path.{components}
use Rattle.cv_base.specs.declared.«package».PackageName.{PackageName}
use Rattle.cv_facts.specs.declared.reduction.Shape.{Shape}
use Rattle.cv_facts.specs.declared.reduction.Shape.TheVariants.{BadTree, NoLayer, Reduced}
use Rattle.cv_overlay.specs.declared.fault.TreeFault.TheVariants.{BadMark}
use Rattle.cv_packages.specs.Found.{found_at}
use Rattle.cv_packages.specs.declared.found.FileFound.{FileFound}
use Rattle.cv_packages.specs.declared.found.Found.TheVariants as found
use Rattle.cv_path.specs.declared.places.Place.TheVariants.{Status, StatusFolder}
use Rattle.cv_layer_names.specs.Names.{file_names, has_name_of, layer_names}

-- two binary packages of one source, and one that is its own source
abbrev status : FileFound
status = record {
  path = components (codes "var/lib/dpkg/status");
  found = found_at Status (codes "Package: openssl\nStatus: install ok installed\nVersion: 3\n\nPackage: libssl3\nStatus: install ok installed\nSource: openssl\nVersion: 3\n\nPackage: curl\nStatus: install ok installed\nVersion: 7\n");
}

abbrev npm : FileFound
npm = record { path = components (codes "node_modules/left-pad/package.json"); found = found.Npm (Some (record { name = codes "left-pad"; version = codes "1.3.0" })) }

-- a file of the folder of status files, of which the last line has no colon
abbrev refused : FileFound
refused = record { path = components (codes "var/lib/dpkg/status.d/base"); found = found_at StatusFolder (codes "Package: base\nVersion: 1\nline\n") }

abbrev layer : List FileFound → Shape
layer files = Reduced (record { whiteouts = []; opaques = []; covers = []; place_dirs = []; files = files; seal = [] })

-- packages of a source have its name, in the order of the file
sources : file_names status ≡ codes "openssl" ∷ codes "openssl" ∷ codes "curl" ∷ []
sources = refl

-- a refused file has no names, not even those of the packages before its bad line
none_refused : file_names refused ≡ []
none_refused = refl

-- the names of a layer are in order, each once
in_order : layer_names (layer (npm ∷ status ∷ refused ∷ [])) ≡ codes "curl" ∷ codes "left-pad" ∷ codes "openssl" ∷ []
in_order = refl

-- a layer that is missing or not good has no names
no_names : (layer_names NoLayer ≡ []) × (layer_names (BadTree (BadMark 0)) ≡ [])
no_names = (refl, refl)

abbrev key : List ℕ → PackageName
key name = record { ecosystem = codes "Alpine:v3.18"; name = name }

-- a layer has the name of a key whatever its ecosystem, and not that of a binary package
key_named : (has_name_of (key (codes "zlib") ∷ key (codes "openssl") ∷ []) (layer (status ∷ [])) ≡ true) × (has_name_of (key (codes "libssl3") ∷ []) (layer (status ∷ [])) ≡ false)
key_named = (refl, refl)
