-- Paths and places, computed.
use Rattle.std.specs.Prelude.{◌≡◌, ℕ, true, false, List, [], ◌∷◌, ◌++◌, codes, replicate, Option, Some, None, Ok, Err, refl}
use Rattle.std.specs.declared.cmp.Ordering.TheVariants.{Less, Equal, Greater}
use Rattle.cv_path.specs.Path.{beside, components, file_name_of, is_above, parent_of, path_cmp, path_of, path_text}
use Rattle.cv_path.specs.Cuts.{begins_with_blank, is_blank, without_front}
use Rattle.cv_path.specs.Place.{place_of}
use Rattle.cv_path.specs.Texts.{same_name}
use Rattle.cv_path.specs.declared.path.PathError.TheVariants.{Empty, TooLong, BadComponent}
use Rattle.cv_path.specs.declared.places.Place.{Place}
use Rattle.cv_path.specs.declared.places.Place.TheVariants.{Status, StatusFolder, Installed, UsrInstalled, Os, UsrOs, Npm, Pypi}
use Rattle.cv_path.specs.declared.limits.TheConstants.{MAX_PATH_LEN}

-- Paths.

-- the components of a text; the empty text is not a path
read : (path_of (codes "a/.b/c..") ≡ Ok (codes "a" ∷ codes ".b" ∷ codes "c.." ∷ [])) × (path_of [] ≡ Err Empty)
read = (refl, refl)

-- a slash at an end and two slashes make an empty component
empty_components : (path_of (codes "/a") ≡ Err BadComponent) × (path_of (codes "a/") ≡ Err BadComponent) × (path_of (codes "a//b") ≡ Err BadComponent) × (path_of (codes "/") ≡ Err BadComponent)
empty_components = (refl, refl, refl, refl)

-- one dot and two dots are no components, and three are one
dots : (path_of (codes "a/./b") ≡ Err BadComponent) × (path_of (codes "..") ≡ Err BadComponent) × (path_of (codes "...") ≡ Ok (codes "..." ∷ []))
dots = (refl, refl, refl)

-- a NUL, wherever it stands
nul : (path_of (0 ∷ []) ≡ Err BadComponent) × (path_of (codes "a/b" ++ 0 ∷ codes "c") ≡ Err BadComponent)
nul = (refl, refl)

-- a text of 4,096 bytes is accepted, and one of 4,097 refused
longest : path_of (replicate 4096 97) ≡ Ok (replicate 4096 97 ∷ [])
longest = refl

too_long : path_of (replicate 4097 97) ≡ Err TooLong
too_long = refl

-- the length is tested before the components
long_and_bad : (path_of (replicate 4096 47) ≡ Err BadComponent) × (path_of (replicate 4097 47) ≡ Err TooLong)
long_and_bad = (refl, refl)

-- the text of a path; that of the top is empty
text : (path_text (codes "a" ∷ codes "b" ∷ []) ≡ codes "a/b") × (path_text [] ≡ [])
text = (refl, refl)

-- the directory of a path and its name in it
parents : (parent_of (components (codes "a/b/c")) ≡ components (codes "a/b")) × (parent_of (components (codes "a")) ≡ []) × (parent_of [] ≡ [])
parents = (refl, refl, refl)

file_names : (file_name_of (components (codes "a/b/c")) ≡ Some (codes "c")) × (file_name_of (components (codes "a")) ≡ Some (codes "a")) × (file_name_of [] ≡ None)
file_names = (refl, refl, refl)

-- what the whiteout `etc/.wh.passwd` hides stands beside it
hidden : (beside (components (codes "etc/.wh.passwd")) (codes "passwd") ≡ Ok (components (codes "etc/passwd"))) × (beside (components (codes ".wh.etc")) (codes "etc") ≡ Ok (components (codes "etc")))
hidden = (refl, refl)

-- a name is one component
bad_names : (beside (components (codes "a/b")) [] ≡ Err BadComponent) × (beside (components (codes "a/b")) (codes "..") ≡ Err BadComponent) × (beside (components (codes "a/b")) (codes "c/d") ≡ Err BadComponent)
bad_names = (refl, refl, refl)

-- a path of 4,096 bytes is accepted, and one of 4,097 refused
long_names : (beside (components (codes "a/b")) (replicate 4094 97) ≡ Ok (codes "a" ∷ replicate 4094 97 ∷ [])) × (beside (components (codes "a/b")) (replicate 4095 97) ≡ Err TooLong)
long_names = (refl, refl)

-- the top is above every path but itself
top : (is_above [] (components (codes "a")) ≡ true) × (is_above [] [] ≡ false) × (is_above (components (codes "a")) [] ≡ false)
top = (refl, refl, refl)

-- a path is above those within it, and not above itself or a longer name
above : (is_above (components (codes "a")) (components (codes "a/b/c")) ≡ true) × (is_above (components (codes "a")) (components (codes "a")) ≡ false) × (is_above (components (codes "a")) (components (codes "ab/c")) ≡ false)
above = (refl, refl, refl)

-- paths are ordered by components, and not as joined texts; a proper prefix comes first
ordered : (path_cmp (components (codes "a/b")) (components (codes "a-b")) ≡ Less) × (path_cmp (components (codes "a")) (components (codes "a/b")) ≡ Less)
    × (path_cmp [] (components (codes "a")) ≡ Less) × (path_cmp (components (codes "b")) (components (codes "a/z")) ≡ Greater)
    × (path_cmp (components (codes "a/b")) (components (codes "a/b")) ≡ Equal)
ordered = (refl, refl, refl, refl, refl)

-- Places.

abbrev at : List ℕ → Option Place
at text = place_of (components text)

-- the places that have one path
fixed : (at (codes "var/lib/dpkg/status") ≡ Some Status) × (at (codes "lib/apk/db/installed") ≡ Some Installed) × (at (codes "usr/lib/apk/db/installed") ≡ Some UsrInstalled)
    × (at (codes "etc/os-release") ≡ Some Os) × (at (codes "usr/lib/os-release") ≡ Some UsrOs)
fixed = (refl, refl, refl, refl, refl)

-- other paths, above or below such a place
elsewhere : (place_of [] ≡ None) × (at (codes "lib/dpkg/status") ≡ None) × (at (codes "x/etc/os-release") ≡ None) × (at (codes "var/lib/dpkg") ≡ None)
    × (at (codes "var/lib/dpkg/status/x") ≡ None) × (at (codes "var/lib/dpkg/status-old") ≡ None)
elsewhere = (refl, refl, refl, refl, refl, refl)

-- the files right in the folder of status files, but no list of checksums and no folder below
in_status_folder : (at (codes "var/lib/dpkg/status.d/base") ≡ Some StatusFolder) × (at (codes "var/lib/dpkg/status.d/base.md5sums") ≡ None)
    × (at (codes "var/lib/dpkg/status.d/md5sums") ≡ Some StatusFolder) × (at (codes "var/lib/dpkg/status.d/a/b") ≡ None) × (at (codes "var/lib/dpkg/status.d") ≡ None)
in_status_folder = (refl, refl, refl, refl, refl)

-- a package's own file, with a scope or not, at any depth
npm : (at (codes "app/node_modules/x/package.json") ≡ Some Npm) × (at (codes "node_modules/x/package.json") ≡ Some Npm) × (at (codes "node_modules/@s/n/package.json") ≡ Some Npm)
    × (at (codes "a/node_modules/x/node_modules/@s/n/package.json") ≡ Some Npm)
npm = (refl, refl, refl, refl)

-- a package may have the name `@s`
scope_name : at (codes "node_modules/@s/package.json") ≡ Some Npm
scope_name = refl

-- a deeper file, one in a folder that is not a scope or an empty one, and another name
no_npm : (at (codes "node_modules/x/lib/package.json") ≡ None) × (at (codes "node_modules/@s/n/lib/package.json") ≡ None) × (at (codes "node_modules/@/n/package.json") ≡ None)
    × (at (codes "node_modules/package.json") ≡ None) × (at (codes "app/x/package.json") ≡ None) × (at (codes "node_modules/x/package.jsonc") ≡ None)
no_npm = (refl, refl, refl, refl, refl, refl)

-- the metadata of an installed Python package, at any depth
pypi : (at (codes "opt/Foo_Bar-1.0.dist-info/METADATA") ≡ Some Pypi) × (at (codes "x.dist-info/METADATA") ≡ Some Pypi)
    × (at (codes "usr/lib/python3/dist-packages/six-1.16.0.egg-info/PKG-INFO") ≡ Some Pypi)
pypi = (refl, refl, refl)

-- a folder without a name, the other file of each folder, another folder, a file alone, and a deeper one
no_pypi : (at (codes "opt/.dist-info/METADATA") ≡ None) × (at (codes "opt/.egg-info/PKG-INFO") ≡ None) × (at (codes "x.egg-info/METADATA") ≡ None) × (at (codes "x.dist-info/PKG-INFO") ≡ None)
    × (at (codes "opt/x/METADATA") ≡ None) × (at (codes "METADATA") ≡ None) × (at (codes "x.dist-info/a/METADATA") ≡ None) × (at (codes "x.dist-info/metadata") ≡ None)
no_pypi = (refl, refl, refl, refl, refl, refl, refl, refl)

-- Texts.

-- blanks at the front of a text, and names in any case
fronts : (without_front is_blank (codes " \ta b ") ≡ codes "a b ") × (begins_with_blank (codes "\ta") ≡ true) × (begins_with_blank [] ≡ false)
    × (same_name (codes "Name") (codes "nAME") ≡ true) × (same_name (codes "Name") (codes "Names") ≡ false)
fronts = (refl, refl, refl, refl, refl)

-- the limit of a path
limits : MAX_PATH_LEN ≡ 4096
limits = refl
