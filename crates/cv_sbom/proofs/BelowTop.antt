-- The packages of a root stand below its top: a place of package files is never the top.
use Rattle.std.proofs.Common.{◌≡◌, ℕ, Bool, true, false, cond, ◌&&◌, List, [], ◌∷◌, ◌++◌, map, filter, refl, sym, ap, ◌∙◌}
use Rattle.std.specs.Prelude.{Option, Some, None, Result, Ok, Err}
use Rattle.std.specs.List.{cons_option, list_all}
use Rattle.std.specs.Option.{option_to_list}
use Rattle.std.specs.Result.{result_unwrap_or}
use Rattle.cv_base.specs.Path.{Path}
use Rattle.cv_base.specs.Place.{place_of}
use Rattle.cv_base.specs.Results.{◌>>=◌}
use Rattle.cv_base.specs.Texts.{is_cons}
use Rattle.cv_base.specs.declared.package.Package.{Package}
use Rattle.cv_base.specs.declared.tree.Node.{Node}
use Rattle.cv_base.specs.declared.tree.Node.TheVariants.{Dir, File, Other}
use Rattle.cv_base.specs.declared.tree.TreeEntry.{TreeEntry}
use Rattle.cv_path.specs.declared.places.Place.{Place}
use Rattle.cv_osrel.specs.declared.name.OsName.{OsName}
use Rattle.cv_packages.specs.Files.{file_found, file_of, files_found}
use Rattle.cv_packages.specs.Packages.{all_packages, assembled, counted, packages, packages_in, system}
use Rattle.cv_packages.specs.declared.found.FileFound.{FileFound}
use Rattle.cv_packages.specs.declared.found.Found.{Found}
use Rattle.cv_packages.specs.declared.found.Found.TheVariants as found
use Rattle.cv_sbom.specs.Listable.{is_below_top}

-- a file stands below the top
abbrev is_low : FileFound → Bool
is_low file = is_cons file.path

-- if there is a file, it stands below the top
abbrev AreLow : Option FileFound → Type 0
AreLow None = Unit {0}
AreLow (Some file) = is_low file ≡ true

low_node : (b : List ℕ) (path : Path) (place : Option Place) (node : Node) → AreLow (file_of (b ∷ path) place node)
low_node b path None node = tt
low_node b path (Some place) Dir = tt
low_node b path (Some place) (File content) = refl
low_node b path (Some place) Other = tt

low_file : (path : Path) (node : Node) → AreLow (file_of path (place_of path) node)
low_file [] node = tt
low_file (b ∷ path) node = low_node b path (place_of (b ∷ path)) node

low_cons : (file : Option FileFound) (files : List FileFound) → AreLow file → list_all is_low files ≡ true → list_all is_low (cons_option file files) ≡ true
low_cons None files h k = k
low_cons (Some file) files h k = rw h k

low_files : (entries : List TreeEntry) → list_all is_low (files_found entries) ≡ true
low_files [] = refl
low_files (e ∷ entries) = low_cons (file_found e) (files_found entries) (low_file e.path e.node) (low_files entries)

both : (a b : Bool) → (a && b) ≡ true → (a ≡ true) × (b ≡ true)
both true b h = (refl, h)
both false b h = absurd (cc)

low_filter : (keeps : FileFound → Bool) (files : List FileFound) → list_all is_low files ≡ true → list_all is_low (filter keeps files) ≡ true
low_filter keeps [] h = refl
low_filter keeps (file ∷ files) h =
    let parts = both (is_low file) (list_all is_low files) h in
    by_test (keeps file) parts.0 (low_filter keeps files parts.1) where
      by_test : (b : Bool) → is_low file ≡ true → list_all is_low (filter keeps files) ≡ true → list_all is_low (cond b (file ∷ filter keeps files) (filter keeps files)) ≡ true
      by_test true low rest = rw low rest
      by_test false low rest = rest

-- packages that are made of a list, all at one path
at_path : {A : Type 0} (make : A → Package) (path : Path) → ((x : A) → is_below_top (make x) ≡ is_cons path) → is_cons path ≡ true → (xs : List A) → list_all is_below_top (map make xs) ≡ true
at_path make path h low [] = refl
at_path make path h low (x ∷ xs) = rw (h x, low) (at_path make path h low xs)

-- if there are packages, they stand below the top
abbrev Low : {E : Type 0} → Result (List Package) E → Type 0
Low (Ok ps) = list_all is_below_top ps ≡ true
Low (Err e) = Unit {0}

low_in : (os : Option OsName) (path : Path) (what : Found) → is_cons path ≡ true → Low (packages_in os path what)
low_in os path (found.Status ps) low = at_path _ path (λ x. refl) low ps
low_in os path (found.Installed ps) low = at_path _ path (λ x. refl) low ps
low_in os path (found.Os name) low = refl
low_in os path (found.Npm p) low = at_path _ path (λ x. refl) low (option_to_list p)
low_in os path (found.Pypi p) low = at_path _ path (λ x. refl) low (option_to_list p)
low_in os path (found.Bad bad) low = tt
low_in os path found.TooLarge low = tt

low_joined : (ps qs : List Package) → list_all is_below_top ps ≡ true → list_all is_below_top qs ≡ true → list_all is_below_top (ps ++ qs) ≡ true
low_joined [] qs h k = k
low_joined (p ∷ ps) qs h k = let parts = both (is_below_top p) (list_all is_below_top ps) h in rw parts.0 (low_joined ps qs parts.1 k)

low_bind : {E : Type 0} (r s : Result (List Package) E) → Low r → Low s → Low (r >>= λ ps. s >>= λ qs. Ok (ps ++ qs))
low_bind (Ok ps) (Ok qs) h k = low_joined ps qs h k
low_bind (Ok ps) (Err e) h k = tt
low_bind (Err e) s h k = tt

low_all : (os : Option OsName) (files : List FileFound) → list_all is_low files ≡ true → Low (all_packages os files)
low_all os [] h = refl
low_all os (file ∷ files) h =
    let p = both (is_low file) (list_all is_low files) h in
    low_bind (packages_in os file.path file.found) (all_packages os files) (low_in os file.path file.found p.0) (low_all os files p.1)

low_of : {E : Type 0} (r : Result (List Package) E) (ps : List Package) → Low r → r ≡ Ok ps → list_all is_below_top ps ≡ true
low_of {E} (Ok qs) ps h e = ap (λ (r : Result (List Package) E). list_all is_below_top (result_unwrap_or r qs)) (sym e) ∙ h
low_of (Err bad) ps h e = absurd (cc)

-- the packages of a root stand below its top
pub below_top : (entries : List TreeEntry) (ps : List Package) → packages entries ≡ Ok ps → list_all is_below_top ps ≡ true
unfolding packages
below_top entries ps e =
    let files = files_found entries in
    low_of (assembled files) ps (low_all (system (counted files)) (counted files) (low_filter _ files (low_files entries))) e
