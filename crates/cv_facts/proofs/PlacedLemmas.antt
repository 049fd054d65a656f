-- A file at a place of package files, as it is read.
use Rattle.std.specs.Prelude.{◌≡◌, Bool, true, false, List, Option, None, Some, IfSome, is_none, option_map, if◌then◌else◌, refl}
use Rattle.std.proofs.Common.{ap, sym, ◌∙◌}
use Rattle.cv_base.specs.Path.{Path}
use Rattle.cv_base.specs.Place.{place_of}
use Rattle.cv_base.specs.declared.limits.TheConstants.{PACKAGE_FILE_LIMIT}
use Rattle.cv_path.specs.declared.places.Place.{Place}
use Rattle.cv_base.specs.declared.tree.Content.{Content}
use Rattle.cv_base.specs.declared.tree.Content.TheVariants as content
use Rattle.cv_base.specs.declared.tree.Kind.{Kind}
use Rattle.cv_base.specs.declared.tree.Kind.TheVariants as kind
use Rattle.cv_base.specs.declared.tree.ListEntry.{ListEntry}
use Rattle.cv_base.specs.declared.tree.Node.TheVariants as node
use Rattle.cv_desk.specs.Loaded.{answered, loaded_file}
use Rattle.cv_desk.specs.code.Loaded.{loaded_kind}
use Rattle.cv_desk.specs.Stored.{Item, Stored, file_read, item_in}
use Rattle.cv_desk.specs.declared.desk.FileRead.{FileRead}
use Rattle.cv_desk.specs.declared.desk.FileRead.TheVariants.{Bytes, NotFile, TooLarge}
use Rattle.cv_overlay.specs.Lay.{is_plain}
use Rattle.cv_overlay.specs.Mark.{is_dir_node, mark_of}
use Rattle.cv_packages.specs.Files.{file_of}
use Rattle.cv_packages.specs.Found.{found_in}
use Rattle.cv_packages.specs.declared.found.FileFound.{FileFound}
use Rattle.cv_facts.specs.Files.{own_file}
use Rattle.cv_facts.specs.code.Listing.{content_of, listed_file, listed_kind, own_place, place_at, place_by}

loaded_by_place : (path : Path) (pl : Place) (item : Option Item) → place_of path ≡ Some pl → loaded_file path item ≡ answered (file_read item PACKAGE_FILE_LIMIT)
loaded_by_place path pl item h = ap (λ (p : Option Place). if is_none p then node.File content.Unread else answered (file_read item PACKAGE_FILE_LIMIT)) h

-- what is kept of a file that was read
kept : (path : Path) (pl : Place) (found : FileRead)
    → option_map (λ (c : Content). record { path = path; found = found_in pl c }) (content_of found) ≡ file_of path (Some pl) (answered found)
kept path pl (Bytes bytes) = refl
kept path pl TooLarge = refl
kept path pl NotFile = refl

placed : (tree : Option (Option (List Stored))) (path : Path) (pl : Place) (found : FileRead) (c : Option Content) (file : Option FileFound)
    → place_of path ≡ Some pl → IfSome tree (λ t. found ≡ file_read (item_in t path) PACKAGE_FILE_LIMIT) → c ≡ content_of found
    → file ≡ option_map (λ (c : Content). record { path = path; found = found_in pl c }) c
    → IfSome tree (λ t. file ≡ file_of path (Some pl) (loaded_file path (item_in t path)))
placed None path pl found c file h k e f = tt
placed (Some t) path pl found c file h k e f =
    f ∙ ap (option_map (λ (c : Content). record { path = path; found = found_in pl c })) e
    ∙ kept path pl found
    ∙ ap (λ (x : FileRead). file_of path (Some pl) (answered x)) k
    ∙ ap (file_of path (Some pl)) (sym (loaded_by_place path pl (item_in t path) h))

-- A listed entry.

pub by_mark : (plain : Bool) (path : Path) (place : Option Place) → (if plain then file_of path place node.Dir else None) ≡ None
by_mark true path None = refl
by_mark true path (Some pl) = refl
by_mark false path place = refl

pub by_mark_other : (plain : Bool) (path : Path) (place : Option Place) → (if plain then file_of path place node.Other else None) ≡ None
by_mark_other true path None = refl
by_mark_other true path (Some pl) = refl
by_mark_other false path place = refl

not_dir : (x : FileRead) → is_dir_node (answered x) ≡ false
not_dir (Bytes bytes) = refl
not_dir TooLarge = refl
not_dir NotFile = refl

not_dir_file : (path : Path) (unread : Bool) (x : FileRead) → is_dir_node (if unread then node.File content.Unread else answered x) ≡ false
not_dir_file path true x = refl
not_dir_file path false x = not_dir x

-- a listed entry is the file that it is as it is loaded
pub kind_is : (tree : Option (List Stored)) (path : Path) (k : Kind)
    → listed_kind tree path k ≡ own_file (record { path = path; node = loaded_kind path k (item_in tree path) })
kind_is tree path kind.Dir = sym (by_mark (is_plain (mark_of path true)) path (place_of path))
kind_is tree path kind.Other = sym (by_mark_other (is_plain (mark_of path false)) path (place_of path))
kind_is tree path kind.File =
    ap (λ (dir : Bool). if is_plain (mark_of path dir) then file_of path (place_of path) (loaded_file path (item_in tree path)) else None)
    (sym (not_dir_file path (is_none (place_of path)) (file_read (item_in tree path) PACKAGE_FILE_LIMIT)))

-- An entry with the place that it has as a plain file.

none_by : (plain : Bool) (place : Option Place) → place ≡ None → None ≡ (if plain then place else None)
none_by true place h = sym h
none_by false place h = refl

pub none_at : (path : Path) → place_of path ≡ None → None ≡ place_at path
none_at path h = none_by (is_plain (mark_of path false)) (place_of path) h

unplaced : (tree : Option (List Stored)) (path : Path) (k : Kind) → place_by path k ≡ None → listed_kind tree path k ≡ None
unplaced tree path kind.Dir h = refl
unplaced tree path kind.File h = by_place (is_plain (mark_of path false)) (place_of path) h where
  by_place : (plain : Bool) (place : Option Place) → (if plain then place else None) ≡ None → (if plain then file_of path place (loaded_file path (item_in tree path)) else None) ≡ None
  by_place true None h = refl
  by_place true (Some pl) h = cc
  by_place false place h = refl
unplaced tree path kind.Other h = refl

own_placed : (tree : Option (List Stored)) (path : Path) (k : Kind) (pl : Place) → place_by path k ≡ Some pl
    → (listed_kind tree path k ≡ file_of path (Some pl) (loaded_file path (item_in tree path))) × (place_of path ≡ Some pl)
own_placed tree path kind.Dir pl h = cc
own_placed tree path kind.File pl h = by_place (is_plain (mark_of path false)) (place_of path) h where
  by_place : (plain : Bool) (place : Option Place) → (if plain then place else None) ≡ Some pl
      → ((if plain then file_of path place (loaded_file path (item_in tree path)) else None) ≡ file_of path (Some pl) (loaded_file path (item_in tree path))) × (place ≡ Some pl)
  by_place true place h = (ap (λ (p : Option Place). file_of path p (loaded_file path (item_in tree path))) h, h)
  by_place false place h = cc
own_placed tree path kind.Other pl h = cc

-- an entry that has no place as a plain file is no package file
pub entry_unplaced : (tree : Option (Option (List Stored))) (entry : ListEntry) → own_place entry ≡ None → IfSome tree (λ t. None ≡ listed_file t entry)
entry_unplaced None entry h = tt
entry_unplaced (Some t) entry h = sym (unplaced t entry.path entry.kind h)

-- an entry that has one is the file that was read
pub entry_placed : (tree : Option (Option (List Stored))) (entry : ListEntry) (pl : Place) (found : FileRead) (c : Option Content) (file : Option FileFound)
    → own_place entry ≡ Some pl → IfSome tree (λ t. found ≡ file_read (item_in t entry.path) PACKAGE_FILE_LIMIT) → c ≡ content_of found
    → file ≡ option_map (λ (c : Content). record { path = entry.path; found = found_in pl c }) c → IfSome tree (λ t. file ≡ listed_file t entry)
entry_placed None entry pl found c file h k e f = tt
entry_placed (Some t) entry pl found c file h k e f =
    let own = own_placed t entry.path entry.kind pl h in
    placed (Some t) entry.path pl found c file own.1 k e f ∙ sym own.0
