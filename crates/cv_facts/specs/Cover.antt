-- What a layer hides of the layers below it, as four lists of paths (OCI image specification 1.1, layer.md, "Whiteouts" and
-- "Applying Changesets"). Defined by this project: only the places of package files count, so a plain directory is listed only
-- at such a place, where it replaces a lower file.
use Rattle.std.specs.Prelude.{Bool, true, false, ◌&&◌, not, if◌then◌else◌, filter, List, map, Option, Some, None}
use Rattle.std.specs.List.{filter_map}
use Rattle.std.specs.Option.{is_some}
use Rattle.cv_base.specs.Path.{Path, parent_of}
use Rattle.cv_base.specs.Place.{place_of}
use Rattle.cv_overlay.specs.Lay.{is_plain}
use Rattle.cv_overlay.specs.Mark.{Outline, mark_of, target_of}
use Rattle.cv_overlay.specs.declared.mark.Mark.{Mark}
use Rattle.cv_overlay.specs.declared.mark.Mark.TheVariants.{Reserved, Opaque, Whiteout, Bad, Plain}

-- a path is the place of a package file
abbrev pub is_place : Path → Bool
is_place p = is_some (place_of p)

-- what an entry stands for, by its outline
abbrev pub mark_in : Outline → Mark
mark_in e = mark_of e.path e.is_dir

-- an entry is a whiteout
abbrev pub is_whiteout : Mark → Bool
is_whiteout Whiteout = true
is_whiteout Reserved = false
is_whiteout Opaque = false
is_whiteout Bad = false
is_whiteout Plain = false

-- an entry is an opaque mark
abbrev pub is_opaque : Mark → Bool
is_opaque Opaque = true
is_opaque Reserved = false
is_opaque Whiteout = false
is_opaque Bad = false
is_opaque Plain = false

-- the path of a plain entry that is no directory
abbrev pub cover_by : Mark → Bool → Path → Option Path
cover_by mark is_dir p = if is_plain mark && not is_dir then Some p else None

-- the path of a plain directory at the place of a package file
abbrev pub place_dir_by : Mark → Bool → Path → Option Path
place_dir_by mark is_dir p = if is_plain mark && (is_dir && is_place p) then Some p else None

-- the targets of the whiteouts of a layer, which is given by its entries' paths and whether each is a directory
abbrev pub targets : List Outline → List Path
targets entries = map (λ (e : Outline). target_of e.path) (filter (λ (e : Outline). is_whiteout (mark_in e)) entries)

-- the directories of its opaque marks
abbrev pub opaque_dirs : List Outline → List Path
opaque_dirs entries = map (λ (e : Outline). parent_of e.path) (filter (λ (e : Outline). is_opaque (mark_in e)) entries)

-- its plain entries that are no directories
abbrev pub covers : List Outline → List Path
covers entries = filter_map (λ (e : Outline). cover_by (mark_of e.path e.is_dir) e.is_dir e.path) entries

-- its plain directories at the places of package files
abbrev pub place_dirs : List Outline → List Path
place_dirs entries = filter_map (λ (e : Outline). place_dir_by (mark_of e.path e.is_dir) e.is_dir e.path) entries
