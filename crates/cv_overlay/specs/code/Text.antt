-- Marks and parents by the texts of paths, as the code reads them. It is shown in `proofs/` that these are those of
-- `Mark.antt`.
use Rattle.std.specs.Prelude.{ℕ, Bool, ◌&&◌, ◌||◌, not, if◌then◌else◌, List}
use Rattle.cv_base.specs.Texts.{same}
use Rattle.cv_base.specs.code.PathText.{goes_on}
use Rattle.cv_overlay.specs.Mark.{has_mark, is_opaque_name, is_reserved_name, is_whiteout_name}
use Rattle.cv_overlay.specs.declared.mark.Mark.{Mark}
use Rattle.cv_overlay.specs.declared.mark.Mark.TheVariants.{Reserved, Opaque, Whiteout, Bad, Plain}

-- what an entry of this name stands for, in a directory that is reserved or not
abbrev pub mark_by : Bool → List ℕ → Bool → Mark
mark_by in_reserved name dir =
    if in_reserved then Reserved
    else (if is_reserved_name name then (if not dir && is_opaque_name name then Opaque else Reserved)
    else (if not (has_mark name) then Plain
    else (if not dir && is_whiteout_name name then Whiteout else Bad)))

-- a text lies within a directory, or is the directory's own, if `dir` says that it is one
abbrev pub is_within : List ℕ → List ℕ → Bool → Bool
is_within directory text dir = goes_on directory text || (dir && same text directory)
