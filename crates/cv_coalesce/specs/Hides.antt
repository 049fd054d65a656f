-- What a layer hides of the layers below it, by its reduction, after the OCI image specification 1.1, layer.md, "Whiteouts" and
-- "Applying Changesets": a whiteout hides its target and all below it, an opaque mark all below its directory, and what a layer
-- has at a path takes the place of what was there, with all below it if it is not a directory. Defined by this project: only the
-- places of package files count.
use Rattle.std.specs.Prelude.{Bool, ◌||◌, List}
use Rattle.std.specs.List.{list_any}
use Rattle.cv_base.specs.Path.{Path, is_above, same_path}
use Rattle.cv_overlay.specs.Mark.{at_or_above}
use Rattle.cv_facts.specs.declared.reduction.Reduction.{Reduction}

-- a path is hidden by these whiteouts' targets, opaque directories, entries that are no directories, and directories at places
abbrev pub hides_at : List Path → List Path → List Path → List Path → Path → Bool
hides_at whiteouts opaques covers place_dirs p =
    list_any (λ t. at_or_above t p) whiteouts
    || (list_any (λ d. is_above d p) opaques
    || (list_any (λ c. at_or_above c p) covers
    || list_any (λ d. same_path d p) place_dirs))

-- a layer hides what lower layers have at a path
abbrev pub hides : Reduction → Path → Bool
hides r p = hides_at r.whiteouts r.opaques r.covers r.place_dirs p

-- one of these layers does
abbrev pub is_hidden : List Reduction → Path → Bool
is_hidden higher p = list_any (λ (r : Reduction). hides r p) higher
