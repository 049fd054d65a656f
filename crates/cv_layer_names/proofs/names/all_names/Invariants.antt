use Rattle.std.proofs.Common.{◌≡◌, ◌++◌, drop}
use Rattle.std.specs.List.{flat_map}
use Rattle.cv_layer_names.specs.Names.{file_names}
use Rattle.cv_layer_names.proofs.names.all_names.Given as goal

-- the names so far, with those of the remaining files, are all
abbrev pub invariant-loop-file : goal.invariant-loop-file
invariant-loop-file l = l.names.items ++ flat_map file_names (drop l.file-index l.files) ≡ flat_map file_names l.files
