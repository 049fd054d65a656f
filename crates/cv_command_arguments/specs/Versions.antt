-- The versions that `order` compares (defined by this project), as a value.
use Rattle.cv_command_arguments.specs.Forms.{Comparison}
use Rattle.cv_command_arguments.specs.declared.order.Versions.{Versions}

-- the comparison that a struct of borrowed texts stands for
abbrev pub comparison_by : Versions → Comparison
comparison_by v = record { packages = v.packages; first = v.first.now; second = v.second.now }
