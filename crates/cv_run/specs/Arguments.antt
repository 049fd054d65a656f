-- What the arguments of the program name (defined by this project): a command, or a line that is printed. The first argument is the
-- name of the command, and a simple command of clap reads those after it.
use Rattle.std.specs.Prelude.{ℕ, if◌then◌else◌, List, [], ◌∷◌, codes}
use Rattle.std.specs.Option.{option_map_or}
use Rattle.cv_command_arguments.specs.Forms.{seed_of, takes_none, workers_of}
use Rattle.cv_base.specs.Texts.{same}
use Rattle.cv_command.specs.Order.{order_of}
use Rattle.cv_command.specs.Printed.{Printed, usage}
use Rattle.cv_run.specs.declared.arguments.Command.{Command}
use Rattle.cv_run.specs.declared.arguments.Command.TheVariants.{Scan, Sbom, ListScan, Serve, Drill, Print}

-- a command without arguments, if it takes these, by its name
abbrev pub bare_with : Command → List ℕ → List (List ℕ) → Command
bare_with command name options = if takes_none name options then command else Print

-- the service, if its arguments are taken
abbrev pub serve_with : List (List ℕ) → Command
serve_with options = option_map_or Serve (workers_of options) Print

-- a drill, if its arguments are taken
abbrev pub drill_with : List (List ℕ) → Command
drill_with options = option_map_or Drill (seed_of options) Print

-- the command of this name, with the arguments after it
abbrev pub named : List ℕ → List (List ℕ) → Command
named name options =
    if same name (codes "scan") then bare_with Scan (codes "scan") options
    else (if same name (codes "sbom") then bare_with Sbom (codes "sbom") options
    else (if same name (codes "scan-list") then bare_with ListScan (codes "scan-list") options
    else (if same name (codes "serve") then serve_with options
    else (if same name (codes "drill") then drill_with options else Print))))

-- the command that the arguments name
abbrev pub command_of : List (List ℕ) → Command
command_of [] = Print
command_of (name ∷ options) = named name options

-- the line of arguments that name none of these commands
abbrev pub command_line : List (List ℕ) → Printed
command_line [] = usage
command_line (name ∷ arguments) = if same name (codes "order") then order_of arguments else usage
