use Rattle.std.proofs.Common.{Bool, ◌&&◌, sym, ap, ◌∙◌}
use Rattle.cv_path.specs.Path.{file_name_of}
use Rattle.cv_path.specs.Place.{is_status_name}
use Rattle.cv_path.proofs.package_files.is_status_file.Goals as goal

pub returns-then-is_in : goal.returns-then-is_in
returns-then-is_in c =
    c.is_status_name.ensures
    ∙ ap is_status_name c.file_name.ensures
    ∙ sym (ap (λ (b : Bool). b && is_status_name (file_name_of c.args.path.now)) (sym c.is_in.ensures ∙ c.if-is_in.true))

pub returns-else-is_in : goal.returns-else-is_in
returns-else-is_in c =
    c.if-is_in.false
    ∙ sym (ap (λ (b : Bool). b && is_status_name (file_name_of c.args.path.now)) (sym c.is_in.ensures ∙ c.if-is_in.false))
