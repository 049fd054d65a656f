use Rattle.cv_desk_drill.specs.code.GeneratedLaws.{package_more}
use Rattle.cv_desk_drill.proofs.generated.push_package.Goals as goal

pub returns : goal.returns
returns c =
    rw (c.in_ok-push_file.ensures, c.in_ok-push_directory.ensures, c.as_str.ensures.value, c.as_str-2.ensures.value, c.in_ok-folder.ensures, c.in_ok-at.ensures, c.in_ok-text.ensures)
    (package_more _ _ _)
