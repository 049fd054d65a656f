use Rattle.cv_desk_drill.specs.code.GeneratedLaws.{four_more}
use Rattle.cv_desk_drill.proofs.generated.push_status.Goals as goal

pub returns : goal.returns
returns c =
    rw (c.in_ok-push_file.ensures, c.in_ok-push_directory-3.ensures, c.in_ok-push_directory-2.ensures, c.in_ok-push_directory.ensures) (four_more _ _ _ _ _)
