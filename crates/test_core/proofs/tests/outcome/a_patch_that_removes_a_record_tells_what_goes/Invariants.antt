use Rattle.test_core.proofs.tests.outcome.a_patch_that_removes_a_record_tells_what_goes.Given as goal

abbrev pub ghosts-patched : goal.ghosts-patched
ghosts-patched a b = record { name = b.blank.name; parts = b.blank.parts }
