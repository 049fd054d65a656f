use Rattle.test_core.proofs.tests.outcome.an_update_matches_images_and_adds_rows.Given as goal

abbrev pub ghosts-updated : goal.ghosts-updated
ghosts-updated a b = record { name = b.blank.name; parts = b.blank.parts }
