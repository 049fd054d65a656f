use Rattle.test_findings.proofs.tests.findings.matched_again.Given as goal

abbrev pub ghosts-match_again : goal.ghosts-match_again
ghosts-match_again a = record { name = a.blank.name; parts = a.blank.parts }
