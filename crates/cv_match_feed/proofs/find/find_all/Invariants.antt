use Rattle.cv_match_feed.proofs.find.find_all.Given as goal

abbrev pub ghosts-find_counted : goal.ghosts-find_counted
ghosts-find_counted a = record { name = a.blank.name; parts = a.blank.parts }
