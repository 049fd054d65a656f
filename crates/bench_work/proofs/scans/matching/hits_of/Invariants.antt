use Rattle.bench_work.proofs.scans.matching.hits_of.Given as goal

abbrev pub ghosts-count_hits : goal.ghosts-count_hits
ghosts-count_hits a = record { name = a.blank.name; parts = a.blank.parts }
