use Rattle.bench_work.proofs.scans.feeds.match_packages.Given as goal

abbrev pub ghosts-count_findings : goal.ghosts-count_findings
ghosts-count_findings a = record { name = a.blank.name; parts = a.blank.parts }
