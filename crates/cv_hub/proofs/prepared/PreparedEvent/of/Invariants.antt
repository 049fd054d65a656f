use Rattle.cv_hub.proofs.prepared.PreparedEvent.of.Given as goal

-- the count of steps is of the ledger that was just made
abbrev pub ghosts-plan_counted : goal.ghosts-plan_counted
ghosts-plan_counted g a = record { name = a.blank.name; parts = a.blank.parts }
