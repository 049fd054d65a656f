use Rattle.bench.proofs.hub.measured_of.Given as goal

-- the ledger, the list and the limits of the hub that is started
abbrev pub ghosts-measured-L-Ledger : goal.ghosts-measured-L-Ledger
ghosts-measured-L-Ledger g a = record { name = a.blank.name; parts = a.blank.parts }

abbrev pub ghosts-measured-L-Identity : goal.ghosts-measured-L-Identity
ghosts-measured-L-Identity g a = record { book = a.blank.book; limits = a.core.state.limits }
