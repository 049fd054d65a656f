use Rattle.test_hub.proofs.tests.starts.started.Given as goal

-- the ledger, the list and the limits of the hub that is started
abbrev pub ghosts-start_hub-L-Ledger : goal.ghosts-start_hub-L-Ledger
ghosts-start_hub-L-Ledger g a = record { name = a.blank.name; parts = a.blank.parts }

abbrev pub ghosts-start_hub-L-Identity : goal.ghosts-start_hub-L-Identity
ghosts-start_hub-L-Identity g a = record { book = a.blank.book; limits = a.core.state.limits }
