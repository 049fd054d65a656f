use Rattle.test_hub.proofs.tests.starts.report_of_submitted.Given as goal

-- the ledger, the list and the limits of the hub that is started
abbrev pub ghosts-submit-L-Ledger : goal.ghosts-submit-L-Ledger
ghosts-submit-L-Ledger g a = record { name = a.blank.name; parts = a.blank.parts }

abbrev pub ghosts-submit-L-Identity : goal.ghosts-submit-L-Identity
ghosts-submit-L-Identity g a = record { book = a.blank.book; limits = a.core.state.limits }
