use Rattle.test_hub.proofs.tests.hub.seats_in_threads_submit_one_list_of_events.Given as goal

-- the ledger, the list and the limits of the hub that is started
abbrev pub ghosts-work_together-L-Ledger : goal.ghosts-work_together-L-Ledger
ghosts-work_together-L-Ledger g a = record { name = a.blank.name; parts = a.blank.parts }

abbrev pub ghosts-work_together-L-Identity : goal.ghosts-work_together-L-Identity
ghosts-work_together-L-Identity g a = record { book = a.blank.book; limits = a.core.state.limits }

-- the ledger that counts the steps of the replay
abbrev pub ghosts-replayed : goal.ghosts-replayed
ghosts-replayed g a = record { name = a.blank.name; parts = a.blank.parts }
