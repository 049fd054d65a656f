use Rattle.test_hub.proofs.tests.hub.views_in_threads_show_the_machine_after_their_fronts.Given as goal

-- the ledger, the list and the limits of the hub that is started
abbrev pub ghosts-work_together-L-Ledger : goal.ghosts-work_together-L-Ledger
ghosts-work_together-L-Ledger g a = record { name = a.blank.name; parts = a.blank.parts }

abbrev pub ghosts-work_together-L-Identity : goal.ghosts-work_together-L-Identity
ghosts-work_together-L-Identity g a = record { book = a.blank.book; limits = a.core.state.limits }

-- the ledger that counts the steps of the replay
abbrev pub ghosts-replayed : goal.ghosts-replayed
ghosts-replayed g a = record { name = a.blank.name; parts = a.blank.parts }

-- and of those of the views
abbrev pub ghosts-seats_with_right_views : goal.ghosts-seats_with_right_views
ghosts-seats_with_right_views g a = record { name = a.blank.name; parts = a.blank.parts }
