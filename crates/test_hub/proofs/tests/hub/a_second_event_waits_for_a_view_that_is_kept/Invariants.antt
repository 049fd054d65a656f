use Rattle.test_hub.proofs.tests.hub.a_second_event_waits_for_a_view_that_is_kept.Given as goal

-- the ledger, the list and the limits of the hub that is started
abbrev pub ghosts-keep_and_submit-L-Ledger : goal.ghosts-keep_and_submit-L-Ledger
ghosts-keep_and_submit-L-Ledger g a = record { name = a.blank.name; parts = a.blank.parts }

abbrev pub ghosts-keep_and_submit-L-Identity : goal.ghosts-keep_and_submit-L-Identity
ghosts-keep_and_submit-L-Identity g a = record { book = a.blank.book; limits = a.core.state.limits }
