use Rattle.test_hub.proofs.tests.seats.a_seat_has_seen_the_events_of_a_note_that_it_learned.Given as goal

-- the ledger, the list and the limits of the hub that is started
abbrev pub ghosts-play-L-Ledger : goal.ghosts-play-L-Ledger
ghosts-play-L-Ledger g a = record { name = a.blank.name; parts = a.blank.parts }

abbrev pub ghosts-play-L-Identity : goal.ghosts-play-L-Identity
ghosts-play-L-Identity g a = record { book = a.blank.book; limits = a.core.state.limits }
