use Rattle.cv_core_machine.specs.declared.limits.TheConstants.{MAX_FEEDS, MAX_IMAGES}
use Rattle.cv_serve_pushed.proofs.service.serve_over.Given as goal

-- the ledger, the list and the limits of the hub of the service
abbrev pub ghosts-serve_with-L-Ledger : goal.ghosts-serve_with-L-Ledger
ghosts-serve_with-L-Ledger g a = record { name = a.blank.name; parts = a.blank.parts }

abbrev pub ghosts-serve_with-L-Identity : goal.ghosts-serve_with-L-Identity
ghosts-serve_with-L-Identity g a = record { book = a.blank.book; limits = record { images = MAX_IMAGES; feeds = MAX_FEEDS } }
