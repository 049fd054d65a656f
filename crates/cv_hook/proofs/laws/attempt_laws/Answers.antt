use Rattle.cv_hook.proofs.RoundLemmas.{due_again, due_least, due_one, last_later, last_taken, round_from}
use Rattle.cv_hook.proofs.laws.attempt_laws.Goals as goal

pub returns : goal.returns
returns c = record {
  one = due_one;
  round = λ outbox standing lines so. round_from outbox.last standing lines so;
  again = due_again;
  stands = λ outbox standing number due. (due_least outbox standing number due).stands;
  above = λ outbox standing number due. (due_least outbox standing number due).above;
  taken = λ outbox line taken. last_taken line.outcome outbox.last line.number taken;
  later = λ outbox line above. last_later line.outcome outbox.last line.number above;
}
