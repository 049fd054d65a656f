use Rattle.cv_core_machine.proofs.FeedLemmas.{given_found, opening_has_generations, others_stay, reachable_have_generations, step_have_generations}
use Rattle.cv_core_machine.proofs.laws.feed_laws.Goals as goal

pub returns : goal.returns
returns c = record {
  others = others_stay;
  records = λ trees state act feed generation count key is. (given_found trees state act feed generation count key is).0;
  generation = λ trees state act feed generation count key is. (given_found trees state act feed generation count key is).1;
  opening = opening_has_generations;
  have = step_have_generations;
  reachable = reachable_have_generations;
}
