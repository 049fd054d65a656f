use Rattle.cv_serve_pushed.proofs.AgainRounds.{first_again, in_parts, taken_once}
use Rattle.cv_serve_pushed.proofs.RoundLemmas.{all_pushed}
use Rattle.cv_serve_pushed.proofs.WaitRounds.{all_wait}
use Rattle.cv_serve_pushed.proofs.laws.push_laws.Goals as goal

pub returns : goal.returns
returns c = record {
  rounds = all_pushed;
  parts = in_parts;
  again = λ tree workers before earlier first second earlier_lines lines next after now number known attempts is stands.
      first_again tree workers known first second lines next after now number is stands earlier earlier_lines before attempts;
  once = λ tree workers start before rounds hook_lines after now known attempts. taken_once tree workers known start before rounds hook_lines after now attempts;
  waits = λ tree workers offers faults rounds hook_lines after now known attempts. all_wait tree workers known offers faults rounds hook_lines after now attempts;
}
