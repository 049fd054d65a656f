use Rattle.std.proofs.Common.{ap, sym, ◌∙◌}
use Rattle.cv_core_outcome.specs.Facts.{pending_layer}
use Rattle.cv_core_outcome.specs.Truth.{report_with}
use Rattle.cv_core_outcome.proofs.TruthLemmas.{first_same, pending_is, waiting_is}
use Rattle.cv_core_outcome.proofs.laws.pending_laws.Goals as goal

pub returns : goal.returns
returns c = record {
  first = λ tree state facts layers are. first_same state.layers facts layers are.indexed;
  waiting = λ tree state facts feeds image are. waiting_is tree state.layers facts feeds image are;
  outcome = λ tree state facts feeds image layer are.
      (λ pending. sym (waiting_is tree state.layers facts feeds image are) ∙ ap pending_layer pending, pending_is tree state.layers facts feeds image layer are);
  report = λ tree state facts feeds image layer generation are first. ap (report_with generation) (pending_is tree state.layers facts feeds image layer are first);
}
