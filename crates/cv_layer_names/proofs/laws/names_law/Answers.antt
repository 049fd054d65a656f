use Rattle.cv_layer_names.proofs.Keyed.{keys_named, unlisted}
use Rattle.cv_layer_names.proofs.Listed.{listed, names_sorted}
use Rattle.cv_layer_names.proofs.laws.names_law.Goals as goal

pub returns : goal.returns
returns c = record { sorted = names_sorted; listed = listed; unlisted = unlisted; keys = keys_named }
