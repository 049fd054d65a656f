use Rattle.std.proofs.Common.{◌≡◌, drop}
use Rattle.serde_json.specs.View.{items_view, members_view}
use Rattle.cv_drill.specs.Transcript.{items_have_number, members_have_number}
use Rattle.cv_drill.proofs.transcript.+numbers.Given as goal

-- the members so far have none
abbrev pub invariant-members_have_number-loop-key : goal.invariant-members_have_number-loop-key
invariant-members_have_number-loop-key l =
    (goal.iterator-members_have_number-loop-key).can_next l._key-iterator ×
    (goal.iterator-members_have_number-loop-key).is_finite l._key-iterator ×
    (members_have_number (members_view l._key-iterator) ≡ members_have_number (members_view l.members.entries))

-- the values so far have none
abbrev pub invariant-values_have_number-loop-value : goal.invariant-values_have_number-loop-value
invariant-values_have_number-loop-value l = items_have_number (items_view (drop l.value-index l.values)) ≡ items_have_number (items_view l.values)
