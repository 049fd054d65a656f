use Rattle.std.proofs.Common.{◌∙◌, ap, map, rules}
use Rattle.std.proofs.lemmas.List.{map-append}
use Rattle.serde_json.specs.View.{view}
use Rattle.cv_drill.specs.Records.{is_kept, record_data}
use Rattle.cv_drill.proofs.Lists.{kept_next, kept_same}
use Rattle.cv_drill.proofs.record.records_value.Goals as goal
use Rattle.cv_drill.proofs.record.records_value.Goals.{then-has+in_ok-record_value+in_ok-push, else-has}

pub loop-number-preserved : goal.loop-number-preserved
loop-number-preserved c = elim c.if-has.branch [
  | then-has+in_ok-record_value+in_ok-push w ↦
      ap (λ v. map view v.items) w.items-is ∙ ap (map view) w.in_ok-push.ensures.items ∙ map-append view _ _
      ∙ kept_next (record_data c.args.update) (is_kept c.args.update) c.loop-number.number _ _ (search rules) c.loop-number.invariant w.in_ok-record_value.ensures
  | else-has w ↦
      ap (λ v. map view v.items) w.items-is
      ∙ kept_same (record_data c.args.update) (is_kept c.args.update) c.loop-number.number _ (search rules) c.loop-number.invariant
]
