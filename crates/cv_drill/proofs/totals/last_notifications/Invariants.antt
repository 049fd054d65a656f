use Rattle.std.proofs.Common.{◌≡◌, drop, map}
use Rattle.std.specs.List.{filter_map, last_or}
use Rattle.std.specs.Option.{option_map}
use Rattle.serde_json.specs.View.{view}
use Rattle.cv_drill.specs.Summary.{last_notifications, notifications}
use Rattle.cv_drill.proofs.totals.last_notifications.Given as goal

-- the last list of the remaining objects, or else the last one so far, is the last one
abbrev pub invariant-loop-value : goal.invariant-loop-value
invariant-loop-value l =
    last_or (option_map (λ notices. map view notices.now) l.last) (filter_map notifications (map view (drop l.value-index l.values)))
    ≡ last_notifications (map view l.values)
