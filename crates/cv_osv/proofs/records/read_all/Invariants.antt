-- What has been read and then the remaining items are the whole.
use Rattle.std.specs.Prelude.{◌≡◌, ◌+◌, [], length, map}
use Rattle.cv_osv.proofs.records.read_all.Given as goal
use Rattle.cv_osv.specs.code.Appended.{all_appended}
use Rattle.serde_json.specs.View.{view}

abbrev pub invariant-loop-remaining : goal.invariant-loop-remaining
invariant-loop-remaining l = record {
  count : length l.records + length l.remaining ≡ length l.fn.items;
  value : all_appended l.records (map view l.remaining) ≡ all_appended [] (map view l.fn.items);
}

abbrev pub decreases-loop-remaining : goal.decreases-loop-remaining
decreases-loop-remaining l = length l.remaining
