-- What has been read and then the remaining items are the whole.
use Rattle.std.specs.Prelude.{◌≡◌, ◌+◌, [], length, map}
use Rattle.cv_osv.specs.code.Appended.{all_appended}
use Rattle.cv_request.proofs.record_list.read_all.Given as goal

abbrev pub invariant-loop-remaining : goal.invariant-loop-remaining
invariant-loop-remaining g l = record {
  count : length l.records + length l.remaining ≡ length l.fn.items;
  value : all_appended l.records (map g.V.Node.data_of l.remaining) ≡ all_appended [] (map g.V.Node.data_of l.fn.items);
}

abbrev pub decreases-loop-remaining : goal.decreases-loop-remaining
decreases-loop-remaining g l = length l.remaining
