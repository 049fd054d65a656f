-- No number that is out of range was found so far.
use Rattle.std.proofs.Common.{◌≡◌, drop}
use Rattle.json.specs.Value.{items_view, members_view}
use Rattle.cv_osv_text.specs.Tree.{items_bad_number, members_bad_number}
use Rattle.cv_osv_text.proofs.numbers.+number.Given as goal

abbrev pub invariant-items_bad_number-loop-item : goal.invariant-items_bad_number-loop-item
invariant-items_bad_number-loop-item l = items_bad_number (items_view (drop l.item-index l.item-items)) ≡ items_bad_number (items_view l.item-items)

abbrev pub invariant-members_bad_number-loop-member : goal.invariant-members_bad_number-loop-member
invariant-members_bad_number-loop-member l = members_bad_number (members_view (drop l.member-index l.member-items)) ≡ members_bad_number (members_view l.member-items)
